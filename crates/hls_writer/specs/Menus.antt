-- What the menus of players show of renditions, and which of them a player plays of itself (RFC 8216, 4.3.4.1).
use Rattle.std.specs.Prelude.{ℕ, ◌+◌, ◌==◌, ◌&&◌, ◌||◌, not, Bool, false, List, [], ◌∷◌, ◌++◌, slice_get, position, count_by}
use Rattle.std.specs.Prelude.{if◌then◌else◌, Option, Some, None, option_and_then}
use Rattle.std.specs.Option.{option_eq, option_map_or, option_or}
use Rattle.track_hints.specs.declared.hints.{Hints.Hints, TrackHints.TrackHints}
use Rattle.presentation.specs.declared.track.Track.{Track}
use Rattle.audio_groups.specs.Groups.{is_audio, same_text}
use Rattle.hls_writer.specs.declared.menus.{Purpose.Purpose, RenditionName.RenditionName}
use Rattle.hls_writer.specs.declared.menus.RenditionName.TheVariants.{Numbered, Labelled, Shared}
use Rattle.hls_writer.specs.{declared.attribute.RenditionGroup.RenditionGroup, declared.attribute.RenditionGroup.TheVariants.Audio}
use Rattle.hls_writer.specs.declared.attribute.RenditionGroup.TheVariants.{Subtitles}

-- what is told of the tracks
abbrev pub hints_in : Option Hints → List TrackHints
hints_in None = []
hints_in (Some hints) = hints.tracks

abbrev pub is_place : ℕ → Option ℕ → Bool
is_place place None = false
is_place place (Some member) = place == member

-- the first of some places that passes a test
abbrev pub first_that : (ℕ → Bool) → List ℕ → Option ℕ
first_that test [] = None
first_that test (place ∷ later) = if test place then Some place else first_that test later

-- ---- names

-- an audio track of a track's set
abbrev pub is_in_set_of : Track → Track → Bool
is_in_set_of track other = is_audio other.kind && track.set == other.set

-- an audio track that is the first one of its set
abbrev pub is_head : List Track → ℕ → Track → Bool
is_head tracks place track = is_audio track.kind && is_place place (position (is_in_set_of track) tracks)

-- The first track of each audio set: those that were found before, and those of the tracks from an index on.
abbrev pub heads_from : List Track → List ℕ → ℕ → List Track → List ℕ
heads_from tracks found place [] = found
heads_from tracks found place (track ∷ later) =
    if is_head tracks place track then heads_from tracks (found ++ place ∷ []) (place + 1) later
    else heads_from tracks found (place + 1) later

abbrev pub heads_of : List Track → List ℕ
heads_of tracks = heads_from tracks [] 0 tracks

abbrev pub label_at : List TrackHints → ℕ → Option (List ℕ)
label_at hints place = option_and_then (λ h. h.label) (slice_get hints place)

abbrev pub is_labelled : List TrackHints → List ℕ → ℕ → Bool
is_labelled hints label place = option_map_or (same_text label) (label_at hints place) false

-- one of the places alone has the label
abbrev pub is_single : List TrackHints → (heads : List ℕ) → List ℕ → Bool
is_single hints heads label = count_by (is_labelled hints label) heads == 1

abbrev pub name_with : List TrackHints → (heads : List ℕ) → (number place : ℕ) → Option (List ℕ) → RenditionName
name_with hints heads number place None = Numbered number
name_with hints heads number place (Some label) = if is_single hints heads label then Labelled place else Shared place number

-- The name of an audio set by the first tracks of the sets, or of a text track by the text tracks: its label, where it has one that no
-- other one of them has; otherwise the label, or without one the language, with its number.
abbrev pub name_at : List TrackHints → (heads : List ℕ) → (number : ℕ) → RenditionName
name_at hints heads number =
    option_map_or (λ place. name_with hints heads number place (label_at hints place)) (slice_get heads number) (Numbered number)

-- ---- which of them is played

abbrev pub is_main : List TrackHints → ℕ → Bool
is_main hints place = option_map_or (λ h. h.main) (slice_get hints place) false

-- the group's first member that is the main one; where none is, its first member
abbrev pub main_member : List TrackHints → (members : List ℕ) → Option ℕ
main_member hints members = option_or (first_that (is_main hints) members) (slice_get members 0)

-- the member that is DEFAULT; no text track is
abbrev pub default_member : RenditionGroup → List TrackHints → (members : List ℕ) → Option ℕ
default_member (Audio group) hints members = main_member hints members
default_member Subtitles hints members = None

abbrev pub purpose_of : TrackHints → Purpose
purpose_of h = record { describes = h.describes; transcribes = h.transcribes; forced = h.forced }

abbrev pub no_purpose : Purpose
no_purpose = record { describes = false; transcribes = false; forced = false }

abbrev pub purpose_at : List TrackHints → ℕ → Purpose
purpose_at hints place = option_map_or purpose_of (slice_get hints place) no_purpose

abbrev pub is_same : Bool → Bool → Bool
is_same one other = if one then other else not other

abbrev pub is_same_purpose : Purpose → Purpose → Bool
is_same_purpose one other =
    is_same one.describes other.describes && (is_same one.transcribes other.transcribes && is_same one.forced other.forced)

abbrev pub language_at : List Track → ℕ → Option (List ℕ)
language_at tracks place = option_and_then (λ track. track.language) (slice_get tracks place)

-- a track of the same language, or both without one, and of the same purpose
abbrev pub is_like : List Track → List TrackHints → ℕ → ℕ → Bool
is_like tracks hints place other =
    option_eq same_text (language_at tracks place) (language_at tracks other)
    && is_same_purpose (purpose_at hints place) (purpose_at hints other)

abbrev pub is_like_one : List Track → List TrackHints → ℕ → Option ℕ → Bool
is_like_one tracks hints place None = false
is_like_one tracks hints place (Some other) = is_like tracks hints place other

-- the first one of the group that is like the track, where the default one isn't
abbrev pub is_first_like : List Track → List TrackHints → (members : List ℕ) → (default : Option ℕ) → ℕ → Bool
is_first_like tracks hints members default place =
    not (is_like_one tracks hints place default) && is_place place (first_that (is_like tracks hints place) members)

-- A player may choose the default one, and each other one to which neither the default one nor an earlier one is alike.
abbrev pub is_choosable : List Track → List TrackHints → (members : List ℕ) → (default : Option ℕ) → ℕ → Bool
is_choosable tracks hints members default place = is_place place default || is_first_like tracks hints members default place
