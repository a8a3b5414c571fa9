-- The renditions of a master playlist (RFC 8216, 4.3.4.1).
use Rattle.bridge_io.specs.declared.media.Kind.TheVariants as kind
use Rattle.std.specs.Prelude.{ℕ, ◌+◌, ◌==◌, Bool, true, false, List, [], ◌∷◌, ◌++◌, map, slice_get, position}
use Rattle.std.specs.Prelude.{if◌then◌else◌, Option, Some, None, option_map, option_and_then, option_to_list, unwrap_or}
use Rattle.std.specs.List.{flat_map}
use Rattle.bridge_io.specs.declared.media.Kind.{Kind}
use Rattle.track_hints.specs.declared.hints.{Hints.Hints, TrackHints.TrackHints}
use Rattle.presentation.specs.{declared.track.Track.Track, Order.is_of}
use Rattle.audio_groups.specs.{Keys.own_group, declared.keys.Key.Key}
use Rattle.hls_writer.specs.Attributes.{WrittenAttribute, media_type, group_id, name, label, language, default, autoselect, forced}
use Rattle.hls_writer.specs.Attributes.{describes_video, transcribes_sound, channels, playlist}
use Rattle.hls_writer.specs.Menus.{hints_in, is_place, name_at, label_at, language_at, purpose_at, default_member, is_choosable}
use Rattle.hls_writer.specs.{Lines.{WrittenLine, rendition, line_text}, declared.attribute.RenditionGroup.RenditionGroup}
use Rattle.hls_writer.specs.declared.attribute.RenditionGroup.TheVariants.{Audio, Subtitles}
use Rattle.hls_writer.specs.declared.menus.{Purpose.Purpose, RenditionName.RenditionName}
use Rattle.hls_writer.specs.declared.menus.RenditionName.TheVariants.{Numbered, Labelled, Shared}
use Rattle.hls_writer.specs.declared.renditions.Rendition.{Rendition}

-- The indices of the tracks of a kind: those that were found before, and those from an index on.
abbrev pub places_from : Kind → List ℕ → ℕ → List Track → List ℕ
places_from kind found place [] = found
places_from kind found place (track ∷ later) =
    if is_of kind track.kind then places_from kind (found ++ place ∷ []) (place + 1) later else places_from kind found (place + 1) later

abbrev pub places_of : Kind → List Track → List ℕ
places_of kind tracks = places_from kind [] 0 tracks

-- the members of a group
abbrev pub members_in : {X : Type 0} → List (List X) → ℕ → List X
members_in groups group = unwrap_or (slice_get groups group) []

-- what renditions and variants are made of
pub record LaidOut : Type 0 where
  -- what is told for players, where the text is for them
  pub players : Option Hints
  pub tracks : List Track
  -- the tracks as they are grouped: by codecs, or by families of codecs
  pub grouped : List Track
  -- the groups' keys
  pub keys : List Key
  -- by group, then by audio set
  pub groups : List (List (Option ℕ))
  -- the tracks of each group
  pub members : List (List ℕ)
  -- the first track of each audio set
  pub heads : List ℕ
  -- the text tracks
  pub texts : List ℕ

-- Plain, the tracks of the first audio set are DEFAULT; for players, one member of each audio group is.
abbrev pub is_first_of : RenditionGroup → ℕ → Bool
is_first_of (Audio group) number = number == 0
is_first_of Subtitles number = false

abbrev pub is_default : Option Hints → (members : List ℕ) → RenditionGroup → (number place : ℕ) → Bool
is_default None members group number place = is_first_of group number
is_default (Some hints) members group number place = is_place place (default_member group hints.tracks members)

-- Plain, all are AUTOSELECT; for players, those that differ.
abbrev pub is_autoselect : Option Hints → List Track → (members : List ℕ) → RenditionGroup → (place : ℕ) → Bool
is_autoselect None tracks members group place = true
is_autoselect (Some hints) tracks members group place =
    is_choosable tracks hints.tracks members (default_member group hints.tracks members) place

-- a track in a group with these members, by the number of its audio set or its own one among the text tracks
abbrev pub rendition_of : Option Hints → List Track → (heads members : List ℕ) → RenditionGroup → (number place : ℕ) → Rendition
rendition_of players tracks heads members group number place = record {
  group = group;
  name = name_at (hints_in players) heads number;
  is_default = is_default players members group number place;
  is_autoselect = is_autoselect players tracks members group place;
  track = place;
}

-- an audio track in a group
abbrev pub audio_rendition : LaidOut → (group number place : ℕ) → Rendition
audio_rendition l group number place = rendition_of l.players l.tracks l.heads (members_in l.members group) (Audio group) number place

-- An audio track in its own group, in which its index is that of its set among the audio sets.
abbrev pub own_in : LaidOut → (group place : ℕ) → Rendition
own_in l group place = audio_rendition l group (unwrap_or (position (is_place place) (members_in l.groups group)) 0) place

-- an audio track's own group
abbrev pub group_of : LaidOut → ℕ → ℕ
group_of l place = own_group l.grouped l.keys place

abbrev pub own_rendition : LaidOut → ℕ → Rendition
own_rendition l place = own_in l (group_of l place) place

abbrev pub own_renditions : LaidOut → List Rendition
own_renditions l = map (own_rendition l) (places_of kind.Audio l.tracks)

-- a set's member of a group, if it isn't the member's own group
abbrev pub filled_at : LaidOut → (group set : ℕ) → Option ℕ → Option Rendition
filled_at l group set None = None
filled_at l group set (Some place) = if group_of l place == group then None
    else Some (audio_rendition l group set place)

abbrev pub with_one : List Rendition → Option Rendition → List Rendition
with_one found None = found
with_one found (Some one) = found ++ one ∷ []

-- the members of a group for which it isn't their own, from a set on
abbrev pub filled_from : LaidOut → (group : ℕ) → List Rendition → (set : ℕ) → List (Option ℕ) → List Rendition
filled_from l group found set [] = found
filled_from l group found set (member ∷ later) =
    filled_from l group (with_one found (filled_at l group set member)) (set + 1) later

-- and those of the groups from a number on, after those that were found before
abbrev pub filled_renditions : LaidOut → List Rendition → (group : ℕ) → List (List (Option ℕ)) → List Rendition
filled_renditions l found group [] = found
filled_renditions l found group (members ∷ later) = filled_renditions l (found ++ filled_from l group [] 0 members) (group + 1) later

-- a text track by its number among them
abbrev pub text_rendition : LaidOut → (number place : ℕ) → Rendition
text_rendition l number place = rendition_of l.players l.tracks l.texts l.texts Subtitles number place

-- the text tracks, from a number on
abbrev pub text_from : LaidOut → List Rendition → ℕ → List ℕ → List Rendition
text_from l found number [] = found
text_from l found number (place ∷ later) = text_from l (found ++ text_rendition l number place ∷ []) (number + 1) later

-- The audio tracks, each in its own group; then by group and set the tracks that fill a group that isn't their own; then
-- the text tracks.
abbrev pub renditions_of : LaidOut → List Rendition
renditions_of l = own_renditions l ++ filled_renditions l [] 0 l.groups ++ text_from l [] 0 l.texts

abbrev pub present : List (Option WrittenAttribute) → List WrittenAttribute
present attributes = flat_map option_to_list attributes

abbrev pub tagged : List ℕ → WrittenAttribute
tagged tag = language tag

abbrev pub of_name : List TrackHints → (language : Option (List ℕ)) → RenditionName → WrittenAttribute
of_name hints tag (Numbered number) = name tag number
of_name hints tag (Labelled place) = label (unwrap_or (label_at hints place) [])
of_name hints tag (Shared place number) = name (label_at hints place) number

abbrev pub if_so : Bool → WrittenAttribute → Option WrittenAttribute
if_so is attribute = if is then Some attribute else None

-- FORCED of text
abbrev pub of_forced : RenditionGroup → Purpose → Option WrittenAttribute
of_forced (Audio group) purpose = None
of_forced Subtitles purpose = if_so purpose.forced forced

-- CHARACTERISTICS
abbrev pub of_purpose : RenditionGroup → Purpose → Option WrittenAttribute
of_purpose (Audio group) purpose = if_so purpose.describes describes_video
of_purpose Subtitles purpose = if_so purpose.transcribes transcribes_sound

abbrev pub channels_at : List TrackHints → ℕ → Option ℕ
channels_at hints place = option_and_then (λ h. h.channels) (slice_get hints place)

abbrev pub counted : ℕ → WrittenAttribute
counted count = channels count

-- CHANNELS of audio
abbrev pub of_channels : RenditionGroup → Option ℕ → Option WrittenAttribute
of_channels (Audio group) count = option_map counted count
of_channels Subtitles count = None

-- the attributes of a rendition after TYPE
abbrev pub rendition_attributes : List Track → List TrackHints → Rendition → List WrittenAttribute
rendition_attributes tracks hints r = let tag = language_at tracks r.track in let purpose = purpose_at hints r.track in present (
    Some (group_id r.group)
    ∷ Some (of_name hints tag r.name)
    ∷ option_map tagged tag
    ∷ Some (default r.is_default)
    ∷ Some (autoselect r.is_autoselect)
    ∷ of_forced r.group purpose
    ∷ of_purpose r.group purpose
    ∷ of_channels r.group (channels_at hints r.track)
    ∷ Some (playlist r.track)
    ∷ []
    )

-- EXT-X-MEDIA
abbrev pub rendition_line : List Track → List TrackHints → Rendition → WrittenLine
rendition_line tracks hints r = rendition (media_type r.group) (rendition_attributes tracks hints r)

abbrev pub rendition_text : List Track → List TrackHints → Rendition → List ℕ
rendition_text tracks hints r = line_text (rendition_line tracks hints r)
