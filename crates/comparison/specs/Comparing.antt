-- What is compared of two presentations, part by part.
use Rattle.meaning.specs.declared.difference.Aspect.TheVariants as aspect
use Rattle.std.specs.Prelude.{◌≡◌, ℕ, ◌+◌, ◌==◌, ◌&&◌, Bool, true, List, [], ◌∷◌, map, length, bytes_eq, All, Option, Some, None, Ok}
use Rattle.std.specs.{Prelude.if◌then◌else◌, Option.{option_eq, option_or}}
use Rattle.bridge_io.specs.Firsts.{first_some}
use Rattle.exact_time.specs.Time.{Time, difference}
use Rattle.url_parts.specs.declared.address.Part.{Part}
use Rattle.timeline.specs.Listed.{Made}
use Rattle.meaning.specs.{declared.difference.Difference.Difference, Meanings.{Segment, Entry}, Differences.{is_same_kind, unless, in_all}}
use Rattle.meaning.specs.Differences.{in_track, entry_difference, is_same_or_rounded, segments_difference}
use Rattle.presentation.specs.{declared.track.Track.Track, Counting.{counted, count_of_all, sections_of, tracks_of}, Laws.HasAddress}
use Rattle.presentation.specs.{Meanings.{entry_at, language_of, segment_of}, Origins.CameFromPlaylists, Presented.{Presented, is_finished}}
use Rattle.presentation.specs.{Printing.PrintedRest, Verifying.verified}
use Rattle.comparison.specs.declared.spot.Spot.{Spot}

-- The first presentation is VOD, and its listed segments have URLs; those of the second one are given by URLs, and `count`
-- succeeds for it.
pub record AreComparable (unit : ℕ) (mpd playlists : Presented) : Type 0 where
  pub longest : List ℕ
  pub verified : verified mpd unit ≡ Ok longest
  pub finished : is_finished mpd ≡ true
  pub came : CameFromPlaylists playlists
  pub counted : counted playlists ≡ Ok (count_of_all playlists)

-- ---- segments

-- the meaning of a segment that is made
abbrev pub segment_made : Made → Segment
segment_made made = record { part = made.part; start = made.times.start; end = made.times.end }

-- the meaning of the segments that are left
abbrev pub segments_left : PrintedRest → List Segment
segments_left rest = map (λ x. segment_of rest.timeline x.times) rest.left

abbrev pub AreAddressed : PrintedRest → Type 0
AreAddressed rest = All (λ x. HasAddress rest.timeline x.times) rest.left

-- the content of a track in a section: `None` where no segment is listed
abbrev pub entry_made : Part → List Segment → Option Entry
entry_made initialization [] = None
entry_made initialization (x ∷ xs) = Some (record { initialization = initialization; segments = x ∷ xs })

abbrev pub is_same_end : ℕ → (begin_a begin_b : Time) → (a b : Segment) → Bool
is_same_end unit begin_a begin_b a b = is_same_or_rounded unit (difference a.end begin_a) (difference b.end begin_b)

-- segment by segment from a spot on
abbrev pub behind : Spot → Spot
behind at = record at { segment = at.segment + 1 }

abbrev pub segments_from : ℕ → Spot → (begin_a begin_b : Time) → (xs ys : List Segment) → Option Difference
segments_from unit at begin_a begin_b xs ys = segments_difference unit at.track at.section at.segment begin_a begin_b xs ys

-- ---- contents

-- the first difference of a track in a section, of a track, and of all tracks
abbrev pub difference_at : ℕ → Presented → Presented → (t s : ℕ) → Option Difference
difference_at unit a b t s = entry_difference unit t s (entry_at a s t) (entry_at b s t)

abbrev pub difference_of : ℕ → Presented → Presented → (t : ℕ) → Option Difference
difference_of unit a b t = first_some (map (difference_at unit a b t) (sections_of a))

abbrev pub contents_difference : ℕ → Presented → Presented → Option Difference
contents_difference unit a b = first_some (map (difference_of unit a b) (tracks_of a))

-- ---- the kinds and languages of the tracks

abbrev pub is_same_track : Track → Track → Bool
is_same_track a b = is_same_kind a.kind b.kind && option_eq bytes_eq (language_of a.kind a.language) (language_of b.kind b.language)

-- track by track, given the index of the first one
abbrev pub tracks_difference : ℕ → (xs ys : List Track) → Option Difference
tracks_difference t [] ys = None
tracks_difference t (a ∷ xs) [] = None
tracks_difference t (a ∷ xs) (b ∷ ys) = option_or (unless (is_same_track a b) (in_track t aspect.Track)) (tracks_difference (t + 1) xs ys)

-- where there is no track, no section has content
abbrev pub sections_meant : Presented → ℕ
sections_meant p = if length p.tracks == 0 then 0 else length p.sections

-- the numbers of sections and of tracks, and then the tracks' kinds and languages
abbrev pub heads_difference : Presented → Presented → Option Difference
heads_difference a b =
    option_or (unless (sections_meant a == sections_meant b) (in_all aspect.Sections))
    (option_or (unless (length a.tracks == length b.tracks) (in_all aspect.Tracks)) (tracks_difference 0 a.tracks b.tracks))
