-- What an update lists after the last segments, section by section.
use Rattle.std.specs.{Prelude.{◌≡◌, ℕ, ◌+◌, Bool, true, List, [], map, filter, slice_get, IfSome, Some}, Option.option_map_or}
use Rattle.timeline.specs.{Expansions.Timing, Listed.listed_from, Steady.IsWithinLimits}
use Rattle.presentation.specs.Presented.{Presented, content_at, listed_at, start_of, window_of}
use Rattle.followed.specs.Durations.{durations, told_behind}
use Rattle.live_meaning.specs.{Updates.unit_of, Segments.{Numbering, Segment, is_later, segment_with, timing_of}, Histories.Common}
use Rattle.live_meaning.specs.{Histories.numbering_of, States.Track}

-- the Period of a section has the index `place + section`
abbrev pub is_new_in : (place : ℕ) → Track → (section : ℕ) → Timing → Bool
is_new_in place track section x = option_map_or (λ last. is_later last track.place (place + section) x.end) track.last true

abbrev pub new_timings : Presented → (place : ℕ) → Track → (track section : ℕ) → List Timing
new_timings p place of track section = filter (is_new_in place of section) (listed_at p section track)

abbrev pub new_in : Numbering → Presented → (place : ℕ) → Track → (track section : ℕ) → List Segment
new_in n p place of track section =
    option_map_or (λ content. map (segment_with n (place + section) (start_of p section) content) (new_timings p place of track section))
    (content_at p section track) []

-- their printed durations
abbrev pub durations_in : Common → (place : ℕ) → Track → (track section : ℕ) → List ℕ
durations_in c place of track section =
    durations (told_behind (unit_of c.terms) of.last (new_in (numbering_of c) c.force place of track section))

-- the segments from an index on are the new ones
abbrev pub StartsNew : Presented → (place : ℕ) → Track → (track section cursor : ℕ) → Type 0
StartsNew p place of track section cursor =
    IfSome (content_at p section track) (λ content. listed_from cursor content.runs (window_of p section)
    ≡ new_timings p place of track section)

-- the first one of some segments has this section and these times
pub record IsFirstNew (number : ℕ) (times : Timing) (xs : List Segment) : Type 0 where
  pub segment : Segment
  pub first : slice_get xs 0 ≡ Some segment
  pub numbered : segment.section ≡ number
  pub timed : timing_of segment ≡ times
  pub limits : IsWithinLimits times
