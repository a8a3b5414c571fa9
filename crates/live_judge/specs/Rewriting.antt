-- Kept segments of a Period, compared with those of a new MPD.
use Rattle.std.specs.Prelude.{◌≡◌, ℕ, ◌-◌, ◌≤◌, ◌&&◌, not, min, Bool, false, List, [], ◌∷◌, filter, take, drop, reverse, length}
use Rattle.std.specs.Prelude.{slice_get, All, Option, Some, None, option_map, if◌then◌else◌}
use Rattle.exact_time.specs.Time.{IsTime, Time, at_most}
use Rattle.timeline.specs.{Expansions.Timing, Listed.timing_of, Steady.ArePaced}
use Rattle.presentation.specs.Presented.{Presented}
use Rattle.live_meaning.specs.{Updates.Values, Histories.Common, States.Track, Refusals.{Refusal, expansion_at, is_same_timing}}
use Rattle.live_meaning.specs.Refusals.{rewritten_told}
use Rattle.live_judge.specs.{declared.rewritten.Ended.Ended, declared.rewritten.Pair.Pair}

-- which kept segments an update's MPD has with different times
abbrev pub kept_told : Common → Option Values → Presented → List Track → List Refusal
kept_told c None p tracks = []
kept_told c (Some mpd) p tracks = rewritten_told c p 0 tracks

-- each segment ends at a time
abbrev pub EndAtTimes : Presented → Type 0
EndAtTimes p = (t s : ℕ) → All (λ x. IsTime x.end) (expansion_at p t s)

-- the segments that end by a time, and those that end at or after one
abbrev pub ends_by : (last : Time) → List Timing → List Timing
ends_by last xs = filter (λ x. at_most x.end last) xs

abbrev pub ends_from : (first : Time) → List Timing → List Timing
ends_from first xs = filter (λ x. at_most first x.end) xs

-- these are the last of some segments that end by a time, at most `most`
pub record IsLastEnded (all : List Timing) (last : Time) (most : ℕ) (ended : Ended) : Type 0 where
  pub paced : ArePaced all
  pub count : ended.count ≡ min most (length (ends_by last all))
  pub within : ended.count ≤ length ended.walk
  pub are : take ended.count ended.walk ≡ drop (length (ends_by last all) - ended.count) (ends_by last all)

abbrev pub pair_of : Pair → Option Timing × Timing
pair_of pair = (option_map timing_of pair.kept, timing_of pair.new)

abbrev pub is_same_as : Option Timing → Timing → Bool
is_same_as None new = false
is_same_as (Some old) new = is_same_timing old new

-- a new segment with the kept one that has as many segments after it, where it ends at or after a time and differs; otherwise
-- another pair
abbrev pub or_other : (kept : List Timing) → (left : ℕ) → (first : Time) → Timing → Option (Option Timing × Timing)
    → Option (Option Timing × Timing)
or_other kept left first new found = let old = slice_get (reverse kept) left in
    if at_most first new.end && not (is_same_as old new) then Some (old, new) else found

-- kept segments compared with new ones: the last pair that differs of those that end at or after a time
unfoldable pub held : (kept : List Timing) → (first : Time) → (new : List Timing) → Option (Option Timing × Timing)
    → Option (Option Timing × Timing)
held kept first [] found = found
held kept first (x ∷ xs) found = held kept first xs (or_other kept (length xs) first x found)
