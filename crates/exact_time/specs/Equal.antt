-- The printed durations of equally long segments.
use Rattle.std.specs.Prelude.{ℕ, zero, suc, ◌+◌, ◌*◌, ◌==◌, pos, ◌+ℤ◌, max, List, [], ◌∷◌, map, sum, if◌then◌else◌}
use Rattle.exact_time.specs.{Time.{Time, difference}, Floor.floor_in, Rounding.{Rounding, differences, total}, declared.rounder.Equal.Equal}

-- the time a number of ticks later
abbrev pub ticks_after : Time → ℕ → Time
ticks_after time ticks = record { ticks = time.ticks +ℤ pos ticks; scale = time.scale }

-- the ends of `count` segments, each `step` ticks long: the first one begins at `former`, each other one where the one
-- before it ends
unfoldable pub ends_after : (former : Time) → (step count : ℕ) → List Time
ends_after former step zero = []
ends_after former step (suc count) = ticks_after former step ∷ ends_after (ticks_after former step) step count

-- what a `Rounder` returns for these ends in turn
abbrev pub durations_behind : Rounding → List Time → List ℕ
durations_behind r ends = differences (total r) (map (λ end. floor_in r.unit (difference end r.first)) ends)

-- what it returns for `count` segments that are `step` ticks long
abbrev pub equal_durations : Rounding → (step count : ℕ) → List ℕ
equal_durations r step count = durations_behind r (ends_after r.former step count)

-- the greatest of some numbers
abbrev pub greatest : List ℕ → ℕ
greatest [] = 0
greatest (n ∷ ns) = max n (greatest ns)

abbrev pub summed_up : List ℕ → Equal
summed_up durations = record { total = sum durations; longest = greatest durations }

-- the longest of `count` durations with this sum, each of which is `least` or one more
abbrev pub longest_by : (total least count : ℕ) → ℕ
longest_by total least count = if count == 0 then 0 else (if total == least * count then least else least + 1)
