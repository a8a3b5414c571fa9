-- The printed durations of segments, run by run.
use Rattle.std.specs.Prelude.{◌≡◌, ◌⊎◌, ℕ, ◌+◌, ◌≤◌, List, [], ◌∷◌, ◌++◌, slice_get, All, Some}
use Rattle.exact_time.specs.{Time.{IsAtMost, IsTime, Time}, Tick.time_of, Equal.summed_up, Rounding.Rounding}
use Rattle.timeline.specs.Expansions.{Timing}
use Rattle.presentation.specs.Kept.{ArePacedBehind, durations_behind}
use Rattle.live_judge.specs.{declared.times.NewTimes.NewTimes, declared.times.NewRun.NewRun}

-- the durations that are left
abbrev pub left_of : NewTimes → List ℕ
left_of t = durations_behind t.rounder t.walk

-- segments whose ends are valid arguments for a `Rounder` in turn
pub record IsPacedBy (walk : List Timing) (r : Rounding) (first : Time) (unit : ℕ) : Type 0 where
  pub first_is : r.first ≡ first
  pub unit_is : r.unit ≡ unit
  pub former : IsTime r.former
  pub begun : IsAtMost r.first r.former
  pub paced : ArePacedBehind walk r

abbrev pub IsPaced : NewTimes → Type 0
IsPaced t = IsPacedBy t.walk t.rounder (time_of t.first) t.unit

-- the next segments are equally long, but the first one may follow a gap
pub record IsRun (ds : List ℕ) (run : NewRun) : Type 0 where
  pub others : List ℕ
  pub is : ds ≡ run.first ∷ others
  pub summed : run.others ≡ summed_up others
  pub even : All (λ duration. run.others.longest ≤ duration + 1) others
  pub second : (others ≡ []) ⊎ (slice_get others 0 ≡ Some run.second)

pub record IsNextRun (old : NewTimes) (run : NewRun) (new : NewTimes) : Type 0 where
  pub ds : List ℕ
  pub next : left_of old ≡ ds ++ left_of new
  pub tells : IsRun ds run
  pub paced : IsPaced new
