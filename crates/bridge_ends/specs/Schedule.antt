-- Which calls of an object in memory fail.
use Rattle.std.specs.{Prelude.{◌≡◌, ◌+◌, ◌-◌, ◌^◌, ◌==◌, Bool, min, if◌then◌else◌}, List.list_any}
use Rattle.bridge_ends.specs.declared.schedule.Schedule.{Schedule}

-- whether the next call is listed to fail
abbrev pub fails_next : Schedule → Bool
fails_next schedule = list_any (λ call. call == schedule.calls) schedule.failing

-- A call was counted, and its failure where it failed. Counters stop at their last value.
pub record Counts (before after : Schedule) : Type 0 where
  pub failing : after.failing ≡ before.failing
  pub calls : after.calls ≡ min (before.calls + 1) (2 ^ 128 - 1)
  pub faults : after.faults ≡ (if fails_next before then min (before.faults + 1) (2 ^ 64 - 1) else before.faults)

-- no call was made yet
pub record IsFresh (schedule : Schedule) : Type 0 where
  pub calls : schedule.calls ≡ 0
  pub faults : schedule.faults ≡ 0
