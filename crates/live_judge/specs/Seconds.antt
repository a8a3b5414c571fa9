-- The second of segments that are equally long, and sums that stop at the last value of a counter.
use Rattle.std.specs.Prelude.{◌≡◌, ℕ, ◌+◌, ◌-◌, ◌^◌, min, pos, ◌+ℤ◌, ◌<ℤ◌}
use Rattle.exact_time.specs.{Time.{IsAtMost, Time, difference, seconds}, Tick.time_of, Equal.ticks_after, Rounding.{rounding_behind, total}}
use Rattle.timeline.specs.declared.span.SpanRun.{SpanRun}

abbrev pub second_end : SpanRun → Time
second_end spans = ticks_after (time_of spans.first.end) spans.step

-- its end is a valid argument for a `Rounder`
pub record IsSecondNear (spans : SpanRun) : Type 0 where
  pub near : IsAtMost (difference (second_end spans) (time_of spans.first.end)) (seconds 2000000)
  pub room : (spans.first.end.n +ℤ pos spans.step) <ℤ pos (2 ^ 64)

-- its printed duration
abbrev pub IsSecond : (first : Time) → (unit : ℕ) → SpanRun → (printed : ℕ) → Type 0
IsSecond first unit spans printed =
    total (rounding_behind first unit (time_of spans.first.end)) + printed ≡ total (rounding_behind first unit (second_end spans))

abbrev pub capped : ℕ → ℕ
capped n = min (2 ^ 128 - 1) n
