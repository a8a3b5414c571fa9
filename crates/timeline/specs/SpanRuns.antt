-- The next segments of equal length.
use Rattle.std.specs.Prelude.{◌≡◌, ◌+◌, ◌-◌, ◌*◌, ◌<◌, ◌≤◌, ◌^◌, pos, ◌+ℤ◌, ◌<ℤ◌, List, ◌∷◌, ◌++◌, map}
use Rattle.exact_time.specs.{Equal.ends_after, Tick.time_of}
use Rattle.timeline.specs.{Durations.extent_of, Expansions.{Timing, numbered, repeated}, declared.span.SpanRun.SpanRun}

abbrev pub timings_of : SpanRun → List Timing
timings_of run = numbered run.first.number (repeated run.count (extent_of run.first))

-- The next segments were passed. A `Rounder` takes the first end by `next`, and the others by `next_equal`, which requires
-- this room.
pub record IsNextRun (old : List Timing) (run : SpanRun) (new : List Timing) : Type 0 where
  pub next : old ≡ timings_of run ++ new
  pub some : 0 < run.count
  pub ends : map (λ x. x.end) (timings_of run) ≡ time_of run.first.end ∷ ends_after (time_of run.first.end) run.step (run.count - 1)
  pub room : (run.first.end.n +ℤ pos ((run.count - 1) * run.step)) <ℤ pos (2 ^ 64)
  pub countable : run.first.number + run.count ≤ 2 ^ 64
