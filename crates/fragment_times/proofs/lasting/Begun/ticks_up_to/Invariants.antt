use Rattle.fragment_times.proofs.lasting.Begun.ticks_up_to.Given as goal
use Rattle.std.proofs.Common.{◌≡◌, ◌≤◌, ◌+◌, drop, length, sum}
use Rattle.fragment_times.specs.{Durations.ticks_from, Times.behind}

-- what is told so far, and then of the segments that are left, is told of all
abbrev pub invariant-loop-start : goal.invariant-loop-start
invariant-loop-start l = record {
  within : l.start-index ≤ length l.later;
  room : l.begun.at.segment ≡ l.fn.self.at.segment + l.start-index;
  rises : l.fn.self.start + sum l.ticks ≡ l.begun.start;
  told : behind l.ticks (ticks_from l.clock l.last l.begun (drop l.start-index l.later)) ≡ ticks_from l.clock l.last l.fn.self l.later;
}
