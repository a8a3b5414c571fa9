use Rattle.std.proofs.Common.{◌≡◌, ◌≤◌, ◌+◌, drop, length}
use Rattle.exact_time.specs.Tick.{time_of}
use Rattle.fragment_times.specs.Agreeing.{apart_from}
use Rattle.fragment_times.proofs.agreement.FileClock.first_apart.Given as goal

-- none of the segments before this one is apart
abbrev pub invariant-loop-start : goal.invariant-loop-start
invariant-loop-start l =
    let offset = time_of l.self.offset in
    let scale = l.self.scale in
    record {
      within : l.start-index ≤ length l.starts;
      room : l.at.segment ≡ l.fn.spot.segment + l.start-index;
      told : apart_from l.at offset scale l.walk (drop l.start-index l.starts) ≡ apart_from l.fn.spot offset scale l.fn.walk l.starts;
    }
