use Rattle.std.proofs.Common.{◌≡◌, ◌+◌, ◌^◌, length}
use Rattle.exact_time.specs.Tick.{time_of}
use Rattle.meaning.specs.Differences.{segments_difference}
use Rattle.comparison.proofs.segments.Begins.rest_difference.Given as goal

-- the segments before this one are the same
abbrev pub invariant-loop-segment : goal.invariant-loop-segment
invariant-loop-segment g l =
    let unit = 10 ^ l.self.digits in let t = l.spot.track in let s = l.spot.section in
    let mine = time_of l.self.mine in let theirs = time_of l.self.theirs in
    record {
      same : segments_difference unit t s 1 mine theirs l.initial.mine l.initial.theirs
          ≡ segments_difference unit t s l.segment mine theirs l.mine l.theirs;
      listed : l.segment + length l.theirs ≡ l.listed;
    }
