use Rattle.hls_follow.proofs.times.time_segments.Given as goal
use Rattle.std.proofs.Common.{◌≡◌, ◌+◌, drop}
use Rattle.std.specs.Option.{option_copied}
use Rattle.hls_follow.specs.{Faults.behind, Times.{timed_of, timed_from, unless_late}}

abbrev pub invariant-loop-segment : goal.invariant-loop-segment
invariant-loop-segment l = record {
  number : l.number ≡ l.media.sequence + l.segment-index;
  told : behind l.timed (unless_late (timed_from (option_copied l.former) l.media.target l.number l.last
      (drop l.segment-index l.media.segments)))
      ≡ unless_late (timed_of (option_copied l.former) l.media);
}
