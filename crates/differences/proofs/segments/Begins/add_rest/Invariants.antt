use Rattle.std.proofs.Common.{◌≡◌, ◌+◌, length}
use Rattle.differences.specs.Segments.{noted_from}
use Rattle.differences.proofs.segments.Begins.add_rest.Given as goal

-- what is found before this segment is noted
abbrev pub invariant-loop-segment : goal.invariant-loop-segment
invariant-loop-segment g l = record {
  same : noted_from l.self (record l.spot { segment = 1 }) l.initial.found l.initial.mine l.initial.theirs
      ≡ noted_from l.self (record l.spot { segment = l.segment }) l.found l.mine l.theirs;
  mine : l.segment + length l.mine ≡ l.listed.mine;
  theirs : l.segment + length l.theirs ≡ l.listed.theirs;
}
