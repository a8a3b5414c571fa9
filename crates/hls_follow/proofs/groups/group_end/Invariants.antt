use Rattle.std.proofs.Common.{◌≡◌, ◌<◌, ◌^◌, drop, max}
use Rattle.hls_follow.specs.Groups.{group_end}
use Rattle.hls_follow.proofs.groups.group_end.Given as goal

abbrev pub invariant-loop-timed : goal.invariant-loop-timed
invariant-loop-timed l = record {
  told : max l.end (group_end (drop l.timed-index l.group)) ≡ group_end l.group;
  near : l.end < 2 ^ 66;
}
