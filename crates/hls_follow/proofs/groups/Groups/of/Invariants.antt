use Rattle.std.proofs.Common.{◌≡◌, ◌++◌, ◌-◌, ◌≤◌, drop, length, map}
use Rattle.hls_follow.specs.Groups.{groups_of}
use Rattle.hls_follow.proofs.groups.Groups.of.Given as goal

abbrev pub invariant-loop-start : goal.invariant-loop-start
invariant-loop-start l = record {
  told : map (λ group. group.now) l.groups.items ++ groups_of (drop l.start l.segments) ≡ groups_of l.segments;
  fits : l.start ≤ length l.segments;
}

abbrev pub decreases-loop-start : goal.decreases-loop-start
decreases-loop-start l = length l.segments - l.start
