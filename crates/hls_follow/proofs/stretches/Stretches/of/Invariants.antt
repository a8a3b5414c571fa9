use Rattle.std.proofs.Common.{◌≡◌, ◌++◌, drop, map}
use Rattle.hls_follow.specs.Stretches.{stretch_of, stretches_from}
use Rattle.hls_follow.proofs.stretches.Stretches.of.Given as goal

abbrev pub invariant-loop-place : goal.invariant-loop-place
invariant-loop-place l =
    map stretch_of l.stretches.items ++ stretches_from l.left (drop l.place l.groups) ≡ stretches_from l.known l.groups
