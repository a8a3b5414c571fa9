use Rattle.std.proofs.Common.{◌≡◌, ◌+◌, ◌≤◌, drop}
use Rattle.std.specs.List.{prefix_len}
use Rattle.hls_follow.specs.Groups.{is_of}
use Rattle.hls_follow.proofs.groups.count_of.Given as goal

abbrev pub invariant-loop-timed : goal.invariant-loop-timed
invariant-loop-timed l = record {
  counted : l.count + prefix_len (is_of l.section) (drop l.timed-index l.segments) ≡ prefix_len (is_of l.section) l.segments;
  bounded : l.count ≤ l.timed-index;
}
