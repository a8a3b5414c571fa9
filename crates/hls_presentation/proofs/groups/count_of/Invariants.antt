use Rattle.std.proofs.Common.{◌≡◌, ◌+◌, ◌≤◌, drop}
use Rattle.std.specs.List.{prefix_len}
use Rattle.hls_presentation.specs.Sections.{is_of}
use Rattle.hls_presentation.proofs.groups.count_of.Given as goal

abbrev pub invariant-loop-segment : goal.invariant-loop-segment
invariant-loop-segment l = record {
  counted : l.count + prefix_len (is_of l.section) (drop l.segment-index l.segments) ≡ prefix_len (is_of l.section) l.segments;
  bounded : l.count ≤ l.segment-index;
}
