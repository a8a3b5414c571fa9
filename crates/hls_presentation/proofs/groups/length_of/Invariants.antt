use Rattle.std.proofs.Common.{◌≡◌, ◌*◌, ◌^◌, ◌≤◌, take}
use Rattle.hls_presentation.specs.Sections.{length_of}
use Rattle.hls_presentation.proofs.groups.length_of.Given as goal

abbrev pub invariant-loop-segment : goal.invariant-loop-segment
invariant-loop-segment l = record {
  sum : l.length ≡ length_of (take l.segment-index l.group);
  bounded : l.length ≤ l.segment-index * 2 ^ 64;
}
