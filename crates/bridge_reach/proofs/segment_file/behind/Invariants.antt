use Rattle.std.proofs.Common.{◌≡◌, All, drop}
use Rattle.fragment_times.specs.Times.{parts_of}
use Rattle.presentation.specs.Laws.{HasAddress}
use Rattle.bridge_reach.proofs.segment_file.behind.Given as goal

-- what is left is behind the segments that were passed
abbrev pub invariant-loop-segment : goal.invariant-loop-segment
invariant-loop-segment g l = record {
  addressed : All (HasAddress l.rest.timeline) l.rest.left;
  parts : parts_of l.rest.timeline l.rest.left ≡ drop l._segment (parts_of l.fn.listing.timeline l.fn.listing.left);
}
