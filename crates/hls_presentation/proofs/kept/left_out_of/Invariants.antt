use Rattle.hls_presentation.proofs.kept.left_out_of.Given as goal
use Rattle.std.proofs.Common.{◌≡◌, ◌≤◌, map, take}
use Rattle.hls_presentation.specs.{Tracks.left_out, Views.source_of}

abbrev pub invariant-loop-source : goal.invariant-loop-source
invariant-loop-source l = record {
  count : l.count ≡ left_out (map source_of (take l.source-index l.sources));
  bounded : l.count ≤ l.source-index;
}
