use Rattle.std.proofs.Common.{◌≡◌, ◌++◌, drop}
use Rattle.hls_writer.specs.Variants.{code_lists}
use Rattle.hls_writer.proofs.variants.code_lists.Given as goal

abbrev pub invariant-loop-track : goal.invariant-loop-track
invariant-loop-track l = l.lists ++ code_lists (drop l.track-index l.tracks) ≡ code_lists l.tracks
