use Rattle.hls_presentation.proofs.kept.kept_of.Given as goal
use Rattle.std.proofs.Common.{◌≡◌, map, take}
use Rattle.hls_presentation.specs.{Tracks.kept, Views.source_of}

abbrev pub invariant-loop-source : goal.invariant-loop-source
invariant-loop-source l = map source_of l.kept.items ≡ kept (map source_of (take l.source-index l.sources))
