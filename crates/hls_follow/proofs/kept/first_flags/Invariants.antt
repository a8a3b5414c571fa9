use Rattle.hls_follow.proofs.kept.first_flags.Given as goal
use Rattle.std.proofs.Common.{◌≡◌, map, take}
use Rattle.hls_presentation.specs.{Tracks.is_kept, Views.source_of}

abbrev pub invariant-loop-source : goal.invariant-loop-source
invariant-loop-source l = l.flags ≡ map is_kept (map source_of (take l.source-index l.sources))
