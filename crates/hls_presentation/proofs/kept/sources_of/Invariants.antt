use Rattle.hls_presentation.proofs.kept.sources_of.Given as goal
use Rattle.std.proofs.Common.{◌≡◌, ◌++◌, length, map}
use Rattle.hls_presentation.specs.{Tracks.sources, Views.source_of}

abbrev pub invariant-loop-track : goal.invariant-loop-track
invariant-loop-track l = map source_of l.sources.items ++ sources l.tracks l.medias ≡ sources l.fn.tracks l.fn.medias

abbrev pub decreases-loop-track : goal.decreases-loop-track
decreases-loop-track l = length l.tracks
