use Rattle.hls_presentation.proofs.tracks.tracks_of.Given as goal
use Rattle.std.proofs.Common.{◌≡◌, map, take}
use Rattle.hls_presentation.specs.{Presenting.track_of, Views.source_of}

abbrev pub invariant-loop-source : goal.invariant-loop-source
invariant-loop-source l = l.tracks ≡ map track_of (map source_of (take l.source-index l.sources))
