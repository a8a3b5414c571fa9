use Rattle.hls_presentation.proofs.checks.check_tracks.Given as goal
use Rattle.std.proofs.Common.{◌≡◌, map, drop}
use Rattle.bridge_io.specs.Firsts.{first_fault}
use Rattle.hls_presentation.specs.{Tracks.track_faults, Views.source_of}

abbrev pub invariant-loop-source : goal.invariant-loop-source
invariant-loop-source l = first_fault (track_faults (map source_of (drop l.source-index l.sources)))
    ≡ first_fault (track_faults (map source_of l.sources))
