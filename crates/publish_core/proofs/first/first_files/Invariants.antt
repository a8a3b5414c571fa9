-- the files so far, and then those of the tracks that are left, are all
use Rattle.std.proofs.Common.{◌≡◌, [], drop}
use Rattle.publish_core.specs.Decisions.{first_files}
use Rattle.publish_core.proofs.first.first_files.Given as goal

abbrev pub invariant-loop-track : goal.invariant-loop-track
invariant-loop-track l = first_files l.job l.master l.ended l.files (drop l.track-index l.tracks)
    ≡ first_files l.job l.master l.ended [] l.tracks
