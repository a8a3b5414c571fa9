-- the names so far, and then those of the tracks that are left, are all
use Rattle.std.proofs.Common.{◌≡◌, [], drop}
use Rattle.publish_core.specs.Sides.{names_from}
use Rattle.publish_core.proofs.side.names_under.Given as goal

abbrev pub invariant-loop-track : goal.invariant-loop-track
invariant-loop-track l = names_from l.file l.url l.names (drop l.track-index l.tracks) ≡ names_from l.file l.url [] l.tracks
