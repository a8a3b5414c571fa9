use Rattle.std.proofs.Common.{◌≡◌, ◌++◌, drop}
use Rattle.bridge_reach.specs.Rounds.{urls_of}
use Rattle.bridge_reach.proofs.follow_hls.urls_of.Given as goal

abbrev pub invariant-loop-track : goal.invariant-loop-track
invariant-loop-track l = l.urls ++ urls_of (drop l.track-index l.tracks) ≡ urls_of l.tracks
