use Rattle.live_session.proofs.change.has_new.Given as goal
use Rattle.live_session.proofs.NewTracks.{IsNoneUntil}

abbrev pub invariant-loop-track : goal.invariant-loop-track
invariant-loop-track l = IsNoneUntil l.next l.track
