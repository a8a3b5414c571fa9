use Rattle.live_session.proofs.growth.make_room.Given as goal
use Rattle.live_session.proofs.Growing.{AreChanged, IsReserved}

abbrev pub invariant-loop-track : goal.invariant-loop-track
invariant-loop-track l = AreChanged (IsReserved l.made) l.fn.tracks.items l.tracks.items l.track
