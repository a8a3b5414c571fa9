use Rattle.std.proofs.Common.{length}
use Rattle.live_judge.proofs.Firsts.{IsNoneBefore}
use Rattle.live_session.proofs.Beginning.{over_at}
use Rattle.live_session.proofs.begin.check_window.Given as goal

abbrev pub invariant-loop-track : goal.invariant-loop-track
invariant-loop-track l = IsNoneBefore (over_at l.fn.opened) (length l.fn.opened.tracks) l.track
