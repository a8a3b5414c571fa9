use Rattle.live_session.proofs.begin.check_window.Goals as goal
use Rattle.std.proofs.Common.{ap, arith, length}
use Rattle.live_session.proofs.Beginning.{many_told}

pub returns-then-count-gt-TRACK_LIMIT : goal.returns-then-count-gt-TRACK_LIMIT
returns-then-count-gt-TRACK_LIMIT c = let same = ap (λ xs. length xs) c.tracks.ensures in
    many_told c.args.opened.now c.loop-track.track c.count_of-count.result (omega arith) c.loop-track.invariant c.count_of-count.ensures
    (omega arith)
