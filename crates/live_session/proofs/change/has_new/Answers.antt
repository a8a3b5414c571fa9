use Rattle.live_session.proofs.change.has_new.Goals as goal
use Rattle.std.proofs.Common.{arith}
use Rattle.live_session.proofs.NewTracks.{count_at}

pub returns-then-new_count-gt0-clause-some : goal.returns-then-new_count-gt0-clause-some
returns-then-new_count-gt0-clause-some c = λ _. let of = c.of.ensures in
    omega (arith, count_at _ c.of.result _ _ of.next of.index c.new_count.ensures.count of.there c.loop-track.invariant)

pub loop-track-preserved : goal.loop-track-preserved
loop-track-preserved c = let of = c.of.ensures in
    omega (arith, count_at _ c.of.result _ _ of.next of.index c.new_count.ensures.count of.there c.loop-track.invariant)
