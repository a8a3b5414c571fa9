use Rattle.hls_follow.proofs.timed_round.times_by_track.Goals as goal
use Rattle.std.proofs.Common.{◌-◌, ◌+◌, ◌≡◌, suc, length, arith}
use Rattle.hls_follow.proofs.Placing.{times_told, times_turn}

pub loop-place-preserved : goal.loop-place-preserved
loop-place-preserved c =
    let count = length c.args.kept.now in
    let place = c.loop-place.place in
    let more : count - place ≡ suc (count - (place + 1)) = omega (arith, c.loop-place-test.true) in
    rw c.in_ok-push.ensures.ok
    (times_turn (count - place) (count - (place + 1)) count place c.args.times.now c.loop-place.all _ _ more c.in_ok-times_of.ensures
    c.loop-place.invariant)

pub returns : goal.returns
returns c =
    let count = length c.args.kept.now in
    let place = c.loop-place.place in
    let none : count - place ≡ 0 = omega (arith, c.loop-place-test.false) in
    times_told c.args.kept.now (count - place) place c.args.times.now c.loop-place.all none c.loop-place.invariant
