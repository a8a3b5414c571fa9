use Rattle.std.proofs.Common.{arith}
use Rattle.live_judge.proofs.coming.Next.number.Goals as goal

pub overflow_add-result : goal.overflow_add-result
overflow_add-result c =
    let is = c.requires.next in omega (arith, is.within, is.few, is.live.periods, is.live.accepted)

pub overflow_add-result-2 : goal.overflow_add-result-2
overflow_add-result-2 c =
    let is = c.requires.next in omega (arith, is.within, is.few, is.live.periods, is.live.accepted, c.resets.ensures.few)
