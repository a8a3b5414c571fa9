use Rattle.std.proofs.Common.{arith}
use Rattle.live_judge.proofs.RunDurations.{second_close, second_follows, second_is}
use Rattle.live_judge.proofs.times.second_of.Goals as goal

pub later-requires : goal.later-requires
later-requires c = (c.requires.near (omega arith)).room

pub next-requires-clause-not_before : goal.next-requires-clause-not_before
next-requires-clause-not_before c = second_follows _ _ _ _ _ _ c.resume.ensures c.later.ensures

pub next-requires-clause-near : goal.next-requires-clause-near
next-requires-clause-near c = second_close _ _ _ _ _ _ c.resume.ensures c.later.ensures (c.requires.near (omega arith)).near

pub returns : goal.returns
returns c = λ more. second_is _ _ _ _ _ _ c.resume.ensures c.later.ensures _ _ c.next.ensures.printed c.next.ensures.kept
