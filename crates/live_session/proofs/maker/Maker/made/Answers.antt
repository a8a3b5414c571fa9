use Rattle.live_session.proofs.maker.Maker.made.Goals as goal
use Rattle.std.proofs.Common.{subst, sym}
use Rattle.timeline.specs.Expansions.{Timing}
use Rattle.live_session.{specs.Making.IsNear, proofs.Paced.near_period}

pub date_of-requires-clause-near : goal.date_of-requires-clause-near
date_of-requires-clause-near c =
    subst (λ (x : Timing). IsNear x.start) (sym c.span-span.ensures) (near_period c.args.segment.times c.requires.datable)
