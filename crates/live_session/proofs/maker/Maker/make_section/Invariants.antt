use Rattle.live_session.proofs.maker.Maker.make_section.Given as goal
use Rattle.live_session.{specs.Made.all_made, proofs.Making.SoFar}

abbrev pub invariant-loop-k : goal.invariant-loop-k
invariant-loop-k g l =
    SoFar l.fn.self l.fn.section l.fn.track l.fn.last (record { initialization = l.map; runs = l.initial.segments.timeline }) l.before
    (all_made l.fn.made.items) (all_made l.made.items) l.segments l.k l.fn.steps l.steps
