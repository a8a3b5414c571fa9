use Rattle.live_session.proofs.maker.Maker.make_section.Goals as goal
use Rattle.std.proofs.Common.{arith, refl}
use Rattle.live_session.specs.{Making.{IsDone, IsKeptNext}, New.{numbers_of, shown_by}}
use Rattle.live_session.proofs.{Making.{all_done, all_there, begun, content_there, next_made, not_made}, Sections.goes_on_there}

pub section-segments-requires-clause-goes_on : goal.section-segments-requires-clause-goes_on
section-segments-requires-clause-goes_on g c =
    let m = c.args.self.now in let h = c.requires.stands in
    goes_on_there (numbers_of m) m.place (shown_by m) c.args.section c.args.track c.args.last h.reached h.begun h.near

pub loop-k-init : goal.loop-k-init
loop-k-init g c =
    begun _ _ _ _ _ (content_there _ _ _ c.section-segments.ensures.section.runs c.initialization-map.ensures) _
    c.section-segments.result _ c.requires.stands c.section-segments.ensures.section refl

pub loop-k-preserved : goal.loop-k-preserved
loop-k-preserved g c = let l = c.loop-k in
    let next : IsKeptNext c.args.self.now c.args.section c.initialization-map.result.now
    l.segments c.make.new.segments l.steps c.make.new.steps
    c.in-Ok-Some.next = rw c.in-Ok-Some.field-0-is at c.in-Ok-Some.ensures in
    rw c.in_ok-push-in-Ok-Some.ensures.items
    (next_made c.presentations_mean_what_they_list.ensures.made _ _ _ _ _ l.made.items c.in-Ok-Some.next l.invariant next)

pub returns-in-Ok-None : goal.returns-in-Ok-None
returns-in-Ok-None g c =
    let l = c.loop-k in
    let done : IsDone l.segments c.make.new.segments l.steps c.make.new.steps = rw c.in-Ok-None.field-0-is at c.in-Ok-None.ensures in
    rw done.counted (all_done _ _ _ _ _ l.invariant done.end.none)

pub returns-in-Err : goal.returns-in-Err
returns-in-Err g c =
    rw c.fault_of.ensures (not_made _ _ _ _ _ c.loop-k.invariant c.in-Err.fault c.make.new.steps c.in-Err.ensures)

pub returns : goal.returns
returns g c =
    let l = c.loop-k in
    all_done _ _ _ _ _ l.invariant (all_there _ _ _ _ _
    (content_there _ _ _ c.section-segments.ensures.section.runs c.initialization-map.ensures) _ _
    c.section-segments.result l.segments l.k _ _
    c.requires.stands c.section-segments.ensures.section l.invariant (omega arith))
