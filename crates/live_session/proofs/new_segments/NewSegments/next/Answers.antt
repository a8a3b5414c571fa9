use Rattle.live_session.proofs.new_segments.NewSegments.next.Goals as goal
use Rattle.std.proofs.{Common.ap, lemmas.List.Elements.{All-head, All-tail}}
use Rattle.exact_time.specs.Rounding.{Rounding}
use Rattle.timeline.specs.Expansions.{Timing}
use Rattle.presentation.proofs.Printing.{held, paced_next}
use Rattle.live_session.specs.Paced.{IsDatable}

pub returns-in-Err-clause-segment : goal.returns-in-Err-clause-segment
returns-in-Err-clause-segment g c = let r = c.self.inside.rounder in
    rw (← c.self.view_is) (held c.self.inside.listing c.next.new.self r c.in-Err.fault c.in-Err.ensures.segment)

pub invariant_of-self-in-Ok-Some : goal.invariant_of-self-in-Ok-Some
invariant_of-self-in-Ok-Some g c = let made = rw c.in-Ok-Some.field-0-is at c.in-Ok-Some.ensures.segment in
    let ends = ap (λ (x : Timing). x.end) c.span.ensures in
    let r : Rounding = c.self.inside.rounder in
    record {
      paced = rw (c.next-duration.ensures.kept, ends)
          (paced_next c.self.inside.listing c.next.new.self c.in-Ok-Some.segment r made c.self.invariant.paced);
      datable = All-tail IsDatable c.in-Ok-Some.segment.times c.next.new.self.left (rw made.next at c.self.invariant.datable);
    }

pub returns-in-Ok-Some-clause-datable : goal.returns-in-Ok-Some-clause-datable
returns-in-Ok-Some-clause-datable g c = let made = rw c.in-Ok-Some.field-0-is at c.in-Ok-Some.ensures.segment in
    All-head IsDatable c.in-Ok-Some.segment.times c.next.new.self.left (rw made.next at c.self.invariant.datable)
