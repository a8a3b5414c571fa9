use Rattle.live_session.proofs.kept.push_all.Goals as goal
use Rattle.std.{proofs.Common.{◌≡◌, ◌+◌, ◌∷◌, ◌∙◌, ap, length, arith}, specs.Vec.Iter.into_iter_items}
use Rattle.live_meaning.specs.States.{Track}
use Rattle.live_session.{specs.Kept.with_all, specs.Made.all_made}

pub loop-next-preserved : goal.loop-next-preserved
loop-next-preserved c = let l = c.loop-next in let rest = into_iter_items c.next.new.self in
    let is : into_iter_items l.next-iterator ≡ c.in-Some.next ∷ rest = c.in-Some.ensures.steps.0 in
    let count : length (into_iter_items l.next-iterator) ≡ length rest + 1 = omega (arith, ap (λ xs. length xs) is) in
    record {
      paired = c.push.ensures.paired;
      room = c.push.ensures.room (length rest) (rw count at l.invariant.room);
      shown = ap (λ (t : Track). with_all t (all_made rest)) c.push.ensures.shown ∙ rw is at l.invariant.shown;
    }
