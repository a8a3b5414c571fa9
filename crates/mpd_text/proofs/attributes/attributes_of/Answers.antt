use Rattle.mpd_text.proofs.attributes.attributes_of.Goals as goal
use Rattle.std.proofs.{Common.{sym, ◌∙◌}, lemmas.Result.err_from_is_err_and}
use Rattle.mpd_text.proofs.Loop.{loop_cut, loop_failed, loop_stepped}

pub returns-in_err-is_ended-clause-read : goal.returns-in_err-is_ended-clause-read
returns-in_err-is_ended-clause-read c =
    let p = err_from_is_err_and c.from_residual.result c.from_residual.ensures.1 in
    rw (p.1, p.2) (loop_failed _ _ _ c.loop.invariant.so_far c.loop-test.true
    c.in_err-is_ended.field-0.0
    (simp c.loop.invariant.stays.same at c.in_err-is_ended.ensures.read))

pub returns-then-is_ended-clause-read : goal.returns-then-is_ended-clause-read
returns-then-is_ended-clause-read c =
    let step = simp (c.loop.invariant.stays.same, c.if-is_ended.true) at c.in_ok-is_ended.ensures.read in
    rw (← c.loop.invariant.from)
    (sym (loop_stepped _ _ _ c.loop.invariant.so_far c.loop-test.true step))

pub loop-preserved : goal.loop-preserved
loop-preserved c =
    let i = c.loop.invariant in
    let step = simp (i.stays.same, c.if-is_ended.false) at c.in_ok-is_ended.ensures.read in
    let on = c.in_ok-is_ended.ensures.goes_on in
    record {
      known = on.known;
      from = on.from ∙ i.from;
      stays = record { same = on.stays.same ∙ i.stays.same; shown_are = on.stays.shown_are ∙ i.stays.shown_are };
      left = simp i.stays.same at on.left;
      so_far = rw on.from (loop_stepped _ _ _ i.so_far c.loop-test.true step);
    }

pub returns-clause-read : goal.returns-clause-read
returns-clause-read c =
    rw c.syntax.ensures (loop_cut _ _ _ c.loop.invariant.so_far c.loop-test.false)
