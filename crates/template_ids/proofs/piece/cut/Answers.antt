use Rattle.template_ids.proofs.piece.cut.Goals as goal
use Rattle.std.proofs.{Common.{lit<, refl, sym}, lemmas.Result.err_from_is_err_and}
use Rattle.template_ids.proofs.{Cutting.{IsCut, first_at_fault, step, finish, never_lone, IsUtf8-cut}, piece.cut.Goals.In-Some}
use Rattle.template_ids.proofs.piece.cut.Goals.{In-Some-split_once}

first_cut : (c : In-Some) → IsCut c.loop-literal.rest.now c.in-Some.literal.now c.in-Some.after.now
first_cut c = let h = c.in-Some.ensures.byte (lit< tt) (λ w o h. h) in record { at = h.2; front_is = h.0; back_is = h.1 }

second_cut : (c : In-Some-split_once) → IsCut c.in-Some.after.now c.in-Some-split_once.identifier.now c.in-Some-split_once.after.now
second_cut c = let h = c.in-Some-split_once.ensures.byte (lit< tt) (λ w o h. h) in record { at = h.2; front_is = h.0; back_is = h.1 }

pub returns-in_default-split_once : goal.returns-in_default-split_once
returns-in_default-split_once c = absurd
    (never_lone _ _ _ (c.in_default-split_once.ensures.byte (lit< tt) (λ w o h. h)) _ _ c.loop-literal.invariant.1
    (first_cut (goal.at.returns-in_default-split_once c).In-Some))

pub returns-in_err-read : goal.returns-in_err-read
returns-in_err-read c =
    let fault = err_from_is_err_and c.from_residual-in_err-read.result c.from_residual-in_err-read.ensures.1 in
    let first = first_at_fault _ _ _ _ _ _ _ c.loop-literal.invariant.1 (first_cut (goal.at.returns-in_err-read c).In-Some)
    (second_cut (goal.at.returns-in_err-read c).In-Some-split_once) _ (sym c.in_err-read.ensures.value) in
    rw (fault.1, fault.2) first

pub loop-literal-preserved : goal.loop-literal-preserved
loop-literal-preserved c =
    let one = first_cut (goal.at.loop-literal-preserved c).In-Some in
    let two = second_cut (goal.at.loop-literal-preserved c).In-Some-split_once in
    let next = step _ _ _ _ _ _ _ c.loop-literal.invariant.1 one two in (
      IsUtf8-cut _ _ _ two (IsUtf8-cut _ _ _ one c.loop-literal.invariant.0),
      rw (c.in_ok-add-2.ensures, c.in_ok-add.ensures)
          (next _ _ _ (sym c.in_ok-read.ensures.value) c.in_ok-read.ensures.width c.loop-literal.invariant.0 refl refl),
    )

pub returns : goal.returns
returns c = rw c.in_ok-add-3.ensures (finish _ _ _ (c.in_default.ensures.byte (lit< tt) (λ w o h. h)) _ _ c.loop-literal.invariant.1
    c.loop-literal.invariant.0 refl refl)
