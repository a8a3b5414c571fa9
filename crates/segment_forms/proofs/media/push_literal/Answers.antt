use Rattle.segment_forms.proofs.media.push_literal.Goals as goal
use Rattle.segment_forms.proofs.media.push_literal.Goals.{In-Some}
use Rattle.segment_forms.proofs.MediaLemmas.{IsCut, doubled_cut, doubled_last, rest_utf8}
use Rattle.std.proofs.Common.{lit<, append_assoc}

cut : (c : In-Some) → IsCut c.loop-front.rest.now c.in-Some.front.now c.in-Some.back.now
cut c = let h = c.in-Some.ensures.byte (lit< tt) (λ w o h. h) in record { at = h.2; front_is = h.0; back_is = h.1 }

pub loop-front-preserved : goal.loop-front-preserved
loop-front-preserved c =
    let one = cut (goal.at.loop-front-preserved c).In-Some in
    let was = rw (doubled_cut c.loop-front.rest.now c.in-Some.front.now c.in-Some.back.now one) at c.loop-front.invariant.1 in (
      rest_utf8 c.loop-front.rest.now c.in-Some.front.now c.in-Some.back.now one c.loop-front.invariant.0,
      rw (c.in_ok-push_str-2.ensures.bytes, c.in_ok-push_str.ensures.bytes) (simp append_assoc was),
    )

pub returns : goal.returns
returns c = rw c.in_ok-push_str-3.ensures.bytes
    (rw (doubled_last c.loop-front.rest.now (c.in_default.ensures.byte (lit< tt) (λ w o h. h))) at c.loop-front.invariant.1)
