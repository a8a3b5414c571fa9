use Rattle.std.proofs.Common.{lit<}
use Rattle.timeline.proofs.MediaTemplates.{IsCut, all_made, cut_plain, cut_utf8, more_made, none_made, rest_plain}
use Rattle.timeline.proofs.shorter_template.shortened_literals.Goals.{In-Some, In-Some-split_once}
use Rattle.timeline.proofs.shorter_template.shortened_literals.Goals as goal

first_cut : (c : In-Some) → IsCut c.loop-literal.rest.now c.in-Some.literal.now c.in-Some.after.now
first_cut c = let h = c.in-Some.ensures.byte (lit< tt) (λ w o h. h) in record { at = h.2; front_is = h.0; back_is = h.1 }

second_cut : (c : In-Some-split_once) → IsCut c.in-Some.after.now c.in-Some-split_once.identifier.now c.in-Some-split_once.after.now
second_cut c = let h = c.in-Some-split_once.ensures.byte (lit< tt) (λ w o h. h) in record { at = h.2; front_is = h.0; back_is = h.1 }

pub loop-literal-init : goal.loop-literal-init
loop-literal-init c = (c.utf8.text, rw c.new-short.ensures.bytes (none_made c.args.in_path c.args.text.now))

pub push_literal-requires : goal.push_literal-requires
push_literal-requires c = cut_plain _ _ _ (first_cut (goal.at.push_literal-requires c).In-Some)

pub loop-literal-preserved : goal.loop-literal-preserved
loop-literal-preserved c =
    let at = goal.at.loop-literal-preserved c in (
      cut_utf8 _ _ _ (second_cut at.In-Some-split_once) (cut_utf8 _ _ _ (first_cut at.In-Some) c.loop-literal.invariant.0),
      more_made c.args.in_path c.args.text.now _ _ _ _ _ _ c.loop-literal.invariant.1 (first_cut at.In-Some)
          (second_cut at.In-Some-split_once) _ _ c.in_ok-push_literal.ensures c.in_ok-push_identifier.ensures,
    )

pub push_literal-requires-2 : goal.push_literal-requires-2
push_literal-requires-2 c = rest_plain _ (c.in_default.ensures.byte (lit< tt) (λ w o h. h))

pub returns : goal.returns
returns c = all_made c.args.in_path c.args.text.now _ _ _ c.loop-literal.invariant.1
    (rest_plain _ (c.in_default.ensures.byte (lit< tt) (λ w o h. h))) c.in_ok-push_literal-2.ensures
