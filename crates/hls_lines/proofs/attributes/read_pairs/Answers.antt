use Rattle.hls_lines.proofs.attributes.read_pairs.Goals as goal
use Rattle.std.proofs.{Common.{List, Some, sym, ap, ◌∙◌, subst, arith, rules}, lemmas.Bool.eqb-true, lemmas.Bool.Decides.nat_tests}
use Rattle.std.proofs.lemmas.List.{map-append}
use Rattle.hls_lines.specs.{Attributes.NameValue, Pairs.{pair_of, pairs_of}}
use Rattle.hls_lines.proofs.AttributeLemmas.{GoesOn, GoesOn-begin, no_first, the_last, no_comma, one_more, attribute_shorter, comma_shorter}

pub loop-found-init : goal.loop-found-init
loop-found-init c = (c.utf8.text, rw c.new-pairs.ensures.items (GoesOn-begin _))

pub returns-in_default : goal.returns-in_default
returns-in_default c = no_first _ _ _ c.loop-found.invariant.1 (sym c.in_default.ensures)

pub returns-then-is_empty : goal.returns-then-is_empty
returns-then-is_empty c = ap Some (ap pairs_of c.in_ok-push.ensures.items ∙ map-append pair_of _ _)
    ∙ the_last _ _ _ c.loop-found.invariant.1 _ _ (sym c.in-Some.ensures) (eqb-true _ _ (sym c.is_empty.ensures ∙ c.if-is_empty.true))

pub returns-in_default-after_comma : goal.returns-in_default-after_comma
returns-in_default-after_comma c = no_comma _ _ _ c.loop-found.invariant.1 _ _ (sym c.in-Some.ensures) (grind (arith, nat_tests))
    (sym c.in_default-after_comma.ensures)

pub loop-found-smaller : goal.loop-found-smaller
loop-found-smaller c = omega (arith, attribute_shorter _ _ (sym c.in-Some.ensures), comma_shorter _ _ (sym c.in-Some-after_comma.ensures))

pub loop-found-preserved : goal.loop-found-preserved
loop-found-preserved c =
    let more = one_more _ _ _ c.loop-found.invariant.1 _ _ _ (sym c.in-Some.ensures) (grind (arith, nat_tests))
    (sym c.in-Some-after_comma.ensures) in (
      search rules,
      subst (λ (pairs : List NameValue). GoesOn c.args.text.now pairs c.in-Some-after_comma.next.now)
          (sym (ap pairs_of c.in_ok-push.ensures.items ∙ map-append pair_of _ _)) more,
    )
