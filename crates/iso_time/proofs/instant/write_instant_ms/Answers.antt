use Rattle.iso_time.proofs.instant.write_instant_ms.Goals as goal
use Rattle.std.proofs.{Common.{◌∙◌, FitsSigned, sym, ap, arith}, lemmas.Int.to_z-of_z}
use Rattle.std.specs.Int.{w128}
use Rattle.jiff_core.proofs.SignedLemmas.{signed_arith}
use Rattle.iso_time.specs.Civil.{instant_text}
use Rattle.iso_time.proofs.{CalendarLemmas.{instant_text-civil, year_from_writable}, PaddedLemmas.moment_text-ascii}

pub text_of-requires : goal.text_of-requires
text_of-requires c =
    let fits : FitsSigned w128 c.value.inside.0 = omega (arith, signed_arith, c.value.invariant) in
    let is = c.from_nanosecond_in_range.ensures ∙ to_z-of_z w128 _ fits ∙ c.value.view_is in
    omega (arith, signed_arith, year_from_writable _ c.args.value is c.requires)

pub returns-clause-text : goal.returns-clause-text
returns-clause-text c =
    let fits : FitsSigned w128 c.value.inside.0 = omega (arith, signed_arith, c.value.invariant) in
    let is = c.from_nanosecond_in_range.ensures ∙ to_z-of_z w128 _ fits ∙ c.value.view_is in
    c.text_of.ensures ∙ instant_text-civil _ _ (year_from_writable c.from_nanosecond_in_range.result c.args.value is c.requires)
    ∙ ap instant_text is

pub returns-clause-civil : goal.returns-clause-civil
returns-clause-civil c = λ dt is.
    returns-clause-text c ∙ ap instant_text (sym is) ∙ sym (instant_text-civil dt _ (year_from_writable dt c.args.value is c.requires))

pub returns-clause-ascii : goal.returns-clause-ascii
returns-clause-ascii c = rw c.text_of.ensures (moment_text-ascii _ _ _ _ _ _ _)
