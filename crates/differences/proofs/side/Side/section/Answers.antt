use Rattle.std.proofs.Common.{◌<◌, ◌∙◌, All, arith, length, subst, sym}
use Rattle.std.proofs.lemmas.Bool.Decides.{nat_tests}
use Rattle.differences.proofs.Chosen.{within_sections}
use Rattle.differences.proofs.side.Side.section.Goals as goal

pub returns-clause-within : goal.returns-clause-within
returns-clause-within c =
    let p = c.args.self.now.presentation.now in let found = c.in_ok-section.ensures.lookup in let section = c.in_ok-section.section.now in
    let there : c.args.place < length c.as_slice.result.now = grind (arith, nat_tests) in
    subst (λ s. s < length p.sections) (sym found.1)
    (subst (All (λ s. s < length p.sections)) (sym (c.as_slice.ensures ∙ c.requires.side.sections)) (within_sections p)
    c.args.place section there)
