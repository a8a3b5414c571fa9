use Rattle.std.proofs.Common.{refl, sym, ap, ◌∙◌, ◌++◌}
use Rattle.std.specs.Prelude.{codes}
use Rattle.url_parts.proofs.roots.behind_scheme.Goals as goal

pub returns-in-Some : goal.returns-in-Some
returns-in-Some c = (
  codes "http",
  refl,
  c.in-Some.ensures.cases.1.1 ∙ ap (λ t. codes "http://" ++ t) (sym c.in-Some.ensures.cases.2),
)

pub returns : goal.returns
returns c = (
  codes "https",
  refl,
  c.in_ok-rest.ensures.cases.1.1 ∙ ap (λ t. codes "https://" ++ t) (sym c.in_ok-rest.ensures.cases.2),
)
