use Rattle.std.proofs.Common.{[], ◌∷◌, ◌++◌, ap, append_assoc, inl, inr, refl, sym, ◌∙◌}
use Rattle.std.specs.Prelude.{codes}
use Rattle.url_parts.specs.Roots.{is_inner}
use Rattle.url_parts.proofs.roots.is_rooted.Goals as goal

pub returns-in-Some : goal.returns-in-Some
returns-in-Some c is = record {
  before = [];
  path = c.in-Some.path.now;
  whole = c.in-Some.ensures.cases.1.1 ∙ ap (λ t. 47 ∷ t) (sym c.in-Some.ensures.cases.2);
  origin = inl refl;
  inner = sym (c.is_inner.ensures ∙ ap is_inner c.as_bytes.ensures.value) ∙ is;
}

pub returns-in-Some-behind_scheme : goal.returns-in-Some-behind_scheme
returns-in-Some-behind_scheme c is =
    let told = c.in-Some-behind_scheme.ensures in
    let has = c.has_host.ensures is in
    let host = has.0 in
    let path = has.1 in
    let rest = sym c.as_bytes-in-Some-behind_scheme.ensures.value ∙ has.4 in
    record {
      before = told.0 ++ (codes "://" ++ host);
      path = path;
      whole = told.2 ∙ ap (λ t. told.0 ++ (codes "://" ++ t)) rest ∙ sym (append_assoc told.0 (codes "://" ++ host) (47 ∷ path));
      origin = inr (record { scheme = told.0; host = host; whole = refl; web = told.1; named = has.2 });
      inner = has.3;
    }
