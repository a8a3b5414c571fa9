use Rattle.url_parts.proofs.base.local_name.Goals as goal
use Rattle.std.proofs.Common.{◌≡◌, ◌≢◌, ℕ, List, ◌++◌, length, drop, Some, None, Ok, refl, sym, ap, ◌∙◌, ⊎_elim, arith}
use Rattle.std.proofs.{lemmas.Bool.cases_Bool, lemmas.Bool.Decides.Decides-eqb, lemmas.List.drop_at, lemmas.Slice.Eq.starts_is}
use Rattle.std.specs.{Prelude.nat_eq, List.starts_with}
use Rattle.bridge_io.specs.Names.{name_of}
use Rattle.url_parts.specs.Addresses.{without_tail, local_name_of}

-- an address that doesn't begin with the folder's text
outside : (folder address : List ℕ) → ((rest : List ℕ) → address ≢ folder ++ rest) → None ≡ local_name_of folder address
outside folder address never =
    ⊎_elim
    (λ begins. absurd (never _ ((starts_is Decides-eqb address folder (starts_with nat_eq address folder) refl).0 begins)))
    (λ other. rw other refl)
    (cases_Bool (starts_with nat_eq address folder))

-- a name after the folder's text
inside : (folder address rest name : List ℕ) → address ≡ folder ++ rest → name_of (without_tail rest) ≡ Ok name
    → Some name ≡ local_name_of folder address
inside folder address rest name whole named =
    let begins = (starts_is Decides-eqb address folder (starts_with nat_eq address folder) refl).1 rest whole in
    let back : drop (length folder) address ≡ rest = ap (drop (length folder)) whole ∙ drop_at folder rest _ refl in
    rw (begins, back) (grind arith)

pub returns-in_default : goal.returns-in_default
returns-in_default c =
    outside _ _ (rw (c.as_str.ensures.text, c.as_str-2.ensures.text) at c.in_default.ensures.cases)

pub returns-in-Ok : goal.returns-in-Ok
returns-in-Ok c =
    let h = c.in-Some.ensures.cases in
    let whole = rw (c.as_str.ensures.text, c.as_str-2.ensures.text) at h.1.1 in
    let rest = rw c.as_str.ensures.text at h.2 in
    inside c.args.folder.now c.args.address.now c.in-Some.rest.now c.in-Ok.name (whole ∙ ap (λ t. c.args.folder.now ++ t) (sym rest))
    (rw c.without_tail.ensures at c.in-Ok.ensures)
