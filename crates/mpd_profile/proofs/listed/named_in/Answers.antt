use Rattle.mpd_profile.proofs.listed.named_in.Goals as goal
use Rattle.std.proofs.{Common.{◌≡◌, ℕ, Bool, true, false, List, [], ◌∷◌, refl, rules, tests}, lemmas.Iterator.YieldsList-from_slice}
use Rattle.std.proofs.lemmas.Iterator.Search.{find_from_yields_List}
use Rattle.std.specs.{Prelude.{option_map, map, find, bytes_eq}, Borrow.Bor}
use Rattle.mpd_profile.specs.{Elements.named_in, Rows.shown}

by_bool : {A : Type 0} (b : Bool) → (b ≡ true → A) → (b ≡ false → A) → A
by_bool true at_true at_false = at_true refl
by_bool false at_true at_false = at_false refl

module _ {X : Type 0} (name : List ℕ) where
  named_found : (rows : List (Bor (List ℕ) × X)) → named_in (map shown rows) name
      ≡ option_map (λ (row : Bor (List ℕ) × X). row.1) (find (λ row. bytes_eq row.0.now name) rows)
  named_found [] = refl
  named_found (row ∷ rows) = by_bool (bytes_eq row.0.now name) (λ same. rw same refl) (λ other. rw other (named_found rows))

pub returns-in_err-row : goal.returns-in_err-row
returns-in_err-row g c =
    let is = find_from_yields_List (λ row. bytes_eq row.0.now c.args.name.now) _ _ c.find.result c.find.ensures.ran
    (YieldsList-from_slice c.args.rows.now cc) (λ x b q k. search (rules, tests)) in
    rw (c.from_residual.ensures, named_found c.args.name.now c.args.rows.now, ← is, c.in_err-row.was) refl

pub returns : goal.returns
returns g c =
    let is = find_from_yields_List (λ row. bytes_eq row.0.now c.args.name.now) _ _ c.find.result c.find.ensures.ran
    (YieldsList-from_slice c.args.rows.now cc) (λ x b q k. search (rules, tests)) in
    rw (named_found c.args.name.now c.args.rows.now, ← is, c.in_ok-row.was) refl
