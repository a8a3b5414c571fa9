-- The value of a name by a walk over attributes.
use Rattle.std.proofs.Common.{◌≡◌, ℕ, ◌∙◌, Bor, List, [], ◌∷◌, Option, Some, None, bytes_eq, refl, sym, ap, inl, inr}
use Rattle.std.proofs.lemmas.Bool.{cases_Bool}
use Rattle.std.specs.Prelude.{option_map}
use Rattle.mpd_tree.specs.{Trees.Attribute, Views.attribute_named}
use Rattle.mpd_profile.specs.Heads.{or_else}
use Rattle.mpd_levels.specs.Readings.{value_if}

abbrev pub shown : Option (Bor (List ℕ)) → Option (List ℕ)
shown text = option_map (λ (t : Bor (List ℕ)). t.now) text

-- what was found, or otherwise the value in the attributes that are left
abbrev pub found_in : List ℕ → Option (List ℕ) → List Attribute → Option (List ℕ)
found_in name found attributes = or_else found (option_map (λ (attribute : Attribute). attribute.value) (attribute_named name attributes))

one_more : (name : List ℕ) (found : Option (List ℕ)) (a : Attribute) (rest : List Attribute)
    → found_in name (or_else found (value_if name a)) rest ≡ found_in name found (a ∷ rest)
one_more name (Some v) a rest = refl
one_more name None a rest = elim (cases_Bool (bytes_eq a.name name)) [ inl same ↦ rw same refl | inr other ↦ rw other refl ]

alone : (name : List ℕ) (found : Option (List ℕ)) → found_in name found [] ≡ found
alone name (Some v) = refl
alone name None = refl

module _ (name : List ℕ) (found : Option (List ℕ)) (left : List Attribute) (total : Option (List ℕ))
    (so_far : found_in name found left ≡ total) where
  pub goes_on : (now : Option (List ℕ)) (a : Attribute) (rest : List Attribute) → left ≡ a ∷ rest
      → now ≡ or_else found (value_if name a) → found_in name now rest ≡ total
  goes_on now a rest is more =
      ap (λ o. found_in name o rest) more ∙ one_more name found a rest ∙ sym (ap (found_in name found) is) ∙ so_far

  pub ends : left ≡ [] → found ≡ total
  ends is = sym (alone name found) ∙ sym (ap (found_in name found) is) ∙ so_far
