-- Nothing is told of an S with nothing but numbers of few digits, unless it is a feature itself.
use Rattle.mpd_profile.specs.declared.listed.Listed.TheVariants as listed
use Rattle.mpd_profile.specs.Features as features
use Rattle.std.proofs.Common.{◌≡◌, ℕ, ◌^◌, ◌||◌, ◌∙◌, Bool, true, false, List, [], ◌∷◌, ◌++◌, Option, Some, None, bytes_eq, inl, inr}
use Rattle.std.proofs.Common.{refl, sym, ap, not, arith}
use Rattle.std.proofs.{lemmas.Bool.Decides.nat_tests, lemmas.List.append-nil}
use Rattle.std.specs.{Prelude.{codes, flat_map, if◌then◌else◌, is_none, is_some, option_map}, List.list_all, Char.is_ascii_digit}
use Rattle.bridge_io.proofs.Texts.{same_bytes}
use Rattle.mpd_tree.specs.Trees.{Attribute}
use Rattle.mpd_values.specs.Numbers.{has_minus, signed_64_of}
use Rattle.mpd_profile.specs.{declared.fault.RuleFault.TheVariants.Value, declared.listed.Addressing.TheVariants.Segments}
use Rattle.mpd_profile.specs.{declared.visit.Pass.TheVariants.Both}
use Rattle.mpd_profile.specs.{Features.{is_entry_value, told_at}, Heads.value_named, Passes.told_by}
use Rattle.mpd_profile.specs.Plain.{feature_told, has_plain_values, is_plain_value}
use Rattle.mpd_profile.specs.{Refusals.{attribute_told, is_other_value}, Values.{are_few_digits, is_value}, Visits.Visit}
use Rattle.mpd_profile.proofs.{Counting.{both, few_are_numbers, few_kept, untrimmed}, Untold.{entry_untold, one_of_three}}

-- ---- values

no_sign : (text : List ℕ) → are_few_digits text ≡ true → has_minus text ≡ false
no_sign [] few = refl
no_sign (b ∷ bs) few = let digit = both (is_ascii_digit b) _ (both (list_all is_ascii_digit (b ∷ bs)) _ few).0 in grind (arith, nat_tests)

mapped : {X Y : Type 0} (f : X → Y) (o : Option X) → is_some o ≡ true → is_some (option_map f o) ≡ true
mapped f (Some x) some = refl
mapped f None none = absurd (cc)

few_are_signed : (text : List ℕ) → are_few_digits text ≡ true → is_some (signed_64_of text) ≡ true
unfolding signed_64_of
few_are_signed text few =
    rw (untrimmed text (both (list_all is_ascii_digit text) _ few).0, no_sign text few) (mapped _ _ (few_kept 0 (2 ^ 63) text refl few))

-- ---- attributes

parts_of : (a : Attribute) → is_plain_value a ≡ true → (is_entry_value a.name ≡ true) × (are_few_digits a.value ≡ true)
unfolding is_plain_value
parts_of a plain = both (is_entry_value a.name) (are_few_digits a.value) plain

module _ (a : Attribute) where
  abbrev renamed : List ℕ → Attribute
  renamed name = record { name = name; value = a.value; place = a.place }

  by_name : (word : List ℕ) → bytes_eq a.name word ≡ true → is_other_value Segments listed.S (renamed word) ≡ false
      → is_other_value Segments listed.S a ≡ false
  by_name word same none = ap (λ name. is_other_value Segments listed.S (renamed name)) (same_bytes a.name word same) ∙ none

  valued : is_plain_value a ≡ true → is_other_value Segments listed.S a ≡ false
  unfolding is_value
  valued plain =
      let parts = parts_of a plain in
      let number = ap not (sym (few_are_numbers 0 (2 ^ 63) a.value refl parts.1)) in
      elim (one_of_three (bytes_eq a.name (codes "t")) (bytes_eq a.name (codes "d")) (bytes_eq a.name (codes "r")) parts.0) [
        | inl t ↦ by_name (codes "t") t number
        | inr (inl d) ↦ by_name (codes "d") d number
        | inr (inr r) ↦ by_name (codes "r") r (ap not (few_are_signed a.value parts.1))
      ]

plain_features : (dynamic : Bool) (attributes : List Attribute) → list_all is_plain_value attributes ≡ true
    → features.attributes_told (Some listed.S) dynamic attributes ≡ []
plain_features dynamic [] plain = refl
plain_features dynamic (a ∷ others) plain =
    let parts = both (is_plain_value a) (list_all is_plain_value others) plain in
    let named = parts_of a parts.0 in
    ap (λ feature. told_at a.place feature ++ features.attributes_told (Some listed.S) dynamic others)
    (sym (entry_untold a dynamic named.0)) ∙ plain_features dynamic others parts.1

plain_values : (visit : Visit) (attributes : List Attribute) → list_all is_plain_value attributes ≡ true
    → flat_map (attribute_told Segments visit listed.S) attributes ≡ []
plain_values visit [] plain = refl
plain_values visit (a ∷ others) plain =
    let parts = both (is_plain_value a) (list_all is_plain_value others) plain in
    ap (λ b. (if b || false then Value a.place ∷ [] else []) ++ flat_map (attribute_told Segments visit listed.S) others)
    (valued a parts.0) ∙ plain_values visit others parts.1

there : {X : Type 0} (o : Option X) → is_some o ≡ true → is_none o ≡ false
there (Some x) some = refl
there None none = absurd (cc)

-- ---- the element

pub plain_told : (visit : Visit) → visit.listed ≡ Some listed.S → has_plain_values visit.head ≡ true
    → told_by Both visit ≡ feature_told visit
unfolding told_by
plain_told visit is plain =
    let parts = both (list_all is_plain_value visit.head.attributes) _ plain in
    rw (
      is,
      plain_features visit.dynamic visit.head.attributes parts.0,
      there (value_named (codes "d") visit.head) parts.1,
      plain_values visit visit.head.attributes parts.0,
    )
    (append-nil _ ∙ append-nil _)
