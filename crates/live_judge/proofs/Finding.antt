-- An id is found at its index.
use Rattle.std.proofs.Common.{◌≡◌, ℕ, zero, suc, ◌<◌, ◌≤◌, true, false, List, [], ◌∷◌, length, Option, Some, None, bytes_eq, refl, sym, ◌∙◌}
use Rattle.std.proofs.{Common.{ap, inl, inr, arith}, lemmas.Bool.{cases_Bool, cases_lt, lt-ltb, le-ltb}}
use Rattle.std.proofs.{lemmas.Bool.Decides.nat_tests, lemmas.List.Sums.passes_at_first}
use Rattle.std.proofs.{lemmas.Option.{same_Some, slice_get-get_or, slice_get_within}, lemmas.Slice.Eq.bytes_eq-Decides}
use Rattle.std.specs.{Prelude.{Bool, is_some, slice_get}, Option.option_map_or, List.{list_any, position, position_or_len}}
use Rattle.live_judge.specs.Known.{if_there}

pub some_position : (p : List ℕ → Bool) (xs : List (List ℕ)) → is_some (position p xs) ≡ list_any p xs
some_position p [] = refl
some_position p (x ∷ xs) = grind (arith, nat_tests, some_position p xs)

-- the first place of an id that is there has it
at_position : (ids : List (List ℕ)) (id : List ℕ) → position_or_len (bytes_eq id) ids < length ids
    → slice_get ids (position_or_len (bytes_eq id) ids) ≡ Some id
at_position ids id less =
    slice_get-get_or ids (position_or_len (bytes_eq id) ids) id less
    ∙ ap Some (sym ((bytes_eq-Decides id _).0 (passes_at_first (bytes_eq id) ids id less)))

not_past : (ids : List (List ℕ)) (k : ℕ) (id : List ℕ) → slice_get ids k ≡ Some id → position_or_len (bytes_eq id) ids ≤ k
not_past [] k id at = absurd (cc)
not_past (x ∷ ids) zero id at = let here = (bytes_eq-Decides id x).1 (sym (same_Some x id at)) in rw here (omega arith)
not_past (x ∷ ids) (suc k) id at = grind (arith, not_past ids k id at)

same_id : (o : Option (List ℕ)) (id : List ℕ) → option_map_or (λ own. bytes_eq own id) o false ≡ true → o ≡ Some id
same_id None id is = absurd (cc)
same_id (Some own) id is = ap Some ((bytes_eq-Decides own id).0 is)

module _ (ids : List (List ℕ)) (id : List ℕ) where
  none_there : length ids ≤ position_or_len (bytes_eq id) ids → (o : Option ℕ) → if_there ids id o ≡ None
  none_there past None = refl
  none_there past (Some k) = elim (cases_Bool (option_map_or (λ own. bytes_eq own id) (slice_get ids k) false)) [
    | inl is ↦
        let at = same_id (slice_get ids k) id is in
        absurd (omega (arith, past, not_past ids k id at, slice_get_within ids k id at))
    | inr other ↦ rw other refl
  ]

  -- what is there where the id is, is its index
  pub found_there : (o : Option ℕ) → ((place : ℕ) → slice_get ids place ≡ Some id → o ≡ Some place)
      → if_there ids id o ≡ position (bytes_eq id) ids
  found_there o there = elim (cases_lt (position_or_len (bytes_eq id) ids) (length ids)) [
    | inl less ↦
        let at = at_position ids id less in
        let own : bytes_eq id id ≡ true = (bytes_eq-Decides id id).1 refl in
        rw (there _ at, at, own, lt-ltb _ _ less) refl
    | inr past ↦ rw (le-ltb _ _ past) (none_there past o)
  ]
