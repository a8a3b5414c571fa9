-- How the pattern of addresses goes on with one more.
use Rattle.std.proofs.Common.{◌≡◌, ℕ, suc, ◌+◌, ◌-◌, ◌^◌, ◌&&◌, Bool, true, false, List, [], ◌∷◌, ◌++◌, length, bytes_eq, Option, Some}
use Rattle.std.proofs.Common.{None}
use Rattle.std.proofs.Common.{arith, refl, sym, ap, ◌∙◌, ⊎_elim, get_or}
use Rattle.std.proofs.{lemmas.Bool.{and_right, cases_Bool, le-leb, leb-true}}
use Rattle.std.proofs.{lemmas.List.length_push, lemmas.Slice.Eq.bytes_eq-Decides}
use Rattle.std.specs.{Prelude.nat_le, Char.is_ascii_digit}
use Rattle.segment_forms.specs.{declared.pattern.Pattern.Pattern, declared.progress.Progress.TheVariants.{Followed, Lost}}
use Rattle.segment_forms.specs.Patterns.{address_at, address_with, counts_within, follow, is_pattern_of, kept, pattern_at, pattern_of}
use Rattle.segment_forms.specs.Patterns.{suggested}
use Rattle.segment_forms.specs.{Places.{first_difference, place_in_path, path_of}, Seen.{HasTwo, IsProgress, followed_by}}
use Rattle.segment_forms.proofs.RunLemmas.{own_address}

and_regroup : (a b c : Bool) → (a && (b && c)) ≡ ((a && b) && c)
and_regroup true b c = refl
and_regroup false b c = refl

regroup : (a b c d : Bool) → (b ≡ true → a ≡ true) → (b && (c && d)) ≡ ((a && c) && (b && d))
regroup a true c d follows = rw (follows refl) refl
regroup a false c d follows = sym (and_right (a && c) false refl)

and_true : (a : Bool) → (a && true) ≡ a
and_true true = refl
and_true false = refl

module _ (test : Pattern → Bool) where
  pub kept_some : (found : Option Pattern) (p : Pattern) → kept test found ≡ Some p → (found ≡ Some p) × (test p ≡ true)
  kept_some None p is = cc
  kept_some (Some q) p is = ⊎_elim
      (λ (yes : test q ≡ true). let same : ◌≡◌ {A = Option Pattern} (Some q) (Some p) = rw yes at is in
      let one : q ≡ p = cc in (same, rw one at yes))
      (λ (no : test q ≡ false). let same : ◌≡◌ {A = Option Pattern} None (Some p) = rw no at is in cc) (cases_Bool (test q))

follow_push : (first : List ℕ) (p : Pattern) (k : ℕ) (xs : List (List ℕ)) (x : List ℕ) → follow first p k (xs ++ x ∷ [])
    ≡ (follow first p k xs && bytes_eq x (address_at first p (k + length xs)))
follow_push first p k [] x = let same : k + 0 ≡ k = omega arith in rw same (and_true _)
follow_push first p k (y ∷ ys) x =
    let same : k + 1 + length ys ≡ k + suc (length ys) = omega arith in
    ap (λ b. bytes_eq y (address_at first p k) && b) (rw same at (follow_push first p (k + 1) ys x))
    ∙ and_regroup (bytes_eq y (address_at first p k)) (follow first p (k + 1) ys) (bytes_eq x (address_at first p (k + suc (length ys))))

-- the number of one more address is below 2^32, and it is as the pattern says
abbrev goes : List ℕ → List (List ℕ) → Pattern → List ℕ → Bool
goes first rest p x = nat_le (p.first_number + length (first ∷ rest)) (2 ^ 32 - 1)
    && bytes_eq x (address_with first p (p.first_number + length (first ∷ rest)))

module _ (first : List ℕ) (rest : List (List ℕ)) (p : Pattern) (x : List ℕ) where
  test_push : is_pattern_of first (rest ++ x ∷ []) p ≡ (is_pattern_of first rest p && goes first rest p x)
  test_push =
      let one_more : suc (length (rest ++ x ∷ [])) - 1 ≡ suc (length rest) = let n = length_push rest x in omega arith in
      let was : suc (length rest) - 1 ≡ length rest = omega arith in
      let start : 0 + suc (length rest) ≡ suc (length rest) = omega arith in
      let push = rw start at (follow_push first p 0 (first ∷ rest) x) in
      rw (one_more, was, push) (regroup (nat_le (p.first_number + length rest) (2 ^ 32 - 1))
      (nat_le (p.first_number + suc (length rest)) (2 ^ 32 - 1)) (follow first p 0 (first ∷ rest)) _
      (λ fits. let low = leb-true (p.first_number + suc (length rest)) (2 ^ 32 - 1) fits in le-leb _ _ (omega arith)))

  goes_on : suggested first (rest ++ x ∷ []) ≡ Some p → is_pattern_of first rest p ≡ true → HasTwo first (first ∷ (rest ++ x ∷ []))
      → IsProgress first (followed_by first p (p.first_number + length (first ∷ rest)) x) (first ∷ (rest ++ x ∷ []))
  goes_on is holds two = ⊎_elim
      (λ (go : goes first rest p x ≡ true). rw go (two, rw (is, test_push, holds, go) refl, let n = length_push rest x in omega arith))
      (λ (stop : goes first rest p x ≡ false). rw stop (two, rw (is, test_push, holds, stop) refl))
      (cases_Bool (goes first rest p x))

-- the pattern of one address
only_is : (first : List ℕ) (found : Option Pattern)
    → ((p : Pattern) → found ≡ Some p → counts_within p 1 ≡ true → address_at first p 0 ≡ first)
    → kept (λ p. counts_within p 1) found ≡ kept (is_pattern_of first []) found
only_is first None own = refl
only_is first (Some p) own = ⊎_elim
    (λ (fits : counts_within p 1 ≡ true). let same = (bytes_eq-Decides first (address_at first p 0)).1 (sym (own p refl fits)) in
    rw (fits, same) refl)
    (λ (above : counts_within p 1 ≡ false). rw above refl) (cases_Bool (counts_within p 1))

module _ (first : List ℕ) (place : ℕ) (digit : is_ascii_digit (get_or first place 0) ≡ true) where
  own : (p : Pattern) → pattern_at first place ≡ Some p → counts_within p 1 ≡ true → address_at first p 0 ≡ first
  own = own_address first place digit

  pub only_pattern : Some place ≡ place_in_path (path_of first) → kept (λ p. counts_within p 1) (pattern_at first place)
      ≡ pattern_of (first ∷ [])
  only_pattern at = rw (← at) (only_is first (pattern_at first place) own)

  module _ (second : List ℕ) (at : Some place ≡ first_difference first second) where
    pub starts : (p : Pattern) → Some p ≡ kept (λ p. counts_within p 1) (pattern_at first place)
        → IsProgress first (followed_by first p (p.first_number + 1) second) (first ∷ (second ∷ []))
    starts p is =
        let both = kept_some (λ p. counts_within p 1) (pattern_at first place) p (sym is) in
        let one = kept_some (is_pattern_of first []) (pattern_at first place) p
        (sym (only_is first (pattern_at first place) own) ∙ sym is) in
        goes_on first [] p second (rw (← at) both.0) one.1 (record { second = second; rest = []; whole = refl })

-- one more address after two or more
module _ (first x : List ℕ) (xs : List (List ℕ)) where
  one_more : HasTwo first xs → HasTwo first (xs ++ x ∷ [])
  one_more two = record { second = two.second; rest = two.rest ++ x ∷ []; whole = rw two.whole refl }

  pub follows_on : (p : Pattern) (next : ℕ) → IsProgress first (Followed p next) xs
      → IsProgress first (followed_by first p next x) (xs ++ x ∷ [])
  follows_on p next is =
      let two = is.0 in
      let rest : List (List ℕ) = two.second ∷ two.rest in
      let both = kept_some (is_pattern_of first rest) (suggested first rest) p (rw two.whole at is.1) in
      rw (is.2, two.whole) (goes_on first rest p x both.0 both.1 (record { second = two.second; rest = two.rest ++ x ∷ []; whole = refl }))

  lost : (rest : List (List ℕ)) (found : Option Pattern) → kept (is_pattern_of first rest) found ≡ None
      → kept (is_pattern_of first (rest ++ x ∷ [])) found ≡ None
  lost rest None is = refl
  lost rest (Some p) is = ⊎_elim
      (λ (holds : is_pattern_of first rest p ≡ true). let found : ◌≡◌ {A = Option Pattern} (Some p) None = rw holds at is in cc)
      (λ (fails : is_pattern_of first rest p ≡ false). rw (test_push first rest p x, fails) refl) (cases_Bool (is_pattern_of first rest p))

  pub stays_lost : IsProgress first Lost xs → IsProgress first Lost (xs ++ x ∷ [])
  stays_lost is =
      let two = is.0 in
      let rest : List (List ℕ) = two.second ∷ two.rest in
      (one_more two, rw two.whole (lost rest (suggested first rest) (rw two.whole at is.1)))
