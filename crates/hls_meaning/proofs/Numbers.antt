-- The numbers of sections rise, and are those that some segment has.
use Rattle.std.proofs.Common.{◌≡◌, ℕ, zero, suc, ◌+◌, ◌<◌, ◌≤◌, ◌==◌, ◌||◌, cond, Bool, true, false, List, [], ◌∷◌, filter, refl, sym, ◌∙◌}
use Rattle.std.proofs.{Common.{ap, subst, ⊎_elim, arith}, lemmas.Bool.{cases_eq, cond_both, eq-eqb, eqb-true, eqb-false, ltb-true}}
use Rattle.std.proofs.lemmas.Bool.{ltb-false, ne_eqb, or_from}
use Rattle.std.specs.{Prelude.{nat_lt, slice_index}, List.{list_any, range_with_len}, List.Sorted.IsStrictlyIncreasing}
use Rattle.hls_media.specs.declared.media.MediaSegment.{MediaSegment}
use Rattle.hls_meaning.specs.{Laws.{NumbersRise, NumbersAreTold, NumbersAreThoseTold}, Meanings.{Source, is_told, numbers_among}}
use Rattle.hls_meaning.specs.Sections.{is_in, numbers_with, with_number}

-- the first number is at least so much, and each is above the one before it
abbrev RisesFrom : ℕ → List ℕ → Type 0
RisesFrom low [] = Unit {0}
RisesFrom low (n ∷ later) = (low ≤ n) × RisesFrom (n + 1) later

abbrev has : ℕ → List ℕ → Bool
has number numbers = list_any (λ n. n == number) numbers

-- ---- they rise

with_rises : (n low : ℕ) (ms : List ℕ) → low ≤ n → RisesFrom low ms → RisesFrom low (with_number n ms)
with_rises n low [] at_least rises = (at_least, tt)
with_rises n low (m ∷ later) at_least rises =
    cond_both (n == m) (m ∷ later) (cond (nat_lt n m) (n ∷ m ∷ later) (m ∷ with_number n later)) (RisesFrom low) (λ same. rises)
    (λ other. cond_both (nat_lt n m) (n ∷ m ∷ later) (m ∷ with_number n later) (RisesFrom low)
    (λ less. (at_least, (omega (arith, ltb-true n m less), rises.1)))
    (λ more. (rises.0, with_rises n (m + 1) later (omega (arith, ltb-false n m more, eqb-false n m other)) rises.1)))

segments_rise : (segments : List MediaSegment) (ms : List ℕ) → RisesFrom 0 ms → RisesFrom 0 (numbers_with ms segments)
segments_rise [] ms rises = rises
segments_rise (s ∷ later) ms rises = segments_rise later (with_number s.section ms) (with_rises s.section 0 ms (omega arith) rises)

sources_rise : (sources : List Source) (ms : List ℕ) → RisesFrom 0 ms → RisesFrom 0 (numbers_among ms sources)
sources_rise [] ms rises = rises
sources_rise (source ∷ later) ms rises = sources_rise later (numbers_with ms source.media.segments)
    (segments_rise source.media.segments ms rises)

increasing : (low : ℕ) (xs : List ℕ) → RisesFrom low xs → IsStrictlyIncreasing xs
increasing low [] rises k within = absurd (omega arith)
increasing low (x ∷ []) rises k within = absurd (omega arith)
increasing low (x ∷ y ∷ ys) rises zero within = omega (arith, rises.1.0)
increasing low (x ∷ y ∷ ys) rises (suc k) within =
    let next : suc (k + 1) ≡ suc k + 1 = omega arith in
    subst (λ j. slice_index (y ∷ ys) k < slice_index (x ∷ y ∷ ys) j) next (increasing (x + 1) (y ∷ ys) rises.1 k (omega arith))

pub numbers_rise : NumbersRise
numbers_rise sources = increasing 0 (numbers_among [] sources) (sources_rise sources [] tt)

-- ---- they are told

or_twice : (a b : Bool) → a || b ≡ a || (a || b)
or_twice true b = refl
or_twice false b = refl

or_swap : (a b c : Bool) → a || (b || c) ≡ b || (a || c)
or_swap true true c = refl
or_swap true false c = refl
or_swap false true c = refl
or_swap false false c = refl

or_apart : (a b c : Bool) → a || (b || c) ≡ (b || a) || c
or_apart true true c = refl
or_apart true false c = refl
or_apart false true c = refl
or_apart false false c = refl

module _ (number : ℕ) where
  with_told : (n : ℕ) (ms : List ℕ) → has number (with_number n ms) ≡ (n == number) || has number ms
  with_told n [] = refl
  with_told n (m ∷ later) =
      cond_both (n == m) (m ∷ later) (cond (nat_lt n m) (n ∷ m ∷ later) (m ∷ with_number n later))
      (λ ms. has number ms ≡ (n == number) || has number (m ∷ later))
      (λ same. or_twice (m == number) (has number later) ∙ ap (λ k. (k == number) || has number (m ∷ later)) (sym (eqb-true n m same)))
      (λ other. cond_both (nat_lt n m) (n ∷ m ∷ later) (m ∷ with_number n later) (λ ms. has number ms
      ≡ (n == number) || has number (m ∷ later))
      (λ less. refl)
      (λ more. ap (λ b. (m == number) || b) (with_told n later) ∙ or_swap (m == number) (n == number) (has number later)))

  segments_told : (segments : List MediaSegment) (ms : List ℕ) → has number (numbers_with ms segments)
      ≡ list_any (is_in number) segments || has number ms
  segments_told [] ms = refl
  segments_told (s ∷ later) ms =
      segments_told later (with_number s.section ms) ∙ ap (λ b. list_any (is_in number) later || b) (with_told s.section ms)
      ∙ or_apart (list_any (is_in number) later) (is_in number s) (has number ms)

  sources_told : (sources : List Source) (ms : List ℕ) → has number (numbers_among ms sources) ≡ is_told sources number || has number ms
  sources_told [] ms = refl
  sources_told (source ∷ later) ms =
      sources_told later (numbers_with ms source.media.segments)
      ∙ ap (λ b. is_told later number || b) (segments_told source.media.segments ms)
      ∙ or_apart (is_told later number) (list_any (is_in number) source.media.segments) (has number ms)

or_false : (b : Bool) → b || false ≡ b
or_false true = refl
or_false false = refl

pub numbers_are_told : NumbersAreTold
numbers_are_told sources number = sources_told number sources [] ∙ or_false (is_told sources number)

-- ---- those below a bound

-- none of numbers from a number on is before it
none_before : (number low : ℕ) (xs : List ℕ) → RisesFrom low xs → number < low → has number xs ≡ false
none_before number low [] rises before = refl
none_before number low (x ∷ xs) rises before =
    or_from (x == number) (has number xs) (ne_eqb x number (λ same. absurd (omega (arith, rises.0))))
    (none_before number (x + 1) xs rises.1 (omega (arith, rises.0)))

module _ (told : ℕ → Bool) where
  abbrev Tells : ℕ → List ℕ → Type 0
  Tells low xs = (n : ℕ) → low ≤ n → has n xs ≡ told n

  -- the first number is not the one that is looked for
  pass : (n x : ℕ) (xs : List ℕ) → (x ≡ n → ⊥) → has n (x ∷ xs) ≡ has n xs
  pass n x xs other = ap (λ b. b || has n xs) (ne_eqb x n other)

  found : (n x : ℕ) (xs : List ℕ) → x ≡ n → has n (x ∷ xs) ≡ true
  found n x xs same = ap (λ b. b || has n xs) (eq-eqb x n same)

  kept : (low : ℕ) (xs ys : List ℕ) → told low ≡ true → xs ≡ ys → low ∷ xs ≡ cond (told low) (low ∷ ys) ys
  kept low xs ys is same = rw is (ap (λ zs. low ∷ zs) same)

  left : (low : ℕ) (xs ys : List ℕ) → told low ≡ false → xs ≡ ys → xs ≡ cond (told low) (low ∷ ys) ys
  left low xs ys is same = rw is same

  same_numbers : (count low bound : ℕ) (xs : List ℕ) → low + count ≡ bound → ((n : ℕ) → told n ≡ true → n < bound) → RisesFrom low xs
      → Tells low xs → xs ≡ filter told (range_with_len low count)
  same_numbers zero low bound [] end below rises tells = refl
  same_numbers zero low bound (x ∷ xs) end below rises tells =
      absurd (omega (arith, rises.0, below x (sym (tells x rises.0) ∙ found x x xs refl)))
  same_numbers (suc count) low bound [] end below rises tells =
      left low [] (filter told (range_with_len (low + 1) count)) (sym (tells low (omega arith)))
      (same_numbers count (low + 1) bound [] (omega (arith, end)) below tt (λ n later. tells n (omega arith)))
  same_numbers (suc count) low bound (x ∷ xs) end below rises tells =
      let rest : List ℕ = filter told (range_with_len (low + 1) count) in
      ⊎_elim
      (λ same. ap (λ y. y ∷ xs) same ∙ kept low xs rest (sym (tells low (omega arith)) ∙ found low x xs same)
      (same_numbers count (low + 1) bound xs (omega (arith, end)) below (subst (λ y. RisesFrom (y + 1) xs) same rises.1)
      (λ n later. sym (pass n x xs (λ is. absurd (omega arith))) ∙ tells n (omega arith))))
      (λ other. left low (x ∷ xs) rest (sym (tells low (omega arith))
      ∙ none_before low (low + 1) (x ∷ xs) (omega (arith, rises.0, other), rises.1) (omega arith))
      (same_numbers count (low + 1) bound (x ∷ xs) (omega (arith, end)) below (omega (arith, rises.0, other), rises.1)
      (λ n later. tells n (omega arith))))
      (cases_eq x low)

pub numbers_are_those_told : NumbersAreThoseTold
numbers_are_those_told sources bound below =
    same_numbers (is_told sources) bound 0 bound (numbers_among [] sources) (omega arith) below (sources_rise sources [] tt)
    (λ n least. numbers_are_told sources n)
