-- The names of renditions, and which renditions are of one set.
use Rattle.std.proofs.Common.{◌≡◌, ℕ, zero, suc, ◌+◌, ◌/◌, ◌%◌, ◌^◌, ◌<◌, ◌≤◌, Bool, true, false, ◌&&◌, cond, eqb, List, [], ◌∷◌, ◌++◌, ◌⊎◌}
use Rattle.std.proofs.Common.{decimal}
use Rattle.std.proofs.Common.{length, count_by, Option, Some, None, bytes_eq, refl, sym, ◌∙◌, ap, arith, inl, inr, leb}
use Rattle.std.proofs.{lemmas.Bool.{and_from, and_parts, cases_Bool, eq-eqb, eqb-true, or_left, or_right, true≢false}}
use Rattle.std.proofs.lemmas.Bool.Decides.{Decides-and, Decides-eqb, Decides-like, nat_tests, same_from_decides}
use Rattle.std.proofs.{lemmas.Fmt.decimal_injective, lemmas.List.Folds.list_any-append, lemmas.List.Sums.sum_by-cons}
use Rattle.std.proofs.{lemmas.Option.same_Some}
use Rattle.std.proofs.lemmas.Slice.Eq.{bytes_eq-Decides}
use Rattle.std.specs.{Fmt.{digits, digits_onto, digit_glyph}, List.{list_any, list_all, slice_get}}
use Rattle.hls_master.specs.Renditions.{RenditionValue, same_kind, same_rendition_set}
use Rattle.track_hints.specs.{Labels.{ends_in_number, is_number}, declared.hints.TrackHints.TrackHints}
use Rattle.hls_writer.specs.Attributes.{WrittenAttribute, name, label, tag_or_undetermined}
use Rattle.hls_writer.specs.{Menus.{is_single, label_at, name_at}, Renditions.of_name}
use Rattle.audio_groups.proofs.Lists.{options_decide}

abbrev pub is_digit : ℕ → Bool
is_digit b = leb 48 b && leb b 57

-- however large a number is, what is written of it is digits
digits_are : (k n : ℕ) (behind : List ℕ) → list_all is_digit behind ≡ true → list_all is_digit (digits_onto k 10 false n behind) ≡ true
digits_are zero n behind all = all
digits_are (suc k) n behind all =
    let one : is_digit (digit_glyph false (n % 10)) ≡ true = grind (arith, nat_tests) in
    elim (cases_Bool (eqb (n / 10) 0)) [
      | inl is ↦ rw is (and_from _ _ one all)
      | inr isnt ↦ rw isnt (digits_are k (n / 10) (digit_glyph false (n % 10) ∷ behind) (and_from _ _ one all))
    ]

pub decimal_digits : (n : ℕ) → list_all is_digit (decimal n) ≡ true
unfolding digits
decimal_digits n = digits_are 64 n [] refl

digits_grow : (k n : ℕ) (behind : List ℕ) → length behind ≤ length (digits_onto k 10 false n behind)
digits_grow zero n behind = omega arith
digits_grow (suc k) n behind = elim (cases_Bool (eqb (n / 10) 0)) [
  | inl is ↦ rw is (omega arith)
  | inr isnt ↦ rw isnt (omega (arith, digits_grow k (n / 10) (digit_glyph false (n % 10) ∷ behind)))
]

digits_some : (k n : ℕ) → 0 < length (digits_onto (suc k) 10 false n [])
digits_some k n = elim (cases_Bool (eqb (n / 10) 0)) [
  | inl is ↦ rw is (omega arith)
  | inr isnt ↦ rw isnt (omega (arith, digits_grow k (n / 10) (digit_glyph false (n % 10) ∷ [])))
]

pub decimal_some : (n : ℕ) → 0 < length (decimal n)
unfolding digits
decimal_some n = digits_some 63 n

-- a byte that is no digit stands in no number
pub not_in_digits : (mark : ℕ) → is_digit mark ≡ false → (ds : List ℕ) → list_all is_digit ds ≡ true → list_any (eqb mark) ds ≡ false
not_in_digits mark isnt [] all = refl
not_in_digits mark isnt (d ∷ ds) all = let parts = and_parts (is_digit d) (list_all is_digit ds) all in elim (cases_Bool (eqb mark d)) [
  | inl is ↦ absurd (true≢false (sym parts.0 ∙ sym (ap is_digit (eqb-true mark d is)) ∙ isnt))
  | inr other ↦ rw other (not_in_digits mark isnt ds parts.1)
]

-- a text tells what stands behind the last mark
same_end : (mark : ℕ) (xs ys ds es : List ℕ) → list_any (eqb mark) ds ≡ false → list_any (eqb mark) es ≡ false
    → xs ++ mark ∷ ds ≡ ys ++ mark ∷ es → ds ≡ es
same_end mark [] [] ds es free none e = cc
same_end mark [] (y ∷ ys) ds es free none e =
    let is : ds ≡ ys ++ mark ∷ es = cc in
    absurd (true≢false (sym (ap (list_any (eqb mark)) is ∙ list_any-append (eqb mark) ys (mark ∷ es)
    ∙ rw (eq-eqb mark mark refl) (or_right (list_any (eqb mark) ys) true refl)) ∙ free))
same_end mark (x ∷ xs) [] ds es free none e =
    let is : xs ++ mark ∷ ds ≡ es = cc in
    absurd (true≢false (sym (list_any-append (eqb mark) xs (mark ∷ ds)
    ∙ rw (eq-eqb mark mark refl) (or_right (list_any (eqb mark) xs) true refl)) ∙ ap (list_any (eqb mark)) is ∙ none))
same_end mark (x ∷ xs) (y ∷ ys) ds es free none e = let rest : xs ++ mark ∷ ds ≡ ys ++ mark ∷ es = cc in
    same_end mark xs ys ds es free none rest

-- the name of a rendition
abbrev pub named : Option (List ℕ) → ℕ → List ℕ
named language number = tag_or_undetermined language ++ 45 ∷ decimal number

pub same_number : (one other : Option (List ℕ)) (m n : ℕ) → m < 2 ^ 64 → n < 2 ^ 64 → named one m ≡ named other n → m ≡ n
same_number one other m n few less e = decimal_injective m n few less
    (same_end 45 (tag_or_undetermined one) (tag_or_undetermined other) (decimal m) (decimal n)
    (not_in_digits 45 refl (decimal m) (decimal_digits m)) (not_in_digits 45 refl (decimal n) (decimal_digits n)) e)

pub same_test : (a b c d : ℕ) → (a ≡ b → c ≡ d) → (c ≡ d → a ≡ b) → eqb a b ≡ eqb c d
same_test a b c d there back = same_from_decides (eqb a b) (eqb c d) (Decides-eqb a b) (Decides-like (eqb c d) back there (Decides-eqb c d))

-- renditions of one kind are of one set where their names are the same, and then their languages are
pub by_name : (one other : RenditionValue) (m n : ℕ) → same_kind one.kind other.kind ≡ true → (one.name ≡ other.name → m ≡ n)
    → (m ≡ n → (one.name ≡ other.name) × (one.language ≡ other.language)) → same_rendition_set one other ≡ eqb m n
by_name one other m n kinds apart same = rw kinds (same_from_decides _ (eqb m n)
    (Decides-like _ (λ same_ones. apart same_ones.0) same
    (Decides-and _ _ (bytes_eq-Decides one.name other.name) (options_decide bytes_eq bytes_eq-Decides one.language other.language)))
    (Decides-eqb m n))

-- ---- a label isn't a name with a number

digits_end : (text : List ℕ) → 0 < length text → list_all is_digit text ≡ true → is_number text ≡ true
digits_end [] some all = absurd (omega arith)
digits_end (b ∷ bs) some all = all

pub named_ends : (stem : Option (List ℕ)) (number : ℕ) → ends_in_number (named stem number) ≡ true
named_ends stem number = behind (tag_or_undetermined stem)
  where
    behind : (front : List ℕ) → ends_in_number (front ++ 45 ∷ decimal number) ≡ true
    behind [] = or_left (is_number (decimal number)) (ends_in_number (decimal number))
        (digits_end (decimal number) (decimal_some number) (decimal_digits number))
    behind (b ∷ front) = or_right (eqb b 45 && is_number (front ++ 45 ∷ decimal number)) _ (behind front)

-- ---- a label that one place alone has

module _ (test : ℕ → Bool) where
  step : (x : ℕ) (places : List ℕ) → count_by test (x ∷ places) ≡ cond (test x) 1 0 + count_by test places
  step x places = sum_by-cons (λ y. cond (test y) 1 0) x places

  one_more : (x p : ℕ) (places : List ℕ) → x ≡ p → test p ≡ true → count_by test (x ∷ places) ≡ 1 + count_by test places
  one_more x p places is passes = let here : test x ≡ true = ap test is ∙ passes in
      step x places ∙ ap (λ b. cond b 1 0 + count_by test places) here

  counted : (places : List ℕ) (m p : ℕ) → slice_get places m ≡ Some p → test p ≡ true → 0 < count_by test places
  counted [] m p at passes = absurd (cc)
  counted (x ∷ places) zero p at passes = omega (arith, one_more x p places (same_Some x p at) passes)
  counted (x ∷ places) (suc m) p at passes = omega (arith, step x places, counted places m p at passes)

  pub one_place : (places : List ℕ) (m n p q : ℕ) → count_by test places ≤ 1 → slice_get places m ≡ Some p → slice_get places n ≡ Some q
      → test p ≡ true → test q ≡ true → m ≡ n
  one_place [] m n p q most at also passes too = absurd (cc)
  one_place (x ∷ places) zero zero p q most at also passes too = refl
  one_place (x ∷ places) zero (suc n) p q most at also passes too =
      absurd (omega (arith, most, one_more x p places (same_Some x p at) passes, counted places n q also too))
  one_place (x ∷ places) (suc m) zero p q most at also passes too =
      absurd (omega (arith, most, one_more x q places (same_Some x q also) too, counted places m p at passes))
  one_place (x ∷ places) (suc m) (suc n) p q most at also passes too =
      ap suc (one_place places m n p q (omega (arith, most, step x places)) at also passes too)

-- ---- the names of renditions

module _ (hints : List TrackHints) (heads : List ℕ) where
  -- the name of the rendition with a number, in its language
  abbrev pub name_of : Option (List ℕ) → ℕ → WrittenAttribute
  name_of language number = of_name hints language (name_at hints heads number)

  -- a label that one head alone has
  pub record IsLabel (number : ℕ) (text : List ℕ) : Type 0 where
    pub place : ℕ
    pub at : slice_get heads number ≡ Some place
    pub is : label_at hints place ≡ Some text
    pub single : is_single hints heads text ≡ true

  abbrev pub HasStem : (language stem : Option (List ℕ)) → Type 0
  HasStem language stem = (stem ≡ language) ⊎ ((place : ℕ) × ((text : List ℕ) × ((label_at hints place ≡ Some text) × (stem ≡ Some text))))

  -- a language or a label with the number, or a label alone
  abbrev pub IsName : (language : Option (List ℕ)) → (number : ℕ) → WrittenAttribute → Type 0
  IsName language number attribute = ((stem : Option (List ℕ)) × ((attribute ≡ name stem number) × HasStem language stem))
      ⊎ ((text : List ℕ) × ((attribute ≡ label text) × IsLabel number text))

  pub name_is : (language : Option (List ℕ)) (number : ℕ) → IsName language number (name_of language number)
  name_is language number = of_head (slice_get heads number) refl
    where
      numbered : name_at hints heads number ≡ name_at hints [] number → IsName language number (name_of language number)
      numbered e = inl (language, (ap (of_name hints language) e, inl refl))

      of_single : (place : ℕ) (text : List ℕ) → slice_get heads number ≡ Some place → label_at hints place ≡ Some text
          → (b : Bool) → is_single hints heads text ≡ b → IsName language number (name_of language number)
      of_single place text at is true single =
          inr (text, (rw (at, is, single) (rw is refl), record { place = place; at = at; is = is; single = single }))
      of_single place text at is false several =
          inl (Some text, (rw (at, is, several) (rw is refl), inr (place, (text, (is, refl)))))

      of_label : (place : ℕ) → slice_get heads number ≡ Some place → (o : Option (List ℕ)) → label_at hints place ≡ o
          → IsName language number (name_of language number)
      of_label place at None is = numbered (rw (at, is) refl)
      of_label place at (Some text) is = of_single place text at is (is_single hints heads text) refl

      of_head : (o : Option ℕ) → slice_get heads number ≡ o → IsName language number (name_of language number)
      of_head None at = numbered (rw at refl)
      of_head (Some place) at = of_label place at (label_at hints place) refl
