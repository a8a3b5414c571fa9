-- What digits write.
use Rattle.std.proofs.Common.{◌≡◌, ℕ, zero, suc, ◌-◌, ◌<◌, ◌+◌, ◌*◌, ◌≤◌, ◌^◌, ◌==◌, ◌&&◌, true, false, List, [], ◌∷◌, ◌++◌, length}
use Rattle.std.proofs.Common.{replicate, drop}
use Rattle.std.proofs.Common.{get_or, bytes_eq, Option, Some, None, arith, refl, sym, ap, ◌∙◌, ⊎_elim, length-append}
use Rattle.std.proofs.lemmas.Bool.{and_from, and_parts, and_right, cases_Bool, cases_lt, eq-eqb, eqb-true, false_from_ne_true}
use Rattle.std.proofs.lemmas.Bool.{le-ltb, leb-true, lt-ltb}
use Rattle.std.proofs.lemmas.Bool.Decides.{nat_tests}
use Rattle.std.proofs.{lemmas.Bool.Decides.{same_from_decides}, lemmas.Slice.Eq.bytes_eq-Decides}
use Rattle.std.proofs.{lemmas.List.{length-replicate, at_drop_more}, lemmas.Str.digit_value_digit}
use Rattle.std.proofs.lemmas.Fmt.{decimal-digits_value, decimal_digit, decimal_nonempty, digits_decimal, digits_value-decimal}
use Rattle.std.proofs.{lemmas.Fmt.{first_decimal, length-decimal-le}, lemmas.Str.Parse.{IsNumeralModel, digits_value_short}}
use Rattle.std.proofs.lemmas.Str.Parse.{numerals_by_value, tells_all_ascii_digits}
use Rattle.std.specs.{Prelude.{decimal, nat_le, nat_lt}, Str.all_ascii_digits, Str.Parse.{digits_value, digits_value_after}}
use Rattle.std.specs.{Char.{digit_value, is_ascii_digit}, Int.IsInRange}
use Rattle.template_ids.specs.Templates.{padded}
use Rattle.segment_forms.specs.{Numbers.{has_spare_zero, has_width, value_of}, Patterns.width_of}

own : IsNumeralModel (λ ds. all_ascii_digits ds ≡ true) (digits_value 10)
own = numerals_by_value (λ ds. all_ascii_digits ds ≡ true) tells_all_ascii_digits

-- more digits write no smaller number
grows : (n : ℕ) (ds : List ℕ) → n ≤ digits_value_after 10 n ds
grows n [] = omega arith
grows n (d ∷ ds) = omega (arith, grows (n * 10 + digit_value d) ds)

value_behind_zeros : (n : ℕ) (ds : List ℕ) → digits_value 10 (replicate n 48 ++ ds) ≡ digits_value 10 ds
value_behind_zeros zero ds = refl
value_behind_zeros (suc n) ds = value_behind_zeros n ds

digits_behind_zeros : (n : ℕ) (ds : List ℕ) → all_ascii_digits ds ≡ true → all_ascii_digits (replicate n 48 ++ ds) ≡ true
digits_behind_zeros zero ds are = are
digits_behind_zeros (suc n) ds are = digits_behind_zeros n ds are

module _ (ds : List ℕ) (are : all_ascii_digits ds ≡ true) (some : 0 < length ds) (small : digits_value 10 ds < 2 ^ 64) where
  -- digits without a spare zero
  plain : has_spare_zero ds ≡ false → decimal (digits_value 10 ds) ≡ ds
  plain spare = decimal-digits_value own ds are some (λ first. grind (arith, nat_tests)) small

  unpadded : (width : ℕ) → has_spare_zero ds ≡ false → width ≤ length ds → padded width (decimal (digits_value 10 ds)) ≡ ds
  unpadded width spare most = let none : width - length ds ≡ 0 = omega arith in rw (plain spare, none) refl

  short : length (decimal (digits_value 10 ds)) ≤ length ds
  short = length-decimal-le (length ds) (digits_value 10 ds) some (digits_value_short own ds (length ds) are (omega arith)) small

-- digits are their value, padded to their number
padded_digits : (ds : List ℕ) → all_ascii_digits ds ≡ true → 0 < length ds → digits_value 10 ds < 2 ^ 64
    → padded (length ds) (decimal (digits_value 10 ds)) ≡ ds
padded_digits [] are some small = absurd (omega arith)
padded_digits (d ∷ []) are some small = rw (plain (d ∷ []) are some small refl) refl
padded_digits (d ∷ (e ∷ ds)) are some small =
    ⊎_elim (λ (spare : has_spare_zero (d ∷ (e ∷ ds)) ≡ true).
    let is : d ≡ 48 = eqb-true d 48 (and_parts (nat_le 2 (length (d ∷ (e ∷ ds)))) (d == 48) spare).1 in
    let rest : all_ascii_digits (e ∷ ds) ≡ true = (and_parts (is_ascii_digit d) (all_ascii_digits (e ∷ ds)) are).1 in
    let one : 0 < length (e ∷ ds) = omega arith in
    let less : digits_value 10 (e ∷ ds) < 2 ^ 64 = rw is at small in
    let fits = short (e ∷ ds) rest one less in
    let more : suc (length (e ∷ ds)) - length (decimal (digits_value 10 (e ∷ ds)))
    ≡ suc (length (e ∷ ds) - length (decimal (digits_value 10 (e ∷ ds)))) = omega arith in
    rw (is, more) (ap (λ xs. 48 ∷ xs) (padded_digits (e ∷ ds) rest one less)))
    (λ none. unpadded (d ∷ (e ∷ ds)) are some small (length (d ∷ (e ∷ ds))) none (omega arith))
    (cases_Bool (has_spare_zero (d ∷ (e ∷ ds))))

-- a run of digits is its value, padded to its width
pub padded_run : (run : List ℕ) → all_ascii_digits run ≡ true → 0 < length run → digits_value 10 run < 2 ^ 64
    → padded (width_of run) (decimal (digits_value 10 run)) ≡ run
padded_run run are some small = ⊎_elim (λ spare. rw spare (padded_digits run are some small))
    (λ none. rw none (unpadded run are some small 0 none (omega arith))) (cases_Bool (has_spare_zero run))

-- digits of a width are their value, padded to it
is_padded : (width : ℕ) (ds : List ℕ) → all_ascii_digits ds ≡ true → digits_value 10 ds < 2 ^ 64 → has_width width ds ≡ true
    → ds ≡ padded width (decimal (digits_value 10 ds))
is_padded width ds are small fits = ⊎_elim
    (λ spare. let same : length ds ≡ width = eqb-true (length ds) width (rw spare at fits) in
    let two = (and_parts (nat_le 2 (length ds)) _ spare).0 in
    rw (← same) (sym (padded_digits ds are (grind (arith, nat_tests)) small)))
    (λ none. let both = and_parts (nat_le 1 (length ds)) (nat_le width (length ds)) (rw none at fits) in
    sym (unpadded ds are (leb-true 1 (length ds) both.0) small width none (leb-true width (length ds) both.1)))
    (cases_Bool (has_spare_zero ds))

module _ (width n : ℕ) (small : n < 2 ^ 32) where
  less : n < 2 ^ 64
  less = omega arith

  padded_are : all_ascii_digits (padded width (decimal n)) ≡ true
  padded_are = digits_behind_zeros (width - length (decimal n)) (decimal n) (digits_decimal own n less)

  padded_value : digits_value 10 (padded width (decimal n)) ≡ n
  padded_value = value_behind_zeros (width - length (decimal n)) (decimal n) ∙ digits_value-decimal own n less

  no_spare : has_spare_zero (decimal n) ≡ false
  no_spare = ⊎_elim (λ below. rw (decimal_digit n below) refl)
      (λ above. let first = first_decimal n (omega arith) less in grind (arith, nat_tests)) (cases_lt n 10)

  padded_fits : has_width width (padded width (decimal n)) ≡ true
  padded_fits = let some = decimal_nonempty n less in ⊎_elim
      (λ (fewer : length (decimal n) < width).
      let long : length (padded width (decimal n)) ≡ width = simp (length-append, length-replicate) (omega arith) in
      grind (arith, nat_tests))
      (λ (all : width ≤ length (decimal n)). let none : width - length (decimal n) ≡ 0 = omega arith in
      rw (none, no_spare) (grind (arith, nat_tests)))
      (cases_lt (length (decimal n)) width)

  -- digits are the number, padded to the width, where they have the width and the value
  pub number_tells : (ds : List ℕ) → all_ascii_digits ds ≡ true → ((digits_value 10 ds == n) && has_width width ds)
      ≡ bytes_eq ds (padded width (decimal n))
  number_tells ds are = same_from_decides _ _ (
    λ yes. let both = and_parts (digits_value 10 ds == n) (has_width width ds) yes in
        let same = eqb-true (digits_value 10 ds) n both.0 in
        rw same at (is_padded width ds are (omega arith) both.1),
    λ is. rw (is, padded_value, padded_fits) (and_from (n == n) true (eq-eqb n n refl) refl),
  )
      (bytes_eq-Decides ds (padded width (decimal n)))

  -- the same, for digits with a value below 2^32
  pub number_is : (ds : List ℕ) (value : ℕ) → Some value ≡ value_of ds → ((value == n) && has_width width ds)
      ≡ bytes_eq ds (padded width (decimal n))
  number_is ds value is = ⊎_elim
      (λ (small_digits : (all_ascii_digits ds && nat_lt (digits_value 10 ds) (2 ^ 32)) ≡ true).
      let found : ◌≡◌ {A = Option ℕ} (Some value) (Some (digits_value 10 ds)) = rw small_digits at is in
      let same : value ≡ digits_value 10 ds = cc in
      rw same (number_tells ds (and_parts _ _ small_digits).0))
      (λ (none : (all_ascii_digits ds && nat_lt (digits_value 10 ds) (2 ^ 32)) ≡ false).
      let found : ◌≡◌ {A = Option ℕ} (Some value) None = rw none at is in cc)
      (cases_Bool (all_ascii_digits ds && nat_lt (digits_value 10 ds) (2 ^ 32)))

  pub number_isnt : (ds : List ℕ) → None ≡ value_of ds → false ≡ bytes_eq ds (padded width (decimal n))
  number_isnt ds none = sym (false_from_ne_true _ (λ same.
      let is = (bytes_eq-Decides ds (padded width (decimal n))).0 same in
      let are : all_ascii_digits ds ≡ true = rw is padded_are in
      let value : digits_value 10 ds ≡ n = rw is padded_value in
      let less : nat_lt (digits_value 10 ds) (2 ^ 32) ≡ true = rw value (lt-ltb n (2 ^ 32) small) in
      let found : ◌≡◌ {A = Option ℕ} None (Some (digits_value 10 ds)) = rw (are, less) at none in cc))

-- digits whose value becomes too great have none that is below 2^32
pub value_too_great : (value : ℕ) (ds : List ℕ) (i : ℕ) → i < length ds → is_ascii_digit (get_or ds i 0) ≡ true
    → digits_value_after 10 value (drop i ds) ≡ digits_value 10 ds → 2 ^ 32 ≤ value * 10 + (get_or ds i 0 - 48) → None ≡ value_of ds
value_too_great value ds i within digit same great =
    let range : IsInRange 48 57 (get_or ds i 0) = grind (arith, nat_tests) in
    let next : digits_value_after 10 (value * 10 + digit_value (get_or ds i 0)) (drop (i + 1) ds) ≡ digits_value 10 ds
    = sym (at_drop_more (digits_value_after 10 value) ds i 0 within) ∙ same in
    let grown = grows (value * 10 + digit_value (get_or ds i 0)) (drop (i + 1) ds) in
    let more : nat_lt (digits_value 10 ds) (2 ^ 32) ≡ false =
    le-ltb (digits_value 10 ds) (2 ^ 32) (omega (arith, digit_value_digit (get_or ds i 0) range)) in
    rw (and_right (all_ascii_digits ds) _ more) refl
