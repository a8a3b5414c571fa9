-- Numbers and ranges are read as they were written.
use Rattle.std.proofs.Common.{◌≡◌, ℕ, ◌+◌, ◌-◌, ◌^◌, ◌<◌, ◌≤◌, ◌==◌, ◌&&◌, not, pos, nat_lt, nat_le, Bool, true, false, List, [], ◌∷◌, ◌++◌}
use Rattle.std.proofs.{Common.{length, reverse, take, position, Some, refl, sym, ◌∙◌, ap, arith, length-append}, lemmas.Bool.and_parts}
use Rattle.std.proofs.{lemmas.Fmt.decimal_is_IsNumeral_wide, lemmas.List.{take_all, reverse-append}, Math.Seq.take-append_seam}
use Rattle.std.proofs.{Math.Seq.drop-append-add, lemmas.List.Folds.list_all-append, lemmas.Str.Parse.{IsNumeralModel, numerals_by_value}}
use Rattle.std.proofs.lemmas.Str.Parse.{tells_all_ascii_digits}
use Rattle.std.specs.{Prelude.decimal, Char.is_ascii_digit, List.{list_all, prefix_len, suffix_len}, Str.all_ascii_digits}
use Rattle.std.specs.Str.Parse.{digits_value}
use Rattle.url_parts.specs.{declared.range.Range.Range, Ranges.{place_of, range_of, range_at, range_between}}
use Rattle.mpd_values.specs.{declared.blank.Blank.TheVariants.Space, Blanks.{is_blank, trimmed}, Numbers.{number_of, signed_of, has_minus}}
use Rattle.mpd_levels.specs.Readings.{range_in}
use Rattle.dash_writer.specs.Values.{range_text}
use Rattle.laws_of_mpds.specs.Told.{IsShort, IsSomeBytes}

-- ---- nothing is dropped around a text without spaces

abbrev pub is_solid : ℕ → Bool
is_solid b = not (b == 32)

none_before : (text : List ℕ) → list_all is_solid text ≡ true → prefix_len (is_blank Space) text ≡ 0
none_before [] solid = refl
none_before (b ∷ bs) solid = let other : (b == 32) ≡ false = grind arith in rw other refl

all_reversed : (p : ℕ → Bool) (text : List ℕ) → list_all p text ≡ true → list_all p (reverse text) ≡ true
all_reversed p [] all = refl
all_reversed p (b ∷ bs) all =
    let parts = and_parts (p b) (list_all p bs) all in
    ap (list_all p) (reverse-append (b ∷ []) bs) ∙ list_all-append p (reverse bs) (b ∷ []) ∙ rw (all_reversed p bs parts.1, parts.0) refl

pub solid_stays : (text : List ℕ) → list_all is_solid text ≡ true → trimmed Space text ≡ text
unfolding trimmed
solid_stays text solid =
    let behind : suffix_len (is_blank Space) text ≡ 0 = none_before (reverse text) (all_reversed is_solid text solid) in
    let whole : take (length text - suffix_len (is_blank Space) text) text ≡ text =
    take_all (length text - suffix_len (is_blank Space) text) text (omega (arith, behind)) in
    rw (whole, none_before text solid) refl

-- ---- digits

model : IsNumeralModel (λ ds. all_ascii_digits ds ≡ true) (digits_value 10)
model = numerals_by_value _ tells_all_ascii_digits

record IsNumber (n : ℕ) (text : List ℕ) : Type 0 where
  some : 0 < length text
  digits : list_all is_ascii_digit text ≡ true
  value : digits_value 10 text ≡ n

digits_all : (ds : List ℕ) → all_ascii_digits ds ≡ list_all is_ascii_digit ds
digits_all [] = refl
digits_all (d ∷ ds) = ap (λ all. is_ascii_digit d && all) (digits_all ds)

decimal_is : (n : ℕ) → IsShort n → IsNumber n (decimal n)
decimal_is n short =
    let is = decimal_is_IsNumeral_wide n short in
    record { some = is.0.0; digits = sym (digits_all (decimal n)) ∙ model.from (decimal n) is.0.1; value = is.1 }

solid_digits : (ds : List ℕ) → list_all is_ascii_digit ds ≡ true → list_all is_solid ds ≡ true
solid_digits [] all = refl
solid_digits (d ∷ ds) all =
    let parts = and_parts (is_ascii_digit d) (list_all is_ascii_digit ds) all in
    let other : (d == 32) ≡ false = grind arith in
    rw other (solid_digits ds parts.1)

pub number_read : (n : ℕ) → IsShort n → number_of (decimal n) ≡ Some n
unfolding number_of
number_read n short =
    let is = decimal_is n short in
    let some : nat_lt 0 (length (decimal n)) ≡ true = grind (arith, is.some) in
    rw (solid_stays (decimal n) (solid_digits (decimal n) is.digits), is.digits, some, is.value) refl

no_minus : (text : List ℕ) → list_all is_ascii_digit text ≡ true → has_minus text ≡ false
no_minus [] all = refl
no_minus (d ∷ ds) all = let parts = and_parts (is_ascii_digit d) (list_all is_ascii_digit ds) all in grind arith

pub signed_read : (n : ℕ) → IsShort n → signed_of (decimal n) ≡ Some (pos n)
unfolding signed_of
signed_read n short =
    let is = decimal_is n short in
    let some : nat_lt 0 (length (decimal n)) ≡ true = grind (arith, is.some) in
    rw (solid_stays (decimal n) (solid_digits (decimal n) is.digits), no_minus (decimal n) is.digits, is.digits, some, is.value) refl

-- ---- ranges

place_read : (n : ℕ) → n < 2 ^ 63 → place_of (decimal n) ≡ Some n
place_read n low =
    let is = decimal_is n (omega arith) in
    let some : nat_lt 0 (length (decimal n)) ≡ true = grind (arith, is.some) in
    let below : nat_lt n (2 ^ 63) ≡ true = grind arith in
    rw (is.digits, some, is.value, below) refl

front_is : (ds rest : List ℕ) → list_all is_ascii_digit ds ≡ true → prefix_len (λ b. not (b == 45)) (ds ++ 45 ∷ rest) ≡ length ds
front_is [] rest all = refl
front_is (d ∷ ds) rest all =
    let parts = and_parts (is_ascii_digit d) (list_all is_ascii_digit ds) all in
    let other : (d == 45) ≡ false = grind arith in
    rw other (rw (front_is ds rest parts.1) (omega arith))

hyphen_at : (ds rest : List ℕ) → list_all is_ascii_digit ds ≡ true → position (λ b. b == 45) (ds ++ 45 ∷ rest) ≡ Some (length ds)
hyphen_at ds rest all =
    let within : nat_lt (length ds) (length (ds ++ 45 ∷ rest)) ≡ true = grind (arith, length-append ds (45 ∷ rest)) in
    rw (front_is ds rest all, within) refl

range_is : (first count : ℕ) → 0 < count → first + count ≤ 2 ^ 63
    → range_between (Some first) (Some (first + count - 1)) ≡ Some (record { first = first; count = count })
range_is first count some bounded =
    let rising : nat_le first (first + count - 1) ≡ true = grind arith in
    let whole : first + count - 1 - first + 1 ≡ count = omega arith in
    rw (rising, whole) refl

pub range_read : (range : Range) → IsSomeBytes range → range_in (range_text range) ≡ Some range
range_read range is =
    let first = decimal_is range.first (omega (arith, is.some, is.bounded)) in
    let last = decimal_is (range.first + range.count - 1) (omega (arith, is.some, is.bounded)) in
    let text = decimal range.first ++ 45 ∷ decimal (range.first + range.count - 1) in
    let solid : list_all is_solid text ≡ true =
    list_all-append is_solid (decimal range.first) (45 ∷ decimal (range.first + range.count - 1))
    ∙ rw (solid_digits (decimal range.first) first.digits, solid_digits (decimal (range.first + range.count - 1)) last.digits) refl in
    let low : range.first < 2 ^ 63 = omega (arith, is.some, is.bounded) in
    let low_too : range.first + range.count - 1 < 2 ^ 63 = omega (arith, is.some, is.bounded) in
    ap range_of (solid_stays text solid)
    ∙ ap (range_at text) (hyphen_at (decimal range.first) (decimal (range.first + range.count - 1)) first.digits)
    ∙ rw (
      take-append_seam (decimal range.first) (45 ∷ decimal (range.first + range.count - 1)),
      drop-append-add (decimal range.first) (45 ∷ decimal (range.first + range.count - 1)) 1,
    )
    (rw (place_read range.first low, place_read (range.first + range.count - 1) low_too)
    (range_is range.first range.count is.some is.bounded))
