-- Numbers written in a fixed number of digits, and fractions.
use Rattle.std.proofs.Common.{◌≡◌, ℕ, zero, suc, ◌+◌, ◌-◌, ◌*◌, ◌/◌, ◌%◌, ◌^◌, ◌<◌, ◌≤◌, true, List, [], ◌∷◌, ◌++◌, length, take, drop}
use Rattle.std.proofs.{Common.{refl, sym, ap, ◌∙◌, inl, inr, arith, length-drop}, Math.Nat.{pow-suc, mod-one, mod-eq_of_lt, mul-div_left}}
use Rattle.std.proofs.{lemmas.Nat.{pow-add, div-mul-add}, lemmas.Bool.{and_from, le-leb, cases_lt}, lemmas.List.take_all}
use Rattle.std.proofs.{lemmas.List.take-append-drop, lemmas.Str.{digit_value_digit, IsAscii-append}, lemmas.Str.Ascii.IsAscii-cons}
use Rattle.std.proofs.lemmas.Str.Ascii.{IsAscii-nil}
use Rattle.std.specs.{Char.{digit_value, is_ascii_digit}, Str.IsAscii, Str.Parse.digits_value_after}
use Rattle.exact_time.proofs.Decimals.{ten_pow-pos}
use Rattle.iso_time.specs.{Digits.{AreDigits, number_of, fraction_nanos, padded_digits}, Civil.moment_text, Laws.FractionsAreRoundedDown}
use Rattle.iso_time.proofs.{DigitLemmas.{number_of-lt, ascii_drop}, PlaceLemmas.mod-places}

places_digit : (d : ℕ) → d < 10 → digit_value (48 + d) ≡ d
places_digit d h = omega (arith, digit_value_digit (48 + d))

number_after-padded_digits : (w n k : ℕ) → digits_value_after 10 k (padded_digits w n) ≡ k * 10 ^ w + n % 10 ^ w
unfolding padded_digits
number_after-padded_digits zero n k = rw (mod-one n) (omega arith)
number_after-padded_digits (suc w) n k =
    let d = n / 10 ^ w % 10 in
    let next : 10 ^ suc w ≡ 10 * 10 ^ w = omega (arith, pow-suc 10 w) in
    let whole : (k * 10 + d) * 10 ^ w + n % 10 ^ w ≡ k * 10 ^ suc w + n % 10 ^ suc w = rw (mod-places w n, next) (omega arith) in
    ap (λ v. digits_value_after 10 (k * 10 + v) (padded_digits w n)) (places_digit d (omega arith))
    ∙ number_after-padded_digits w n (k * 10 + d) ∙ whole

pub number_of-padded_digits : (w n : ℕ) → n < 10 ^ w → number_of (padded_digits w n) ≡ n
number_of-padded_digits w n h = omega (arith, number_after-padded_digits w n 0, mod-eq_of_lt h)

is_digit : (d : ℕ) → d < 10 → is_ascii_digit (48 + d) ≡ true
is_digit d h = and_from _ _ (le-leb 48 (48 + d) (omega arith)) (le-leb (48 + d) 57 (omega arith))

pub AreDigits-padded_digits : (w n : ℕ) → AreDigits w w (padded_digits w n)
unfolding padded_digits
AreDigits-padded_digits zero n = record { ascii = refl; enough = omega arith; few = omega arith }
AreDigits-padded_digits (suc w) n =
    let rest = AreDigits-padded_digits w n in
    record {
      ascii = and_from _ _ (is_digit (n / 10 ^ w % 10) (omega arith)) rest.ascii;
      enough = omega (arith, rest.enough);
      few = omega (arith, rest.few);
    }

-- a moment's text is ASCII
padded_ascii : (w n : ℕ) → IsAscii (padded_digits w n)
unfolding padded_digits
padded_ascii zero n = IsAscii-nil
padded_ascii (suc w) n = IsAscii-cons (48 + n / 10 ^ w % 10) (padded_digits w n) (omega arith) (padded_ascii w n)

marked_ascii : (mark w n : ℕ) (front : List ℕ) → mark < 128 → IsAscii front → IsAscii (front ++ mark ∷ padded_digits w n)
marked_ascii mark w n front h f = IsAscii-append front (mark ∷ padded_digits w n) f
    (IsAscii-cons mark (padded_digits w n) h (padded_ascii w n))

pub moment_text-ascii : (year month day hour minute second millis : ℕ) → IsAscii (moment_text year month day hour minute second millis)
unfolding moment_text
moment_text-ascii year month day hour minute second millis =
    let date = marked_ascii 45 2 day _ (omega arith) (marked_ascii 45 2 month _ (omega arith) (padded_ascii 4 year)) in
    let clock = marked_ascii 58 2 second _ (omega arith) (marked_ascii 58 2 minute _ (omega arith)
    (marked_ascii 84 2 hour _ (omega arith) date)) in
    IsAscii-append _ (90 ∷ []) (marked_ascii 46 3 millis _ (omega arith) clock) (IsAscii-cons 90 [] (omega arith) IsAscii-nil)

-- ---- fractions

value_after-append : (k : ℕ) (xs ys : List ℕ) → digits_value_after 10 k (xs ++ ys) ≡ digits_value_after 10 (digits_value_after 10 k xs) ys
value_after-append k [] ys = refl
value_after-append k (x ∷ xs) ys = value_after-append (k * 10 + digit_value x) xs ys

value_after-split : (k : ℕ) (ds : List ℕ) → digits_value_after 10 k ds ≡ k * 10 ^ length ds + number_of ds
value_after-split k [] = omega arith
value_after-split k (d ∷ ds) =
    let v = digit_value d in
    let next : 10 ^ suc (length ds) ≡ 10 * 10 ^ length ds = omega (arith, pow-suc 10 (length ds)) in
    let whole : (k * 10 + v) * 10 ^ length ds + number_of ds ≡ k * 10 ^ suc (length ds) + ((0 + v) * 10 ^ length ds + number_of ds) =
    rw next (omega arith) in
    value_after-split (k * 10 + v) ds ∙ whole ∙ ap (λ n. k * 10 ^ suc (length ds) + n) (sym (value_after-split (0 + v) ds))

pub fraction_floor : FractionsAreRoundedDown
fraction_floor digits h = elim (cases_lt 9 (length digits)) [ inl long ↦ of_long long | inr short ↦ of_short short ] where
  of_short : length digits ≤ 9 → fraction_nanos digits ≡ number_of digits * 10 ^ 9 / 10 ^ length digits
  of_short short =
      let k = 9 - length digits in
      let total : k + length digits ≡ 9 = omega arith in
      let tens : 10 ^ 9 ≡ 10 ^ k * 10 ^ length digits = ap (λ n. 10 ^ n) (sym total) ∙ pow-add 10 k (length digits) in
      let value : number_of digits * 10 ^ 9 ≡ number_of digits * 10 ^ k * 10 ^ length digits = rw tens (omega arith) in
      rw (take_all 9 digits short, value) (sym (mul-div_left (number_of digits * 10 ^ k) (ten_pow-pos (length digits))))

  of_long : 9 < length digits → fraction_nanos digits ≡ number_of digits * 10 ^ 9 / 10 ^ length digits
  of_long long =
      let kept = take 9 digits in
      let dropped = drop 9 digits in
      let k = length dropped in
      let size : length digits ≡ 9 + k = omega (arith, length-drop 9 digits) in
      let none : 9 - length digits ≡ 0 = omega arith in
      let tens : 10 ^ length digits ≡ 10 ^ 9 * 10 ^ k = ap (λ n. 10 ^ n) size ∙ pow-add 10 9 k in
      let number : number_of digits ≡ number_of kept * 10 ^ k + number_of dropped =
      ap number_of (sym (take-append-drop 9 digits)) ∙ value_after-append 0 kept dropped ∙ value_after-split (number_of kept) dropped in
      let small : number_of dropped * 10 ^ 9 < 10 ^ 9 * 10 ^ k = omega (arith, number_of-lt dropped (ascii_drop 9 digits h.ascii)) in
      let value : number_of digits * 10 ^ 9 ≡ number_of kept * (10 ^ 9 * 10 ^ k) + number_of dropped * 10 ^ 9 = rw number (omega arith) in
      rw (none, value, tens, div-mul-add _ _ _ small) (omega arith)
