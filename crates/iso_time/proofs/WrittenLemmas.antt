-- What is written is read again.
use Rattle.std.proofs.Common.{◌≡◌, ℕ, suc, ◌+◌, ◌-◌, ◌*◌, ◌/◌, ◌%◌, ◌^◌, ◌<◌, ◌≤◌, ◌==◌, ◌&&◌, true, false, IsTrue, if◌then◌else◌, List, []}
use Rattle.std.proofs.Common.{◌∷◌, length, take, Option, None, Some, IfSome, Ok, eqb-true, refl, sym, ap, subst, ◌∙◌, arith, ℤ, pos, ◌+ℤ◌}
use Rattle.std.proofs.{Common.{◌*ℤ◌, unsigned_abs}, Math.Nat.{pow-suc, mod-eq_of_lt}, lemmas.Bool.{and_parts, and_from, false≢true}}
use Rattle.std.proofs.{lemmas.Str.Parse.{IsNumeralModel, numerals_by_value, tells_all_ascii_digits}, lemmas.Fmt.digits_decimal}
use Rattle.std.proofs.{lemmas.Fmt.{digits_value-decimal, length-decimal-le, decimal_nonempty}, lemmas.List.take_all}
use Rattle.std.specs.{Int.{int_div_euclid, int_rem_euclid}, Prelude.{option_map, unwrap_or}, Fmt.decimal, Char.digit_value}
use Rattle.std.specs.{Char.is_ascii_digit, Str.all_ascii_digits, Str.Parse.digits_value_after}
use Rattle.iso_time.specs.Digits.{AreDigits, number_of, fraction_nanos, padded_digits, optional_text, fraction_text}
use Rattle.iso_time.specs.{Duration.{DurationParts, is_empty, without_zeros, nanos_text, duration_text}, Civil.{moment_text, instant_text}}
use Rattle.iso_time.specs.{Civil.{day_nanos, year_of, month_of, day_of}, declared.instant.Fields.Fields, Instant.{InstantParts, utc}}
use Rattle.iso_time.specs.Instant.{IsInstantText, fields_of, AreShort, Exists, answer_of, instant_of, instant_nanos, IsReadable}
use Rattle.iso_time.specs.Laws.{DurationsAreReadAgain, InstantsAreReadAgain, IsDateOfDay, floor_millis}
use Rattle.iso_time.proofs.{DigitLemmas.by_bool, CalendarLemmas.{civil_date, day_split, readable_day}, CivilLemmas.answer_of-in_range}
use Rattle.iso_time.proofs.{InstantLemmas.instant_of-spelled, PaddedLemmas.{number_of-padded_digits, AreDigits-padded_digits}}
use Rattle.iso_time.proofs.{PlaceLemmas.is_empty-without_zeros, DurationLemmas.duration_of-is}
use Rattle.jiff_core.proofs.{SignedLemmas.signed_arith, CalendarLemmas.days_in_month_bounds}
use Rattle.jiff_core.specs.{Calendar.days_from_civil, Time.IsTime}

-- ---- the digits without zeros at their end

-- they are digits, no more of them, and the same number for the places that they take
record Trimmed (ds trimmed : List ℕ) : Type 0 where
  ascii : IsTrue (all_ascii_digits trimmed)
  few : length trimmed ≤ length ds
  value : (k : ℕ) → digits_value_after 10 k ds ≡ digits_value_after 10 k trimmed * 10 ^ (length ds - length trimmed)

Trimmed-keep : (d : ℕ) (ds trimmed : List ℕ) → is_ascii_digit d ≡ true → Trimmed ds trimmed → Trimmed (d ∷ ds) (d ∷ trimmed)
Trimmed-keep d ds trimmed digit t =
    let places : suc (length ds) - suc (length trimmed) ≡ length ds - length trimmed = omega arith in
    record { ascii = and_from _ _ digit t.ascii; few = omega (arith, t.few); value = λ k. rw places (t.value (k * 10 + digit_value d)) }

Trimmed-zero : (ds : List ℕ) → Trimmed ds [] → Trimmed (48 ∷ ds) []
Trimmed-zero ds t = record { ascii = refl; few = omega arith; value = λ k. t.value (k * 10 + 0) ∙ tenfold k (length ds) } where
  tenfold : (k len : ℕ) → (k * 10 + 0) * 10 ^ (len - 0) ≡ k * 10 ^ (suc len - 0)
  tenfold k len =
      let places : suc len - 0 ≡ suc len = omega arith in
      let others : len - 0 ≡ len = omega arith in
      let next : 10 ^ suc len ≡ 10 * 10 ^ len = omega (arith, pow-suc 10 len) in
      rw (places, others, next) (omega arith)

Trimmed-cons : (d : ℕ) (ds trimmed : List ℕ) → is_ascii_digit d ≡ true → Trimmed ds trimmed
    → Trimmed (d ∷ ds) (if (d == 48) && is_empty trimmed then [] else (d ∷ trimmed))
Trimmed-cons d ds [] digit t =
    by_bool (d == 48) (λ zero_is. rw (zero_is, eqb-true d 48 zero_is) (Trimmed-zero ds t))
    (λ other. rw other (Trimmed-keep d ds [] digit t))
Trimmed-cons d ds (e ∷ es) digit t =
    by_bool (d == 48) (λ zero_is. rw zero_is (Trimmed-keep d ds (e ∷ es) digit t)) (λ other. rw other (Trimmed-keep d ds (e ∷ es) digit t))

Trimmed-without_zeros : (ds : List ℕ) → IsTrue (all_ascii_digits ds) → Trimmed ds (without_zeros ds)
unfolding without_zeros
Trimmed-without_zeros [] h = record { ascii = refl; few = omega arith; value = λ k. omega arith }
Trimmed-without_zeros (d ∷ ds) h =
    let parts = and_parts (is_ascii_digit d) (all_ascii_digits ds) h in
    Trimmed-cons d ds (without_zeros ds) parts.0 (Trimmed-without_zeros ds parts.1)

-- ---- durations

-- the fraction of a written duration
abbrev fraction_of : ℕ → Option (List ℕ)
fraction_of nanos = if nanos == 0 then None else Some (without_zeros (padded_digits 9 nanos))

nanos_text-fraction : (nanos : ℕ) → nanos_text nanos ≡ optional_text fraction_text (fraction_of nanos)
nanos_text-fraction nanos = by_bool (nanos == 0) (λ none. rw none refl) (λ some. rw some refl)

not_empty : (ds : List ℕ) → is_empty ds ≡ false → 1 ≤ length ds
not_empty [] h = absurd (false≢true (sym h))
not_empty (d ∷ ds) h = omega arith

-- the fraction is one, and has these nanoseconds
fraction_of-is : (nanos : ℕ) → nanos < 10 ^ 9 → IfSome (fraction_of nanos) (AreDigits 1 30)
    × (unwrap_or (option_map fraction_nanos (fraction_of nanos)) 0 ≡ nanos)
fraction_of-is nanos h = by_bool (nanos == 0) (λ none. rw none (tt, sym (eqb-true nanos 0 none))) (λ some. rw some (run some, value)) where
  ds : List ℕ
  ds = without_zeros (padded_digits 9 nanos)

  trimmed : Trimmed (padded_digits 9 nanos) ds
  trimmed = Trimmed-without_zeros (padded_digits 9 nanos) (AreDigits-padded_digits 9 nanos).ascii

  run : (nanos == 0) ≡ false → AreDigits 1 30 ds
  run some =
      let same : nanos % 10 ^ 9 ≡ nanos = mod-eq_of_lt h in
      let more = not_empty ds (rw same at (is_empty-without_zeros 9 nanos) ∙ some) in
      record { ascii = trimmed.ascii; enough = more; few = omega (arith, trimmed.few, (AreDigits-padded_digits 9 nanos).few) }

  value : fraction_nanos ds ≡ nanos
  value =
      let size : length (padded_digits 9 nanos) ≡ 9 = omega (
        arith,
        (AreDigits-padded_digits 9 nanos).few,
        (AreDigits-padded_digits 9 nanos).enough,
      ) in
      let whole : number_of (padded_digits 9 nanos) ≡ number_of ds * 10 ^ (9 - length ds) = rw size at (trimmed.value 0) in
      let all : take 9 ds ≡ ds = take_all 9 ds (omega (arith, trimmed.few)) in
      rw all (sym whole ∙ number_of-padded_digits 9 nanos h)

parts_for : ℕ → DurationParts
parts_for nanos = record {
  years = None;
  months = None;
  days = None;
  clock = Some (record {
    hours = None;
    minutes = None;
    seconds = Some (record { whole = decimal (nanos / 10 ^ 9); fraction = fraction_of (nanos % 10 ^ 9) });
  });
}

own_digits : IsNumeralModel (λ ds. all_ascii_digits ds ≡ true) number_of
own_digits = numerals_by_value (λ ds. all_ascii_digits ds ≡ true) tells_all_ascii_digits

decimal-run : (n : ℕ) → n < 10 ^ 10 → AreDigits 1 20 (decimal n)
decimal-run n h =
    record {
      ascii = digits_decimal own_digits n (omega arith);
      enough = decimal_nonempty n (omega arith);
      few = length-decimal-le 20 n (omega arith) (omega arith) (omega arith);
    }

pub durations_again : DurationsAreReadAgain
unfolding duration_text parts_for
durations_again nanos h =
    let seconds = nanos / 10 ^ 9 in
    let fraction = fraction_of-is (nanos % 10 ^ 9) (omega arith) in
    let whole : number_of (decimal seconds) ≡ seconds = digits_value-decimal own_digits seconds (omega arith) in
    duration_of-is (duration_text nanos) (Ok nanos) (
      parts_for nanos,
      record {
        parts = record {
          years = tt;
          months = tt;
          days = tt;
          clock = record {
            hours = tt;
            minutes = tt;
            seconds = record { whole = decimal-run seconds (omega arith); fraction = fraction.0 };
            some = refl;
          };
          some = refl;
        };
        spelled = rw (nanos_text-fraction (nanos % 10 ^ 9)) refl;
      },
      refl,
      rw (whole, fraction.1) (omega arith),
      h,
    )

-- ---- instants

-- the digits of a written instant
moment_parts : (year month day hour minute second millis : ℕ) → InstantParts
moment_parts year month day hour minute second millis = record {
  year = padded_digits 4 year;
  month = padded_digits 2 month;
  day = padded_digits 2 day;
  hour = padded_digits 2 hour;
  minute = padded_digits 2 minute;
  second = padded_digits 2 second;
  fraction = Some (padded_digits 3 millis);
  zone = utc;
}

-- and its numbers
moment_fields : (year month day hour minute second millis : ℕ) → Fields
moment_fields year month day hour minute second millis = record {
  year = year;
  month = month;
  day = day;
  hour = hour;
  minute = minute;
  second = second;
  nanos = millis * 10 ^ 6;
  offset = record { behind = false; hours = 0; minutes = 0 };
}

moment_text-spelled : (year month day hour minute second millis : ℕ)
    → IsInstantText (moment_text year month day hour minute second millis) (moment_parts year month day hour minute second millis)
unfolding moment_text moment_parts
moment_text-spelled year month day hour minute second millis = record {
  parts = record {
    year = AreDigits-padded_digits 4 year;
    month = AreDigits-padded_digits 2 month;
    day = AreDigits-padded_digits 2 day;
    hour = AreDigits-padded_digits 2 hour;
    minute = AreDigits-padded_digits 2 minute;
    second = AreDigits-padded_digits 2 second;
    fraction = record {
      ascii = (AreDigits-padded_digits 3 millis).ascii;
      enough = omega (arith, (AreDigits-padded_digits 3 millis).enough);
      few = omega (arith, (AreDigits-padded_digits 3 millis).few);
    };
    zone = tt;
  };
  spelled = refl;
}

millis-padded_digits : (millis : ℕ) → millis < 1000 → fraction_nanos (padded_digits 3 millis) ≡ millis * 10 ^ 6
millis-padded_digits millis h =
    let run = AreDigits-padded_digits 3 millis in
    let size : length (padded_digits 3 millis) ≡ 3 = omega (arith, run.enough, run.few) in
    rw (take_all 9 (padded_digits 3 millis) (omega (arith, run.few)), size, number_of-padded_digits 3 millis h) refl

moment_fields-parts : (year month day hour minute second millis : ℕ) → AreShort (moment_fields year month day hour minute second millis)
    → millis < 1000
    → fields_of (moment_parts year month day hour minute second millis) ≡ moment_fields year month day hour minute second millis
unfolding moment_parts moment_fields
moment_fields-parts year month day hour minute second millis h small =
    rw (
      number_of-padded_digits 4 year h.year,
      number_of-padded_digits 2 month h.month,
      number_of-padded_digits 2 day h.day,
      number_of-padded_digits 2 hour h.hour,
      number_of-padded_digits 2 minute h.minute,
      number_of-padded_digits 2 second h.second,
      millis-padded_digits millis small,
    ) refl

moment_again : (year month day hour minute second millis : ℕ) → Exists (moment_fields year month day hour minute second millis) → day < 100
    → millis < 1000
    → (nanos : ℤ) → instant_nanos (moment_fields year month day hour minute second millis) ≡ nanos → IsReadable nanos
    → instant_of (moment_text year month day hour minute second millis) ≡ Ok nanos
unfolding moment_fields
moment_again year month day hour minute second millis exists day_is small nanos is readable =
    let f = moment_fields year month day hour minute second millis in
    let short : AreShort f = record {
      year = omega (arith, signed_arith, exists.0.0);
      month = omega (arith, signed_arith, exists.0.0);
      day = day_is;
      hour = omega (arith, signed_arith, exists.0.1);
      minute = omega (arith, signed_arith, exists.0.1);
      second = omega (arith, signed_arith, exists.0.1);
      nanos = omega arith;
    } in
    instant_of-spelled _ _ (moment_text-spelled year month day hour minute second millis)
    ∙ ap answer_of (moment_fields-parts year month day hour minute second millis short small)
    ∙ answer_of-in_range f exists (subst IsReadable (sym is) readable) ∙ ap Ok is

-- the clock of a day, down to milliseconds
clock_exists : (rest : ℕ) → rest < 86_400_000_000_000
    → IsTime (pos (rest / 3_600_000_000_000)) (pos (rest / 60_000_000_000 % 60)) (pos (rest / 1_000_000_000 % 60))
    (pos (rest / 1_000_000 % 1_000 * 10 ^ 6))
clock_exists rest h = omega (arith, signed_arith)

clock_millis : (rest : ℕ) → (rest / 3_600_000_000_000 * 3600 + rest / 60_000_000_000 % 60 * 60 + rest / 1_000_000_000 % 60) * 10 ^ 9
    + rest / 1_000_000 % 1_000 * 10 ^ 6 ≡ rest / 1_000_000 * 1_000_000
clock_millis rest = omega arith

moment_value : (year month date : ℕ) (day nanos : ℤ) (rest : ℕ) → days_from_civil (pos year) month date ≡ day
    → nanos ≡ day *ℤ day_nanos +ℤ pos rest
    → instant_nanos (moment_fields year month date (rest / 3_600_000_000_000) (rest / 60_000_000_000 % 60) (rest / 1_000_000_000 % 60)
    (rest / 1_000_000 % 1_000)) ≡ floor_millis nanos
unfolding moment_fields
moment_value year month date day nanos rest e split = rw (e, clock_millis) (omega (arith, signed_arith, split))

floor_readable : (nanos : ℤ) → IsReadable nanos → IsReadable (floor_millis nanos)
floor_readable nanos h = omega (arith, signed_arith, h)

pub instants_again : InstantsAreReadAgain
unfolding instant_text moment_fields
instants_again nanos h =
    let day = int_div_euclid nanos day_nanos in
    let rest = unsigned_abs (int_rem_euclid nanos day_nanos) in
    let y = year_of day in
    let m = month_of y day in
    let d = day_of y m day in
    let split = day_split nanos in
    let date : IsDateOfDay y m d day = civil_date day (readable_day nanos h) in
    let short : d < 100 = omega (arith, signed_arith, date.0.2, days_in_month_bounds (pos y) m) in
    moment_again y m d (rest / 3_600_000_000_000) (rest / 60_000_000_000 % 60) (rest / 1_000_000_000 % 60) (rest / 1_000_000 % 1_000)
    ((date.0, clock_exists rest split.1), (omega arith, omega arith)) short (omega arith)
    (floor_millis nanos) (moment_value y m d day nanos rest date.1 split.0) (floor_readable nanos h)
