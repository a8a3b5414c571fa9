-- An instant's parts are read from its text, and from nothing else.
use Rattle.std.proofs.Common.{◌≡◌, ℕ, ◌==◌, ◌^◌, ◌↔◌, Bool, true, false, if◌then◌else◌, List, [], ◌∷◌, ◌++◌, length, Option, None, Some}
use Rattle.std.proofs.Common.{IfSome, inl, inr, Result, Ok, Err, IfOk, eqb-true, arith, ◌<◌, refl, sym, ap, subst, ◌∙◌, append_assoc}
use Rattle.std.proofs.{Common.{append-nil, ℤ}, lemmas.Option.option_and_then_some}
use Rattle.std.specs.{Option.option_map_or, Prelude.{option_map, unwrap_or}}
use Rattle.iso_time.specs.{declared.instant.InstantFault.InstantFault, declared.instant.InstantFault.TheVariants.{Shape, Date, Range}}
use Rattle.iso_time.specs.Digits.{AreDigits, number_of, fraction_nanos, after_mark, before_mark, digits_at, fraction_at, optional_text}
use Rattle.iso_time.specs.{Digits.fraction_text, Instant.{Zone, unstated, utc, shifted, InstantParts, IsField, IsZone, IsInstant}}
use Rattle.iso_time.specs.Instant.{IsInstantText, zone_text, parts_text, colon_or_text, colon_at, shift_of, zone_of, parts_of, fields_of}
use Rattle.iso_time.specs.Instant.{answer_of, instant_of, DenotesInstant, AreShort, IsReadable, instant_nanos}
use Rattle.iso_time.specs.Laws.{InstantsHaveOneSpelling, InstantsAreDenoted}
use Rattle.iso_time.proofs.{DigitLemmas.{by_bool, number_of-lt, fraction_nanos-lt}, CivilLemmas.{cases_exists, cases_readable}}
use Rattle.iso_time.proofs.{CivilLemmas.{answer_of-in_range, answer_of-out_of_range, answer_of-missing}, ReadingLemmas.NoDigit}
use Rattle.iso_time.proofs.ReadingLemmas.{digits_at-run, digits_at-all, digits_at-found, after_mark-mark, after_mark-found}
use Rattle.iso_time.proofs.ReadingLemmas.{after_mark-digits, before_mark-mark, before_mark-found, fraction_at-text, fraction_at-found}
use Rattle.iso_time.proofs.ReadingLemmas.{value_at_end-found, none_some, some_same}

-- `hh:mm` or `hhmm`
abbrev shift_text : Bool → List ℕ → List ℕ → List ℕ
shift_text colon hours minutes = hours ++ ((if colon then 58 ∷ [] else []) ++ minutes)

colon_at-text : (colon : Bool) (minutes : List ℕ) → IsField 2 minutes → colon_at ((if colon then 58 ∷ [] else []) ++ minutes)
    ≡ (colon, minutes)
colon_at-text true minutes h = rw (after_mark-mark 58 minutes) refl
colon_at-text false minutes h = rw (after_mark-digits 58 minutes refl h.ascii) refl

shift_of-text : (behind colon : Bool) (hours minutes : List ℕ) → IsField 2 hours → IsField 2 minutes
    → shift_of behind (shift_text colon hours minutes) ≡ Some (shifted behind colon hours minutes)
unfolding shift_of
shift_of-text behind colon hours minutes h m =
    rw (digits_at-run 2 hours ((if colon then 58 ∷ [] else []) ++ minutes) h, colon_at-text colon minutes m, digits_at-all 2 minutes m) refl

colon_at-found : (text : List ℕ) → text ≡ (if (colon_at text).0 then 58 ∷ [] else []) ++ (colon_at text).1
colon_at-found text = by_mark (after_mark 58 text) refl where
  by_mark : (r : Option (List ℕ)) → after_mark 58 text ≡ r → text ≡ (if (colon_or_text text r).0 then 58 ∷ [] else [])
      ++ (colon_or_text text r).1
  by_mark None e = refl
  by_mark (Some rest) e = after_mark-found 58 text rest e

shift_of-found : (behind : Bool) (text : List ℕ) (z : Zone) → shift_of behind text ≡ Some z
    → ((if behind then 45 else 43) ∷ text ≡ zone_text z) × IsZone z
unfolding shift_of
shift_of-found behind text z h =
    option_and_then_some _ (digits_at 2 text) z h (λ hours first more.
    option_and_then_some _ (digits_at 2 (colon_at hours.1).1) z more (λ minutes second last.
    let h = digits_at-found 2 text hours first in
    let m = digits_at-found 2 (colon_at hours.1).1 minutes second in
    let end = value_at_end-found _ z minutes.1 last in
    let colon = if (colon_at hours.1).0 then 58 ∷ [] else [] in
    let rest : (colon_at hours.1).1 ≡ minutes.0 = m.0 ∙ ap (λ t. minutes.0 ++ t) end.0 ∙ append-nil minutes.0 in
    let whole : text ≡ (hours.0 ++ colon) ++ minutes.0 =
    h.0 ∙ ap (λ t. hours.0 ++ t) (colon_at-found hours.1 ∙ ap (λ t. colon ++ t) rest) ∙ sym (append_assoc hours.0 colon minutes.0) in
    subst (λ z. ((if behind then 45 else 43) ∷ text ≡ zone_text z) × IsZone z) end.1
    (ap (λ t. (if behind then 45 else 43) ∷ t) whole, (h.1, m.1))))

zone_of-text : (z : Zone) → IsZone z → zone_of (zone_text z) ≡ Some z
unfolding zone_of
zone_of-text unstated h = refl
zone_of-text utc h = refl
zone_of-text (shifted true colon hours minutes) h =
    ap (shift_of true) (append_assoc hours _ minutes) ∙ shift_of-text true colon hours minutes h.0 h.1
zone_of-text (shifted false colon hours minutes) h =
    ap (shift_of false) (append_assoc hours _ minutes) ∙ shift_of-text false colon hours minutes h.0 h.1

zone_of-found : (text : List ℕ) (z : Zone) → zone_of text ≡ Some z → (text ≡ zone_text z) × IsZone z
unfolding zone_of
zone_of-found [] z h = subst (λ z. ([] ≡ zone_text z) × IsZone z) (some_same h) (refl, tt)
zone_of-found (c ∷ rest) z h =
    by_bool (c == 90)
    (λ zulu. let end = value_at_end-found utc z rest (rw zulu at h) in
    rw (eqb-true c 90 zulu, end.0) (subst (λ z. (90 ∷ [] ≡ zone_text z) × IsZone z) end.1 (refl, tt)))
    (λ other. by_bool (c == 43)
    (λ plus. rw (eqb-true c 43 plus) (shift_of-found false rest z (rw (other, plus) at h)))
    (λ no_plus. by_bool (c == 45)
    (λ minus. rw (eqb-true c 45 minus) (shift_of-found true rest z (rw (other, no_plus, minus) at h)))
    (λ no_minus. absurd (none_some (rw (other, no_plus, no_minus) at h)))))

-- a zone ends the digits of a second and of a fraction
no_digit-zone : (z : Zone) → NoDigit (zone_text z)
no_digit-zone unstated = refl
no_digit-zone utc = refl
no_digit-zone (shifted true colon hours minutes) = refl
no_digit-zone (shifted false colon hours minutes) = refl

no_point-zone : (z : Zone) → after_mark 46 (zone_text z) ≡ None
unfolding after_mark
no_point-zone unstated = refl
no_point-zone utc = refl
no_point-zone (shifted true colon hours minutes) = refl
no_point-zone (shifted false colon hours minutes) = refl

regrouped : (a b c d e f g h : List ℕ) → ((((((a ++ b) ++ c) ++ d) ++ e) ++ f) ++ g) ++ h ≡ a ++ (b ++ (c ++ (d ++ (e ++ (f ++ (g ++ h))))))
regrouped a b c d e f g h = simp append_assoc

pub parts_of-text : (p : InstantParts) → IsInstant p → parts_of (parts_text p) ≡ Some p
unfolding parts_of
parts_of-text p h =
    let zone = zone_text p.zone in
    let second = p.second ++ (optional_text fraction_text p.fraction ++ zone) in
    let minute = p.minute ++ 58 ∷ second in
    let hour = p.hour ++ 58 ∷ minute in
    let day = p.day ++ 84 ∷ hour in
    let month = p.month ++ 45 ∷ day in
    rw (
      regrouped,
      before_mark-mark 45 _ p.year month (digits_at-run 4 p.year (45 ∷ month) h.year),
      before_mark-mark 45 _ p.month day (digits_at-run 2 p.month (45 ∷ day) h.month),
      before_mark-mark 84 _ p.day hour (digits_at-run 2 p.day (84 ∷ hour) h.day),
      before_mark-mark 58 _ p.hour minute (digits_at-run 2 p.hour (58 ∷ minute) h.hour),
      before_mark-mark 58 _ p.minute second (digits_at-run 2 p.minute (58 ∷ second) h.minute),
      digits_at-run 2 p.second (optional_text fraction_text p.fraction ++ zone) h.second,
      fraction_at-text p.fraction zone h.fraction (no_digit-zone p.zone) (no_point-zone p.zone),
      zone_of-text p.zone h.zone,
    ) refl

field-found : (mark width : ℕ) (text : List ℕ) (run : List ℕ × List ℕ) → before_mark mark (digits_at width text) ≡ Some run
    → (text ≡ run.0 ++ mark ∷ run.1) × IsField width run.0
field-found mark width text run h = digits_at-found width text (run.0, mark ∷ run.1) (before_mark-found mark _ run h)

pub parts_of-found : (text : List ℕ) (p : InstantParts) → parts_of text ≡ Some p → IsInstantText text p
unfolding parts_of
parts_of-found text p h =
    option_and_then_some _ (before_mark 45 (digits_at 4 text)) p h (λ year at_year h.
    option_and_then_some _ (before_mark 45 (digits_at 2 year.1)) p h (λ month at_month h.
    option_and_then_some _ (before_mark 84 (digits_at 2 month.1)) p h (λ day at_day h.
    option_and_then_some _ (before_mark 58 (digits_at 2 day.1)) p h (λ hour at_hour h.
    option_and_then_some _ (before_mark 58 (digits_at 2 hour.1)) p h (λ minute at_minute h.
    option_and_then_some _ (digits_at 2 minute.1) p h (λ second at_second h.
    option_and_then_some _ (zone_of (fraction_at second.1).1) p h (λ zone at_zone last.
    let y = field-found 45 4 text year at_year in
    let mo = field-found 45 2 year.1 month at_month in
    let d = field-found 84 2 month.1 day at_day in
    let h = field-found 58 2 day.1 hour at_hour in
    let mi = field-found 58 2 hour.1 minute at_minute in
    let s = digits_at-found 2 minute.1 second at_second in
    let f = fraction_at-found second.1 in
    let z = zone_of-found (fraction_at second.1).1 zone at_zone in
    let front = optional_text fraction_text (fraction_at second.1).0 in
    let after_second = s.0 ∙ ap (λ t. second.0 ++ t) (f.0 ∙ ap (λ t. front ++ t) z.0) in
    let after_hour = h.0 ∙ ap (λ t. hour.0 ++ 58 ∷ t) (mi.0 ∙ ap (λ t. minute.0 ++ 58 ∷ t) after_second) in
    let after_month = mo.0 ∙ ap (λ t. month.0 ++ 45 ∷ t) (d.0 ∙ ap (λ t. day.0 ++ 84 ∷ t) after_hour) in
    subst (λ p. IsInstantText text p) (some_same last) (record {
      parts = record { year = y.1; month = mo.1; day = d.1; hour = h.1; minute = mi.1; second = s.1; fraction = f.1; zone = z.1 };
      spelled = y.0 ∙ ap (λ t. year.0 ++ 45 ∷ t) after_month
          ∙ sym (regrouped year.0 (45 ∷ month.0) (45 ∷ day.0) (84 ∷ hour.0) (58 ∷ minute.0) (58 ∷ second.0) front (zone_text zone));
    }))))))))

pub parts_of-spelled : (text : List ℕ) (p : InstantParts) → IsInstantText text p → parts_of text ≡ Some p
parts_of-spelled text p h = ap parts_of h.spelled ∙ parts_of-text p h.parts

pub one_spelling : InstantsHaveOneSpelling
one_spelling text p q h k = some_same (sym (parts_of-spelled text p h) ∙ parts_of-spelled text q k)

number_below : (width : ℕ) (ds : List ℕ) → IsField width ds → number_of ds < 10 ^ width
number_below width ds h =
    let size : length ds ≡ width = omega (arith, h.enough, h.few) in
    rw size at (number_of-lt ds h.ascii)

fraction_below : (fraction : Option (List ℕ)) → IfSome fraction (AreDigits 1 30) → unwrap_or (option_map fraction_nanos fraction) 0 < 10 ^ 9
fraction_below None h = omega arith
fraction_below (Some ds) h = fraction_nanos-lt ds h.ascii

short : (p : InstantParts) → IsInstant p → AreShort (fields_of p)
short p h = record {
  year = number_below 4 p.year h.year;
  month = number_below 2 p.month h.month;
  day = number_below 2 p.day h.day;
  hour = number_below 2 p.hour h.hour;
  minute = number_below 2 p.minute h.minute;
  second = number_below 2 p.second h.second;
  nanos = fraction_below p.fraction h.fraction;
}

-- what the parts denote
answer_of-denotes : (text : List ℕ) (p : InstantParts) → IsInstantText text p → DenotesInstant text (answer_of (fields_of p))
answer_of-denotes text p h =
    let f = fields_of p in
    let Denotes : Result ℤ InstantFault → Type 0 = DenotesInstant text in
    elim (cases_exists f (short p h.parts)) [
      | inl exists ↦ elim (cases_readable (instant_nanos f)) [
        | inl within ↦ subst Denotes (sym (answer_of-in_range f exists within)) (p, h, exists, refl, within)
        | inr beyond ↦ subst Denotes (sym (answer_of-out_of_range f exists beyond)) (p, h, exists, beyond)
      ]
      | inr missing ↦ subst Denotes (sym (answer_of-missing f (short p h.parts) missing)) (p, h, missing)
    ]

instant_of-denotes : (text : List ℕ) → DenotesInstant text (instant_of text)
unfolding instant_of
instant_of-denotes text = by_parts (parts_of text) refl where
  by_parts : (r : Option InstantParts) → parts_of text ≡ r
      → DenotesInstant text (option_map_or (λ p. answer_of (fields_of p)) r (Err Shape))
  by_parts None e = λ p h. none_some (sym e ∙ parts_of-spelled text p h)
  by_parts (Some p) e = answer_of-denotes text p (parts_of-found text p e)

pub instant_of-spelled : (text : List ℕ) (p : InstantParts) → IsInstantText text p → instant_of text ≡ answer_of (fields_of p)
unfolding instant_of
instant_of-spelled text p h = rw (parts_of-spelled text p h) refl

-- one text denotes one thing
instant_of-is : (text : List ℕ) (answer : Result ℤ InstantFault) → DenotesInstant text answer → instant_of text ≡ answer
unfolding instant_of
instant_of-is text (Ok nanos) h =
    instant_of-spelled text h.0 h.1 ∙ answer_of-in_range (fields_of h.0) h.2 (subst IsReadable (sym h.3) h.4) ∙ ap Ok h.3
instant_of-is text (Err Shape) h = by_parts (parts_of text) refl where
  by_parts : (r : Option InstantParts) → parts_of text ≡ r → option_map_or (λ p. answer_of (fields_of p)) r (Err Shape) ≡ Err Shape
  by_parts None e = refl
  by_parts (Some p) e = absurd (h p (parts_of-found text p e))
instant_of-is text (Err Date) h =
    instant_of-spelled text h.0 h.1 ∙ answer_of-missing (fields_of h.0) (short h.0 h.1.parts) h.2
instant_of-is text (Err Range) h =
    instant_of-spelled text h.0 h.1 ∙ answer_of-out_of_range (fields_of h.0) h.2 h.3

pub denoted : InstantsAreDenoted
denoted text answer =
    (λ e. subst (DenotesInstant text) e (instant_of-denotes text), instant_of-is text answer)

-- so what equals it does too
pub exactly : (text : List ℕ) (result : Result ℤ InstantFault) → result ≡ instant_of text → (answer : Result ℤ InstantFault)
    → (result ≡ answer) ↔ DenotesInstant text answer
exactly text result e answer = rw e (denoted text answer)

pub readable : (text : List ℕ) (result : Result ℤ InstantFault) → result ≡ instant_of text → IfOk result IsReadable
readable text (Ok nanos) e = ((exactly text (Ok nanos) e (Ok nanos)).0 refl).4
readable text (Err fault) e = tt
