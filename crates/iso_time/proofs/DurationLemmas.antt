-- A duration's parts are read from its text, and from nothing else.
use Rattle.std.proofs.Common.{◌≡◌, ℕ, ◌==◌, ◌&&◌, ◌^◌, nat_le, nat_lt, ◌↔◌, false, List, [], ◌∷◌, ◌++◌, drop, Option, None, Some, IfSome}
use Rattle.std.proofs.Common.{Result, Ok, Err, eq-eqb, eqb-true, ne_eqb, arith, ◌<◌, refl, sym, ap, subst, ◌∙◌, append_assoc}
use Rattle.std.proofs.{lemmas.List.drop_at, lemmas.Option.option_and_then_some, lemmas.Bool.{ltb-true, ltb-false, lt-ltb, le-ltb}}
use Rattle.std.proofs.lemmas.Bool.{false≢true}
use Rattle.std.specs.{Option.option_map_or, List.prefix_len, Char.is_ascii_digit}
use Rattle.iso_time.specs.Digits.{leading_digits, after_mark, before_mark, fraction_at, optional_text, fraction_text, optional_rest}
use Rattle.iso_time.specs.Duration.{SecondsParts, ClockParts, DurationParts, IsNumber, IsSeconds, IsClock, IsDuration, IsDurationText}
use Rattle.iso_time.specs.Duration.{part_text, seconds_text, clock_text, parts_text, has_clock, has_part, part_at, seconds_of, clock_of}
use Rattle.iso_time.specs.Duration.{parts_of, months_of, nanos_of, answer_of, duration_of, DenotesDuration}
use Rattle.iso_time.specs.{declared.duration.DurationFault.DurationFault, declared.duration.DurationFault.TheVariants.{Shape, Calendar}}
use Rattle.iso_time.specs.{declared.duration.DurationFault.TheVariants.Range, Laws.{DurationsHaveOneSpelling, DurationsAreDenoted}}
use Rattle.iso_time.proofs.{DigitLemmas.by_bool, ReadingLemmas.{NoDigit, prefix_len-run, leading_digits-run, leading_digits-found}}
use Rattle.iso_time.proofs.ReadingLemmas.{after_mark-mark, after_mark-found, before_mark-mark, before_mark-found, found_or_text-cases}
use Rattle.iso_time.proofs.ReadingLemmas.{fraction_at-text, fraction_at-found, value_at_end-found, value_if-found, optional_rest-text}
use Rattle.iso_time.proofs.ReadingLemmas.{optional_rest-found, none_some, some_same}

-- the byte behind the digits at the front isn't this letter
abbrev NotNext : ℕ → List ℕ → Type 0
NotNext letter text = after_mark letter (drop (prefix_len is_ascii_digit text) text) ≡ None

part_at-found : (letter : ℕ) (text : List ℕ) → (text ≡ optional_text (part_text letter) (part_at letter text).0 ++ (part_at letter text).1)
    × IfSome (part_at letter text).0 IsNumber
unfolding part_at
part_at-found letter text =
    found_or_text-cases (λ r. (text ≡ optional_text (part_text letter) r.0 ++ r.1) × IfSome r.0 IsNumber)
    (before_mark letter (leading_digits 1 20 text)) text
    (λ none. (refl, tt))
    (λ run is. let found = leading_digits-found 1 20 text (run.0, letter ∷ run.1) (before_mark-found letter _ run is) in
    (found.0 ∙ sym (append_assoc run.0 (letter ∷ []) run.1), found.1))

part_at-none : (letter : ℕ) (text : List ℕ) → NotNext letter text → part_at letter text ≡ (None, text)
unfolding part_at leading_digits
part_at-none letter text h =
    let len = prefix_len is_ascii_digit text in
    by_bool (nat_le 1 len && nat_le len 20) (λ t. rw (t, h) refl) (λ f. rw f refl)

part_at-text : (letter : ℕ) (digits : Option (List ℕ)) (rest : List ℕ) → is_ascii_digit letter ≡ false → IfSome digits IsNumber
    → NotNext letter rest → part_at letter (optional_text (part_text letter) digits ++ rest) ≡ (digits, rest)
unfolding part_at
part_at-text letter None rest letter_is h next = part_at-none letter rest next
part_at-text letter (Some ds) rest letter_is h next =
    let none : NoDigit (letter ∷ rest) = rw letter_is refl in
    rw (append_assoc, before_mark-mark letter _ ds rest (leading_digits-run 1 20 ds (letter ∷ rest) h none)) refl

NotNext-part : (letter other : ℕ) (digits : Option (List ℕ)) (rest : List ℕ) → (other == letter) ≡ false → is_ascii_digit other ≡ false
    → IfSome digits IsNumber → NotNext letter rest → NotNext letter (optional_text (part_text other) digits ++ rest)
unfolding after_mark
NotNext-part letter other None rest apart other_is h next = next
NotNext-part letter other (Some ds) rest apart other_is h next =
    let none : NoDigit (other ∷ rest) = rw other_is refl in
    rw (append_assoc, prefix_len-run ds (other ∷ rest) h.ascii none, drop_at ds (other ∷ rest) _ refl, apart) refl

no_digit-fraction : (fraction : Option (List ℕ)) → NoDigit (optional_text fraction_text fraction ++ 83 ∷ [])
no_digit-fraction None = refl
no_digit-fraction (Some ds) = refl

seconds_of-text : (s : SecondsParts) → IsSeconds s → seconds_of (seconds_text s) ≡ Some s
unfolding seconds_of after_mark
seconds_of-text s h =
    let tail = optional_text fraction_text s.fraction ++ 83 ∷ [] in
    rw (
      append_assoc,
      leading_digits-run 1 20 s.whole tail h.whole (no_digit-fraction s.fraction),
      fraction_at-text s.fraction (83 ∷ []) h.fraction refl refl,
    ) refl

seconds_of-found : (text : List ℕ) (s : SecondsParts) → seconds_of text ≡ Some s → (text ≡ seconds_text s) × IsSeconds s
unfolding seconds_of
seconds_of-found text s h =
    option_and_then_some _ (leading_digits 1 20 text) s h (λ whole run more.
    option_and_then_some _ (after_mark 83 (fraction_at whole.1).1) s more (λ rest mark last.
    let found = leading_digits-found 1 20 text whole run in
    let fraction = fraction_at-found whole.1 in
    let front = optional_text fraction_text (fraction_at whole.1).0 in
    let end = value_at_end-found _ s rest last in
    let after : (fraction_at whole.1).1 ≡ 83 ∷ [] = after_mark-found 83 _ rest mark ∙ ap (λ t. 83 ∷ t) end.0 in
    subst (λ s. (text ≡ seconds_text s) × IsSeconds s) end.1 (
      found.0 ∙ ap (λ t. whole.0 ++ t) (fraction.0 ∙ ap (λ t. front ++ t) after) ∙ sym (append_assoc whole.0 front (83 ∷ [])),
      record { whole = found.1; fraction = fraction.1 },
    )))

seconds_of-nil : seconds_of [] ≡ None
unfolding seconds_of leading_digits
seconds_of-nil = refl

clock_of-nil : clock_of [] ≡ None
unfolding clock_of after_mark
clock_of-nil = refl

NotNext-nil : (letter : ℕ) → NotNext letter []
unfolding after_mark
NotNext-nil letter = refl

NotNext-clock : (letter : ℕ) (clock : Option ClockParts) → (84 == letter) ≡ false → NotNext letter (optional_text clock_text clock)
unfolding after_mark
NotNext-clock letter None apart = refl
NotNext-clock letter (Some c) apart = rw apart refl

NotNext-seconds : (letter : ℕ) (seconds : Option SecondsParts) → (46 == letter) ≡ false → (83 == letter) ≡ false → IfSome seconds IsSeconds
    → NotNext letter (optional_text seconds_text seconds)
unfolding after_mark
NotNext-seconds letter None point apart h = refl
NotNext-seconds letter (Some s) point apart h =
    let tail = optional_text fraction_text s.fraction ++ 83 ∷ [] in
    rw (append_assoc, prefix_len-run s.whole tail h.whole.ascii (no_digit-fraction s.fraction), drop_at s.whole tail _ refl)
    (after_fraction s.fraction) where
      after_fraction : (fraction : Option (List ℕ)) → after_mark letter (optional_text fraction_text fraction ++ 83 ∷ []) ≡ None
      after_fraction None = rw apart refl
      after_fraction (Some ds) = rw point refl

clock_of-text : (c : ClockParts) → IsClock c → clock_of (clock_text c) ≡ Some c
unfolding clock_of
clock_of-text c h =
    let minutes = optional_text (part_text 77) c.minutes in
    let seconds = optional_text seconds_text c.seconds in
    let next = NotNext-seconds 72 c.seconds refl refl h.seconds in
    rw (
      append_assoc,
      after_mark-mark,
      part_at-text 72 c.hours (minutes ++ seconds) refl h.hours (NotNext-part 72 77 c.minutes seconds refl refl h.minutes next),
      part_at-text 77 c.minutes seconds refl h.minutes (NotNext-seconds 77 c.seconds refl refl h.seconds),
      optional_rest-text seconds_of seconds_text c.seconds seconds_of-nil
          (λ s is. seconds_of-text s (subst (λ o. IfSome o IsSeconds) is h.seconds)),
      h.some,
    ) refl

clock_of-found : (text : List ℕ) (c : ClockParts) → clock_of text ≡ Some c → (text ≡ clock_text c) × IsClock c
unfolding clock_of
clock_of-found text c h =
    option_and_then_some _ (after_mark 84 text) c h (λ rest mark more.
    option_and_then_some _ (optional_rest seconds_of (part_at 77 (part_at 72 rest).1).1) c more (λ seconds end last.
    let hours = part_at-found 72 rest in
    let minutes = part_at-found 77 (part_at 72 rest).1 in
    let found = optional_rest-found seconds_of seconds_text IsSeconds _ seconds seconds_of-found end in
    let some = value_if-found has_clock _ c last in
    let front = optional_text (part_text 72) (part_at 72 rest).0 in
    let middle = optional_text (part_text 77) (part_at 77 (part_at 72 rest).1).0 in
    subst (λ c. (text ≡ clock_text c) × IsClock c) some.1 (
      after_mark-found 84 text rest mark ∙ ap (λ t. 84 ∷ t) (hours.0 ∙ ap (λ t. front ++ t) (minutes.0 ∙ ap (λ t. middle ++ t) found.0)
          ∙ sym (append_assoc front middle _)),
      record { hours = hours.1; minutes = minutes.1; seconds = found.1; some = some.0 },
    )))

regrouped : (a b c d : List ℕ) → a ++ (b ++ (c ++ d)) ≡ ((a ++ b) ++ c) ++ d
regrouped a b c d = simp append_assoc

pub parts_of-text : (p : DurationParts) → IsDuration p → parts_of (parts_text p) ≡ Some p
unfolding parts_of
parts_of-text p h =
    let years = optional_text (part_text 89) p.years in
    let months = optional_text (part_text 77) p.months in
    let days = optional_text (part_text 68) p.days in
    let clock = optional_text clock_text p.clock in
    let after_months = λ (letter : ℕ). λ (d : (68 == letter) ≡ false). λ (t : (84 == letter)
    ≡ false). NotNext-part letter 68 p.days clock d refl h.days (NotNext-clock letter p.clock t) in
    rw (
      ← regrouped years months days clock,
      after_mark-mark,
      part_at-text 89 p.years (months ++ (days ++ clock)) refl h.years
          (NotNext-part 89 77 p.months (days ++ clock) refl refl h.months (after_months 89 refl refl)),
      part_at-text 77 p.months (days ++ clock) refl h.months (after_months 77 refl refl),
      part_at-text 68 p.days clock refl h.days (NotNext-clock 68 p.clock refl),
      optional_rest-text clock_of clock_text p.clock clock_of-nil (λ c is. clock_of-text c (subst (λ o. IfSome o IsClock) is h.clock)),
      h.some,
    ) refl

pub parts_of-found : (text : List ℕ) (p : DurationParts) → parts_of text ≡ Some p → IsDurationText text p
unfolding parts_of
parts_of-found text p h =
    option_and_then_some _ (after_mark 80 text) p h (λ rest mark more.
    let months_at = (part_at 89 rest).1 in
    let days_at = (part_at 77 months_at).1 in
    option_and_then_some _ (optional_rest clock_of (part_at 68 days_at).1) p more (λ clock end last.
    let years = part_at-found 89 rest in
    let months = part_at-found 77 months_at in
    let days = part_at-found 68 days_at in
    let found = optional_rest-found clock_of clock_text IsClock _ clock clock_of-found end in
    let some = value_if-found has_part _ p last in
    let first = optional_text (part_text 89) (part_at 89 rest).0 in
    let second = optional_text (part_text 77) (part_at 77 months_at).0 in
    let third = optional_text (part_text 68) (part_at 68 days_at).0 in
    subst (λ p. IsDurationText text p) some.1 (record {
      parts = record { years = years.1; months = months.1; days = days.1; clock = found.1; some = some.0 };
      spelled =
          after_mark-found 80 text rest mark
          ∙ ap (λ t. 80 ∷ t) (years.0 ∙ ap (λ t. first ++ t) (months.0 ∙ ap (λ t. second ++ t) (days.0 ∙ ap (λ t. third ++ t) found.0))
          ∙ regrouped first second third _);
    })))

pub parts_of-spelled : (text : List ℕ) (p : DurationParts) → IsDurationText text p → parts_of text ≡ Some p
parts_of-spelled text p h = ap parts_of h.spelled ∙ parts_of-text p h.parts

pub one_spelling : DurationsHaveOneSpelling
one_spelling text p q h k = some_same (sym (parts_of-spelled text p h) ∙ parts_of-spelled text q k)

-- what the parts denote
answer_of-denotes : (text : List ℕ) (p : DurationParts) → IsDurationText text p → DenotesDuration text (answer_of p)
answer_of-denotes text p h =
    by_bool (months_of p == 0)
    (λ none. by_bool (nat_lt (nanos_of p) (10 ^ 19))
    (λ below. rw (none, below) (p, h, eqb-true _ _ none, refl, ltb-true _ _ below))
    (λ above. rw (none, above) (p, h, eqb-true _ _ none, ltb-false _ _ above)))
    (λ some. rw some (p, h, λ e. false≢true (sym some ∙ eq-eqb _ _ e)))

duration_of-denotes : (text : List ℕ) → DenotesDuration text (duration_of text)
unfolding duration_of
duration_of-denotes text = by_parts (parts_of text) refl where
  by_parts : (r : Option DurationParts) → parts_of text ≡ r → DenotesDuration text (option_map_or answer_of r (Err Shape))
  by_parts None e = λ p h. none_some (sym e ∙ parts_of-spelled text p h)
  by_parts (Some p) e = answer_of-denotes text p (parts_of-found text p e)

-- one text denotes one thing
pub duration_of-is : (text : List ℕ) (answer : Result ℕ DurationFault) → DenotesDuration text answer → duration_of text ≡ answer
unfolding duration_of
duration_of-is text (Ok nanos) h =
    let below : nanos_of h.0 < 10 ^ 19 = omega (arith, h.3, h.4) in
    rw (parts_of-spelled text h.0 h.1, eq-eqb _ _ h.2, lt-ltb _ _ below) (ap Ok h.3)
duration_of-is text (Err Shape) h = by_parts (parts_of text) refl where
  by_parts : (r : Option DurationParts) → parts_of text ≡ r → option_map_or answer_of r (Err Shape) ≡ Err Shape
  by_parts None e = refl
  by_parts (Some p) e = absurd (h p (parts_of-found text p e))
duration_of-is text (Err Calendar) h = rw (parts_of-spelled text h.0 h.1, ne_eqb _ _ h.2) refl
duration_of-is text (Err Range) h =
    rw (parts_of-spelled text h.0 h.1, eq-eqb _ _ h.2, le-ltb _ _ h.3) refl

pub denoted : DurationsAreDenoted
denoted text answer =
    (λ e. subst (DenotesDuration text) e (duration_of-denotes text), duration_of-is text answer)

-- so what equals it does too
pub exactly : (text : List ℕ) (result : Result ℕ DurationFault) → result ≡ duration_of text → (answer : Result ℕ DurationFault)
    → (result ≡ answer) ↔ DenotesDuration text answer
exactly text result e answer = rw e (denoted text answer)
