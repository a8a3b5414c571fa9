-- Durations and instants are read as they were written.
use Rattle.std.proofs.Common.{◌≡◌, ℕ, ◌^◌, ◌<◌, ◌==◌, nat_lt, Bool, true, false, List, [], ◌∷◌, ◌++◌, Option, Some, None, Ok, Err, refl}
use Rattle.std.proofs.{Common.{◌∙◌, ap, arith}, lemmas.Bool.and_parts}
use Rattle.std.specs.{Prelude.ℤ, List.list_all, Option.option_map_or, Result.result_ok}
use Rattle.iso_time.specs.{Civil.{instant_text, moment_text}, Digits.padded_digits, Duration.{DurationParts, answer_of, duration_of}}
use Rattle.iso_time.specs.{Duration.{duration_text, months_of, nanos_of, parts_of}, Instant.{IsReadable, instant_of}}
use Rattle.iso_time.specs.Laws.{DurationsAreReadAgain, InstantsAreReadAgain, floor_millis}
use Rattle.iso_time.specs.declared.duration.DurationFault.TheVariants.{Calendar, Range, Shape}
use Rattle.mpd_rules.specs.Readings.{duration_in, instant_in, nanos_unless_months}
use Rattle.laws_of_mpds.proofs.{Numbers.{is_solid, solid_stays}, Plain.{ArePlain, AreVisible, duration_visible, is_visible, joined_visible}}
use Rattle.laws_of_mpds.proofs.Plain.{padded_visible, plain_of}

-- visible bytes are no spaces
solid : (text : List ℕ) → AreVisible text → list_all is_solid text ≡ true
solid [] visible = refl
solid (b ∷ bs) visible =
    let parts = and_parts (is_visible b) (list_all is_visible bs) visible in
    let other : (b == 32) ≡ false = grind arith in
    rw other (solid bs parts.1)

-- ---- durations

answered : (p : DurationParts) (n : ℕ) (none low : Bool) → (months_of p == 0) ≡ none → nat_lt (nanos_of p) (10 ^ 19) ≡ low
    → answer_of p ≡ Ok n → nanos_unless_months p ≡ Some n
answered p n true true none low is =
    (let told : answer_of p ≡ Ok (nanos_of p) = rw (none, low) refl in
    let same : nanos_of p ≡ n = cc in
    rw none (ap Some same))
answered p n true false none low is = absurd (let told : answer_of p ≡ Err Range = rw (none, low) refl in cc)
answered p n false low none e is = absurd (let told : answer_of p ≡ Err Calendar = rw none refl in cc)

parts_answered : (parts : Option DurationParts) (n : ℕ) → option_map_or answer_of parts (Err Shape) ≡ Ok n
    → (p : DurationParts) × (parts ≡ Some p) × (answer_of p ≡ Ok n)
parts_answered None n is = absurd (cc)
parts_answered (Some p) n is = (p, refl, is)

pub duration_read : DurationsAreReadAgain → (n : ℕ) → n < 10 ^ 19 → duration_in (duration_text n) ≡ Some n
unfolding duration_of
duration_read again n low =
    let told = parts_answered (parts_of (duration_text n)) n (again n low) in
    rw (solid_stays (duration_text n) (solid (duration_text n) (duration_visible n)), told.1)
    (answered told.0 n (months_of told.0 == 0) (nat_lt (nanos_of told.0) (10 ^ 19)) refl refl told.2)

-- ---- instants

moment_visible : (year month day hour minute second millis : ℕ) → AreVisible (moment_text year month day hour minute second millis)
unfolding moment_text padded_digits
moment_visible year month day hour minute second millis =
    let parts = padded_digits 3 millis ++ 90 ∷ [] in
    let seconds = padded_digits 2 second ++ 46 ∷ parts in
    let minutes = padded_digits 2 minute ++ 58 ∷ seconds in
    let hours = padded_digits 2 hour ++ 58 ∷ minutes in
    let days = padded_digits 2 day ++ 84 ∷ hours in
    let months = padded_digits 2 month ++ 45 ∷ days in
    joined_visible (padded_digits 4 year) 45 months (padded_visible 4 year) refl
    (joined_visible (padded_digits 2 month) 45 days (padded_visible 2 month) refl
    (joined_visible (padded_digits 2 day) 84 hours (padded_visible 2 day) refl
    (joined_visible (padded_digits 2 hour) 58 minutes (padded_visible 2 hour) refl
    (joined_visible (padded_digits 2 minute) 58 seconds (padded_visible 2 minute) refl
    (joined_visible (padded_digits 2 second) 46 parts (padded_visible 2 second) refl
    (joined_visible (padded_digits 3 millis) 90 [] (padded_visible 3 millis) refl refl))))))

instant_visible : (instant : ℤ) → AreVisible (instant_text instant)
unfolding instant_text
instant_visible instant = moment_visible _ _ _ _ _ _ _

pub instant_plain : (instant : ℤ) → ArePlain (instant_text instant)
instant_plain instant = plain_of (instant_text instant) (instant_visible instant)

pub instant_read : InstantsAreReadAgain → (instant : ℤ) → IsReadable instant
    → instant_in (instant_text instant) ≡ Some (floor_millis instant)
instant_read again instant readable =
    ap (λ text. result_ok (instant_of text)) (solid_stays (instant_text instant) (solid (instant_text instant) (instant_visible instant)))
    ∙ ap result_ok (again instant readable)
