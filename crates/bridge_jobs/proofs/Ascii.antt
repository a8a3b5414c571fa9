-- Instants and numbers are ASCII, so that bytes that are no text are neither.
use Rattle.std.proofs.Common.{◌≡◌, ◌<◌, ℕ, Bool, true, false, List, [], ◌∷◌, ◌++◌, Option, Some, None, Result, Ok, Err, refl, arith}
use Rattle.std.proofs.{lemmas.Bool.Decides.nat_tests, lemmas.Str.{IsAscii-append, IsUtf8-from_ascii}, lemmas.Str.Ascii.IsAscii-nil}
use Rattle.std.proofs.{lemmas.Str.Ascii.IsAscii-cons, lemmas.Str.Parse.tells_all_ascii_digits}
use Rattle.std.specs.{Prelude.{ℤ, IfSome, if◌then◌else◌}, Result.result_ok, Str.{IsAscii, IsUtf8, all_ascii_digits}}
use Rattle.iso_time.specs.{Digits.{AreDigits, optional_text, fraction_text}, declared.instant.InstantFault.InstantFault}
use Rattle.iso_time.specs.Instant.{InstantParts, IsInstant, IsZone, Zone, instant_of, parts_text, zone_text, unstated, utc, shifted}
use Rattle.iso_time.proofs.InstantLemmas.{denoted}
use Rattle.bridge_jobs.specs.{Numbers.decimal_of, Jobs.instant_in}

run : (digits : List ℕ) → all_ascii_digits digits ≡ true → IsAscii digits
run [] all = IsAscii-nil
run (c ∷ cs) all = let p = tells_all_ascii_digits.parts c cs all in IsAscii-cons c cs (omega (arith, p.0.0, p.0.1)) (run cs p.1)

fraction : (digits : Option (List ℕ)) → IfSome digits (AreDigits 1 30) → IsAscii (optional_text fraction_text digits)
fraction None is = IsAscii-nil
fraction (Some digits) is = IsAscii-cons 46 digits (omega arith) (run digits is.ascii)

zone : (z : Zone) → IsZone z → IsAscii (zone_text z)
zone unstated is = IsAscii-nil
zone utc is = IsAscii-cons 90 [] (omega arith) IsAscii-nil
zone (shifted behind colon hours minutes) is =
    let front : List ℕ = (if behind then 45 else 43) ∷ hours in
    let middle : List ℕ = if colon then 58 ∷ [] else [] in
    IsAscii-append (front ++ middle) minutes (IsAscii-append front middle (IsAscii-cons _ hours (sign behind) (run hours is.0.ascii))
    (mark colon)) (run minutes is.1.ascii)
  where
    sign : (b : Bool) → (if b then 45 else 43) < 128
    sign true = omega arith
    sign false = omega arith

    mark : (b : Bool) → IsAscii (if b then 58 ∷ [] else [])
    mark true = IsAscii-cons 58 [] (omega arith) IsAscii-nil
    mark false = IsAscii-nil

field : (mark : ℕ) (text more : List ℕ) → mark < 128 → IsAscii text → all_ascii_digits more ≡ true → IsAscii (text ++ mark ∷ more)
field mark text more low is digits = IsAscii-append text (mark ∷ more) is (IsAscii-cons mark more low (run more digits))

parts : (p : InstantParts) → IsInstant p → IsAscii (parts_text p)
parts p is =
    let month = p.year ++ 45 ∷ p.month in
    let day = month ++ 45 ∷ p.day in
    let hour = day ++ 84 ∷ p.hour in
    let minute = hour ++ 58 ∷ p.minute in
    let second = minute ++ 58 ∷ p.second in
    let time = field 58 minute p.second (omega arith) (field 58 hour p.minute (omega arith) (field 84 day p.hour (omega arith)
    (field 45 month p.day (omega arith) (field 45 p.year p.month (omega arith) (run p.year is.year.ascii) is.month.ascii) is.day.ascii)
    is.hour.ascii) is.minute.ascii) is.second.ascii in
    IsAscii-append (second ++ optional_text fraction_text p.fraction) (zone_text p.zone)
    (IsAscii-append second (optional_text fraction_text p.fraction) time (fraction p.fraction is.fraction)) (zone p.zone is.zone)

instant : (text : List ℕ) (now : ℤ) → instant_in text ≡ Some now → IsAscii text
instant text now is = go (instant_of text) refl is
  where
    go : (r : Result ℤ InstantFault) → instant_of text ≡ r → result_ok r ≡ Some now → IsAscii text
    go (Ok n) e some = let d = (denoted text (Ok n)).0 e in rw d.1.spelled (parts d.0 d.1.parts)
    go (Err f) e some = cc

number : (most : ℕ) (digits : List ℕ) (n : ℕ) → decimal_of most digits ≡ Some n → IsAscii digits
number most digits n is = go (all_ascii_digits digits) refl
  where
    go : (b : Bool) → all_ascii_digits digits ≡ b → IsAscii digits
    go true e = run digits e
    go false e = let no : decimal_of most digits ≡ None = grind (arith, nat_tests, e) in cc

-- what is no text is no instant
pub no_instant : (text : List ℕ) → ¬ (IsUtf8 text) → instant_in text ≡ None
no_instant text refuses = go (instant_in text) refl
  where
    go : (o : Option ℤ) → instant_in text ≡ o → instant_in text ≡ None
    go None e = e
    go (Some now) e = absurd (refuses (IsUtf8-from_ascii text (instant text now e)))

-- and no number
pub no_number : (most : ℕ) (digits : List ℕ) → ¬ (IsUtf8 digits) → decimal_of most digits ≡ None
no_number most digits refuses = go (decimal_of most digits) refl
  where
    go : (o : Option ℕ) → decimal_of most digits ≡ o → decimal_of most digits ≡ None
    go None e = e
    go (Some n) e = absurd (refuses (IsUtf8-from_ascii digits (number most digits n e)))
