-- Dates, times and offsets that exist, and the nanoseconds that they name.
use Rattle.std.proofs.Common.{◌≡◌, ◌&&◌, ◌⊎◌, inl, inr, nat_le, nat_lt, Ok, Err, true, false, not, refl, sym, ap, ◌∙◌, arith, ℤ, pos, neg_ℤ}
use Rattle.std.proofs.{Common.{◌-ℤ◌, ◌*ℤ◌, ◌<ℤ◌, ◌≤ℤ◌, int_lt, to_z, of_z}, lemmas.Bool.Decides.nat_tests, lemmas.Bool.and_parts}
use Rattle.std.proofs.lemmas.Bool.{and_from, false≢true, leb-true, ltb-true}
use Rattle.std.specs.Int.{w32, w128}
use Rattle.jiff_core.specs.{declared.civil.datetime.DateTime.DateTime, Calendar.{IsWithin, days_in_month}, Date.IsYmd, Time.IsHms}
use Rattle.jiff_core.specs.DateTime.{IsCivilNanos, civil_nanos as jiff_nanos}
use borrow.Author.Differences.{true_is_lt, false_is_lt}
use Rattle.jiff_core.proofs.{SignedLemmas.signed_arith, DateTimeLemmas.civil_nanos-parts}
use Rattle.iso_time.specs.{declared.instant.Offset.Offset, declared.instant.Fields.Fields, Instant.{IsCivil, is_civil, IsOffset, is_offset}}
use Rattle.iso_time.specs.Instant.{AreShort, civil_nanos, Exists, IsReadable, is_readable, instant_nanos, answer_of}
use Rattle.iso_time.specs.declared.instant.InstantFault.TheVariants.{Date, Range}
use Rattle.iso_time.proofs.DigitLemmas.{by_bool}

-- a test of an order
pub not_before : (a b : ℤ) → b ≤ℤ a → not (int_lt a b) ≡ true
not_before a b h = ap not (sym (false_is_lt a b (omega (arith, signed_arith))))

pub before : (a b : ℤ) → a <ℤ b → not (int_lt a b) ≡ false
before a b h = ap not (sym (true_is_lt a b (omega (arith, signed_arith))))

pub from_not_before : (a b : ℤ) → not (int_lt a b) ≡ true → b ≤ℤ a
from_not_before a b h = by_bool (int_lt a b) (λ t. absurd (false≢true (sym (ap not t) ∙ h))) (λ f. omega (arith, signed_arith, f))

pub from_before : (a b : ℤ) → not (int_lt a b) ≡ false → a <ℤ b
from_before a b h = by_bool (int_lt a b) (λ t. omega (arith, signed_arith, t)) (λ f. absurd (false≢true (sym h ∙ ap not f)))

-- the tests decide what they are named after
pub is_civil-true : (f : Fields) → IsCivil f → is_civil f ≡ true
is_civil-true f h = grind (arith, nat_tests, signed_arith)

pub IsCivil-true : (f : Fields) → AreShort f → is_civil f ≡ true → IsCivil f
IsCivil-true f short h =
    let h7 = and_parts _ (nat_lt f.second 60) h in
    let h6 = and_parts _ (nat_lt f.minute 60) h7.0 in
    let h5 = and_parts _ (nat_lt f.hour 24) h6.0 in
    let h4 = and_parts _ (nat_le f.day (days_in_month (pos f.year) f.month)) h5.0 in
    let h3 = and_parts _ (nat_le 1 f.day) h4.0 in
    let h2 = and_parts (nat_le 1 f.month) (nat_le f.month 12) h3.0 in
    omega (
      arith,
      signed_arith,
      leb-true _ _ h2.0,
      leb-true _ _ h2.1,
      leb-true _ _ h3.1,
      leb-true _ _ h4.1,
      ltb-true _ _ h5.1,
      ltb-true _ _ h6.1,
      ltb-true _ _ h7.1,
    )

pub is_offset-true : (o : Offset) → IsOffset o → is_offset o ≡ true
is_offset-true o h = grind (arith, nat_tests)

pub IsOffset-true : (o : Offset) → is_offset o ≡ true → IsOffset o
IsOffset-true o h = grind (arith, nat_tests)

exists-true : (f : Fields) → Exists f → (is_civil f && is_offset f.offset) ≡ true
exists-true f h = and_from _ _ (is_civil-true f h.0) (is_offset-true f.offset h.1)

Exists-true : (f : Fields) → AreShort f → (is_civil f && is_offset f.offset) ≡ true → Exists f
Exists-true f short h =
    let tests = and_parts (is_civil f) (is_offset f.offset) h in
    (IsCivil-true f short tests.0, IsOffset-true f.offset tests.1)

pub cases_exists : (f : Fields) → AreShort f → Exists f ⊎ (¬ (Exists f))
cases_exists f short =
    by_bool (is_civil f && is_offset f.offset) (λ t. inl (Exists-true f short t)) (λ t. inr (λ h. false≢true (sym t ∙ exists-true f h)))

readable-true : (z : ℤ) → IsReadable z → is_readable z ≡ true
readable-true z h = and_from _ _ (not_before z _ h.0) (sym (true_is_lt z _ (omega (arith, signed_arith, h.1))))

Readable-true : (z : ℤ) → is_readable z ≡ true → IsReadable z
Readable-true z h =
    let tests = and_parts (not (int_lt z (neg_ℤ (pos 12_212_553_600_000_000_000)))) (int_lt z (pos 32_503_680_000_000_000_000)) h in
    (from_not_before z _ tests.0, omega (arith, signed_arith, tests.1))

pub cases_readable : (z : ℤ) → IsReadable z ⊎ (¬ (IsReadable z))
cases_readable z =
    by_bool (is_readable z) (λ t. inl (Readable-true z t)) (λ t. inr (λ h. false≢true (sym t ∙ readable-true z h)))

-- the three answers
pub answer_of-in_range : (f : Fields) → Exists f → IsReadable (instant_nanos f) → answer_of f ≡ Ok (instant_nanos f)
answer_of-in_range f h r = rw (exists-true f h, readable-true _ r) refl

pub answer_of-out_of_range : (f : Fields) → Exists f → ¬ (IsReadable (instant_nanos f)) → answer_of f ≡ Err Range
answer_of-out_of_range f h r =
    by_bool (is_readable (instant_nanos f)) (λ t. absurd (r (Readable-true _ t))) (λ t. rw (exists-true f h, t) refl)

pub answer_of-missing : (f : Fields) → AreShort f → ¬ (Exists f) → answer_of f ≡ Err Date
answer_of-missing f short h =
    by_bool (is_civil f && is_offset f.offset) (λ t. absurd (h (Exists-true f short t))) (λ t. rw t refl)

-- what jiff's clock shows is what the fields say
pub civil_nanos-is : (f : Fields) (dt : DateTime) → IsYmd (pos f.year) (pos f.month) (pos f.day) dt.date
    → IsHms (pos f.hour) (pos f.minute) (pos f.second) (pos f.nanos) dt.time → jiff_nanos dt ≡ civil_nanos f
civil_nanos-is f dt ymd hms =
    let month : dt.date.month ≡ f.month = omega (arith, signed_arith, ymd.1) in
    let day : dt.date.day ≡ f.day = omega (arith, signed_arith, ymd.2) in
    rw (civil_nanos-parts, ymd.0, month, day) (omega (arith, signed_arith, hms.0, hms.1, hms.2, hms.3))

-- the difference that the code computes, where each step fits
pub local-ahead : (local ahead : ℤ) → IsCivilNanos local → IsWithin 53_940 ahead
    → to_z w128 (of_z w128 (to_z w128 (of_z w128 local) -ℤ to_z w128
    (of_z w128 (to_z w128 (of_z w128 (to_z w32 (of_z w32 ahead))) *ℤ pos 1_000_000_000)))) ≡ local -ℤ ahead *ℤ pos 1_000_000_000
local-ahead local ahead b s = omega (arith, signed_arith)
