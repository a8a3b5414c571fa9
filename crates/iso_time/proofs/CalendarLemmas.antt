-- The civil date and time of an instant, found by day numbers alone.
use Rattle.std.proofs.Common.{◌≡◌, ℕ, zero, suc, ◌-◌, ◌/◌, ◌%◌, ◌<◌, ◌≤◌, inl, inr, Bool, true, false, not, refl, sym, subst, ◌∙◌, arith, ℤ}
use Rattle.std.proofs.{Common.{pos, neg_ℤ, negsuc, ◌+ℤ◌, ◌-ℤ◌, ◌*ℤ◌, ◌<ℤ◌, ◌≤ℤ◌, int_lt, unsigned_abs}, Math.Numerals.add-one}
use Rattle.std.proofs.{lemmas.Bool.{cases_lt, false≢true}, lemmas.Int.by_lt_z}
use Rattle.std.specs.Int.{int_div_euclid, int_rem_euclid}
use Rattle.jiff_core.specs.{declared.civil.date.Date.Date, declared.civil.time.Time.Time, declared.civil.datetime.DateTime.DateTime}
use Rattle.jiff_core.specs.{Calendar.{days_from_civil, day_count, days_of_years, days_of_months, days_in_month}, Date.epoch_day}
use Rattle.jiff_core.specs.{Time.time_nanos, DateTime.civil_nanos}
use Rattle.jiff_core.proofs.{CalendarLemmas.days_in_month_bounds, SignedLemmas.signed_arith, DateLemmas.{epoch_day-lt, epoch_day-ordinal}}
use Rattle.jiff_core.proofs.DateLemmas.{days_from_civil-day, days_from_civil-next_month, days_from_civil-next_year}
use Rattle.jiff_core.proofs.DateTimeLemmas.{civil_nanos-parts, epoch_day-civil_nanos, time_nanos_bound}
use Rattle.iso_time.specs.{Laws.{CalendarDaysHaveDates, IsCalendarDay}, Civil.{last_passing, year_of, month_of, day_of, civil_text}}
use Rattle.iso_time.specs.{Civil.{instant_text, day_nanos}, Instant.{IsWritable, IsReadable}}
use Rattle.iso_time.proofs.{DigitLemmas.by_bool, CivilLemmas.{before, not_before, from_before, from_not_before}}

-- the last number that passes
last_passing-is : (p : ℕ → Bool) (limit k : ℕ) → k ≤ limit → p k ≡ true → ((j : ℕ) → k < j → j ≤ limit → p j ≡ false)
    → last_passing p limit ≡ k
unfolding last_passing
last_passing-is p zero k h passes above = omega arith
last_passing-is p (suc n) k h passes above =
    elim (cases_lt n k) [
      | inl last ↦ let same : k ≡ suc n = omega arith in rw (rw same at passes) (sym same)
      | inr below ↦ rw (above (suc n) (omega arith) (omega arith))
          (last_passing-is p n k below passes (λ j more least. above j more (omega arith)))
    ]

last_passing-le : (p : ℕ → Bool) (limit : ℕ) → last_passing p limit ≤ limit
unfolding last_passing
last_passing-le p zero = omega arith
last_passing-le p (suc n) =
    by_bool (p (suc n)) (λ t. rw t (omega arith)) (λ f. rw f (omega (arith, last_passing-le p n)))

-- the first day of a month
first_day : (y m : ℕ) → y ≤ 9999 → 1 ≤ m → m ≤ 12 → Date
first_day y m h low high = record {
  year = pos y;
  month = m;
  day = 1;
  year_in = omega (arith, signed_arith);
  month_in = (low, high);
  day_in = (omega arith, omega (arith, days_in_month_bounds (pos y) m));
}

-- a day comes after its year and its month began
year_began : (d : Date) (y : ℕ) → d.year ≡ pos y → days_from_civil (pos y) 1 1 ≤ℤ epoch_day d
year_began d y e =
    let began : days_from_civil d.year 1 1 ≤ℤ epoch_day d = omega (arith, signed_arith, epoch_day-ordinal d, d.day_in) in
    subst (λ z. days_from_civil z 1 1 ≤ℤ epoch_day d) e began

day_in_month : (d : Date) (y : ℕ) → d.year ≡ pos y → epoch_day d +ℤ pos 1 ≡ days_from_civil (pos y) d.month 1 +ℤ pos d.day
day_in_month d y e =
    subst (λ z. epoch_day d +ℤ pos 1 ≡ days_from_civil z d.month 1 +ℤ pos d.day) e
    (days_from_civil-day d.year d.month d.day 1 d.day_in.0 (omega arith))

-- and before a later one begins
year_of-is : (d : Date) (y : ℕ) → d.year ≡ pos y → year_of (epoch_day d) ≡ y
unfolding year_of first_day
year_of-is d y e =
    last_passing-is (λ year. not (int_lt (epoch_day d) (days_from_civil (pos year) 1 1))) 9999 y (omega (arith, signed_arith, d.year_in))
    (not_before _ _ (year_began d y e))
    (λ j more least. before _ _ (epoch_day-lt d (first_day j 1 least (omega arith) (omega arith)) (inl (omega (arith, signed_arith, e)))))

month_of-is : (d : Date) (y : ℕ) → d.year ≡ pos y → month_of y (epoch_day d) ≡ d.month
unfolding month_of first_day
month_of-is d y e =
    let limit : y ≤ 9999 = omega (arith, signed_arith, d.year_in) in
    let began : days_from_civil (pos y) d.month 1 ≤ℤ epoch_day d = omega (arith, signed_arith, day_in_month d y e, d.day_in.0) in
    last_passing-is (λ month. not (int_lt (epoch_day d) (days_from_civil (pos y) month 1))) 12 d.month d.month_in.1 (not_before _ _ began)
    (λ j more least. before _ _ (epoch_day-lt d (first_day y j limit (omega arith) least) (inr (e, inl more))))

day_of-is : (d : Date) (y : ℕ) → d.year ≡ pos y → day_of y d.month (epoch_day d) ≡ d.day
day_of-is d y e =
    let since : epoch_day d -ℤ days_from_civil (pos y) d.month 1 ≡ pos (d.day - 1) =
    omega (arith, signed_arith, day_in_month d y e, d.day_in.0) in
    rw since (omega (arith, d.day_in.0))

-- the time of day is what the days leave
rest_of : (dt : DateTime) → unsigned_abs (int_rem_euclid (civil_nanos dt) day_nanos) ≡ time_nanos dt.time
rest_of dt =
    let rest : int_rem_euclid (civil_nanos dt) day_nanos ≡ pos (time_nanos dt.time) =
    omega (arith, signed_arith, civil_nanos-parts dt, time_nanos_bound dt.time) in
    rw rest refl

clock_parts : (t : Time) → (time_nanos t / 3_600_000_000_000 ≡ t.hour) × (time_nanos t / 60_000_000_000 % 60 ≡ t.minute)
    × (time_nanos t / 1_000_000_000 % 60 ≡ t.second) × (time_nanos t / 1_000_000 % 1_000 ≡ t.subsec_nanosecond / 1_000_000)
clock_parts t = (omega arith, omega arith, omega arith, omega arith)

-- the text of an instant is that of its date and time
pub instant_text-civil : (dt : DateTime) (y : ℕ) → dt.date.year ≡ pos y → civil_text dt ≡ instant_text (civil_nanos dt)
unfolding instant_text
instant_text-civil dt y e =
    let t = clock_parts dt.time in
    rw (
      ← epoch_day-civil_nanos dt,
      rest_of dt,
      year_of-is dt.date y e,
      month_of-is dt.date y e,
      day_of-is dt.date y e,
      e,
      t.0,
      t.1,
      t.2,
      t.3,
    ) refl

-- the last number that passes does so, and the next one doesn't
last_passing-found : (p : ℕ → Bool) (limit k : ℕ) → k ≤ limit → p k ≡ true → (k ≤ last_passing p limit) × (last_passing p limit ≤ limit)
    × (p (last_passing p limit) ≡ true)
unfolding last_passing
last_passing-found p zero k h passes = let none : k ≡ 0 = omega arith in (omega arith, omega arith, rw none at passes)
last_passing-found p (suc n) k h passes =
    by_bool (p (suc n)) (λ t. rw t (h, omega arith, t))
    (λ f. let below : k ≤ n = elim (cases_lt n k) [
      | inl last ↦ let same : k ≡ suc n = omega arith in absurd (false≢true (sym f ∙ rw same at passes))
      | inr below ↦ below
    ] in
    let found = last_passing-found p n k below passes in
    rw f (found.0, omega (arith, found.1), found.2))

last_passing-next : (p : ℕ → Bool) (limit : ℕ) → last_passing p limit < limit → p (suc (last_passing p limit)) ≡ false
unfolding last_passing
last_passing-next p zero h = absurd (omega arith)
last_passing-next p (suc n) h =
    by_bool (p (suc n)) (λ t. absurd (omega (arith, rw t at h)))
    (λ f. elim (cases_lt (last_passing p n) n) [
      | inl below ↦ rw f (last_passing-next p n below)
      | inr last ↦ let same : last_passing p n ≡ n = omega (arith, last_passing-le p n) in rw (f, same) f
    ])

year_zero : days_from_civil (pos 0) 1 1 ≡ neg_ℤ (pos 719_528)
unfolding days_from_civil day_count days_of_years days_of_months
year_zero = refl

year_ten_thousand : days_from_civil (pos 10_000) 1 1 ≡ pos 2_932_897
unfolding days_from_civil day_count days_of_years days_of_months
year_ten_thousand = refl

unsigned : (z : ℤ) → pos 0 ≤ℤ z → z ≡ pos (unsigned_abs z)
unsigned (pos n) h = refl
unsigned (negsuc n) h = absurd (omega (arith, signed_arith))

-- from the year 0 on there is a number of the year
pub year_from_writable : (dt : DateTime) (nanos : ℤ) → civil_nanos dt ≡ nanos → IsWritable nanos
    → dt.date.year ≡ pos (unsigned_abs dt.date.year)
unfolding first_day
year_from_writable dt nanos e h =
    unsigned _ (by_lt_z dt.date.year (pos 0)
    (λ lt. absurd (omega (
      arith,
      signed_arith,
      h,
      e,
      civil_nanos-parts dt,
      time_nanos_bound dt.time,
      year_zero,
      epoch_day-lt dt.date (first_day 0 1 (omega arith) (omega arith) (omega arith)) (inl lt),
    )))
    (λ ge. ge))

-- the year and the month of a day begin by then, and the next ones don't
year_found : (day : ℤ) → IsCalendarDay day → (year_of day ≤ 9999) × (days_from_civil (pos (year_of day)) 1 1 ≤ℤ day)
    × (day <ℤ days_from_civil (pos (suc (year_of day))) 1 1)
unfolding year_of
year_found day h =
    let p = λ (year : ℕ). not (int_lt day (days_from_civil (pos year) 1 1)) in
    let found = last_passing-found p 9999 0 (omega arith) (not_before _ _ h.0) in (
      found.1,
      from_not_before _ _ found.2,
      elim (cases_lt (last_passing p 9999) 9999) [
        | inl below ↦ from_before _ _ (last_passing-next p 9999 below)
        | inr last ↦ let same : last_passing p 9999 ≡ 9999 = omega (arith, found.1) in rw same h.1
      ],
    )

-- a month goes on to the first of the next one
month_length : (y m : ℕ) → 1 ≤ m → days_from_civil (pos y) (suc m) 1 ≡ days_from_civil (pos y) m 1 +ℤ pos (days_in_month (pos y) m)
month_length y m low =
    let length = days_in_month (pos y) m in
    let some : 1 ≤ length = omega (arith, days_in_month_bounds (pos y) m) in
    rw (← add-one m) (days_from_civil-next_month (pos y) m length low refl ∙ days_from_civil-day (pos y) m length 1 some (omega arith))

year_end : (y : ℕ) → days_from_civil (pos (suc y)) 1 1 ≡ days_from_civil (pos y) 12 1 +ℤ pos 31
year_end y =
    days_from_civil-next_year (pos y) (pos (suc y)) (omega (arith, signed_arith)) (omega (arith, signed_arith))
    ∙ days_from_civil-day (pos y) 12 31 1 (omega arith) (omega arith)

month_found : (y : ℕ) (day : ℤ) → days_from_civil (pos y) 1 1 ≤ℤ day → day <ℤ days_from_civil (pos (suc y)) 1 1
    → (1 ≤ month_of y day) × (month_of y day ≤ 12) × (days_from_civil (pos y) (month_of y day) 1 ≤ℤ day)
    × (day <ℤ (days_from_civil (pos y) (month_of y day) 1 +ℤ pos (days_in_month (pos y) (month_of y day))))
unfolding month_of
month_found y day began next =
    let p = λ (month : ℕ). not (int_lt day (days_from_civil (pos y) month 1)) in
    let found = last_passing-found p 12 1 (omega arith) (not_before _ _ began) in (
      found.0,
      found.1,
      from_not_before _ _ found.2,
      elim (cases_lt (last_passing p 12) 12) [
        | inl below ↦ rw (← month_length y _ found.0) (from_before _ _ (last_passing-next p 12 below))
        | inr last ↦ let same : last_passing p 12 ≡ 12 = omega (arith, found.1) in rw same (rw (year_end y) at next)
      ],
    )

-- each day of these years has its date
pub civil_date : CalendarDaysHaveDates
civil_date day h =
    let y = year_of day in
    let year = year_found day h in
    let m = month_of y day in
    let month = month_found y day year.1 year.2 in
    let first = days_from_civil (pos y) m 1 in
    let d = day_of y m day in
    let since : day -ℤ first ≡ pos (unsigned_abs (day -ℤ first)) = unsigned (day -ℤ first) (omega (arith, signed_arith, month.2)) in
    let number = days_from_civil-day (pos y) m d 1 (omega arith) (omega arith) in (
      (omega (arith, signed_arith, year.0), omega (arith, signed_arith, month.0, month.1), omega (arith, signed_arith, since, month.3)),
      omega (arith, signed_arith, since, number),
    )

-- the days and the rest of an instant
pub day_split : (nanos : ℤ) → (nanos ≡ int_div_euclid nanos day_nanos *ℤ day_nanos +ℤ pos (unsigned_abs (int_rem_euclid nanos day_nanos)))
    × (unsigned_abs (int_rem_euclid nanos day_nanos) < 86_400_000_000_000)
day_split nanos = omega (arith, signed_arith)

pub readable_day : (nanos : ℤ) → IsReadable nanos → IsCalendarDay (int_div_euclid nanos day_nanos)
readable_day nanos h = omega (arith, signed_arith, h, year_zero, year_ten_thousand, day_split nanos)
