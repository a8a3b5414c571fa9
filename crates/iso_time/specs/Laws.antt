-- Laws of what texts denote and of the texts that are written.
use Rattle.std.specs.Prelude.{◌≡◌, ℕ, ◌*◌, ◌/◌, ◌^◌, ◌<◌, length, ◌↔◌, List, Result, Ok, ℤ, pos, neg_ℤ, ◌*ℤ◌, ◌≤ℤ◌, ◌<ℤ◌}
use Rattle.std.specs.Int.{int_div_euclid}
use Rattle.iso_time.specs.{declared.duration.DurationFault.DurationFault, declared.instant.InstantFault.InstantFault, Digits.AreDigits}
use Rattle.iso_time.specs.{Digits.{number_of, fraction_nanos}, Duration.{DurationParts, IsDurationText, DenotesDuration, duration_of}}
use Rattle.iso_time.specs.{Duration.duration_text, Instant.{InstantParts, IsInstantText, DenotesInstant, IsReadable, instant_of}}
use Rattle.iso_time.specs.Civil.{instant_text, midnight, year_of, month_of, day_of}
use Rattle.jiff_core.specs.Calendar.{IsDate, days_from_civil}

-- no text is a duration or a timestamp in two ways
abbrev pub DurationsHaveOneSpelling : Type 0
DurationsHaveOneSpelling =
    (text : List ℕ) (p q : DurationParts) → IsDurationText text p → IsDurationText text q → p ≡ q

abbrev pub InstantsHaveOneSpelling : Type 0
InstantsHaveOneSpelling =
    (text : List ℕ) (p q : InstantParts) → IsInstantText text p → IsInstantText text q → p ≡ q

-- the digits after a decimal point are read as their fraction of a second, rounded down to nanoseconds
abbrev pub FractionsAreRoundedDown : Type 0
FractionsAreRoundedDown =
    (digits : List ℕ) → AreDigits 1 30 digits → fraction_nanos digits ≡ number_of digits * 10 ^ 9 / 10 ^ length digits

-- a text is read as what it denotes, and as nothing else
abbrev pub DurationsAreDenoted : Type 0
DurationsAreDenoted =
    (text : List ℕ) (answer : Result ℕ DurationFault) → (duration_of text ≡ answer) ↔ DenotesDuration text answer

abbrev pub InstantsAreDenoted : Type 0
InstantsAreDenoted =
    (text : List ℕ) (answer : Result ℤ InstantFault) → (instant_of text ≡ answer) ↔ DenotesInstant text answer

-- a written duration is read back unchanged
abbrev pub DurationsAreReadAgain : Type 0
DurationsAreReadAgain = (nanos : ℕ) → nanos < 10 ^ 19 → duration_of (duration_text nanos) ≡ Ok nanos

-- a timestamp rounded down to milliseconds
abbrev pub floor_millis : ℤ → ℤ
floor_millis nanos = int_div_euclid nanos (pos 1_000_000) *ℤ pos 1_000_000

-- and a written timestamp is read back rounded down
abbrev pub InstantsAreReadAgain : Type 0
InstantsAreReadAgain = (nanos : ℤ) → IsReadable nanos → instant_of (instant_text nanos) ≡ Ok (floor_millis nanos)

-- a day of the years 0 to 9999
abbrev pub IsCalendarDay : ℤ → Type 0
IsCalendarDay day = (days_from_civil (pos 0) 1 1 ≤ℤ day) × (day <ℤ days_from_civil (pos 10_000) 1 1)

-- the year, month and day of a day number are a date of the calendar, and the one that `jiff` gives that number
abbrev pub IsDateOfDay : ℕ → ℕ → ℕ → ℤ → Type 0
IsDateOfDay year month date day = IsDate (pos year) (pos month) (pos date) × (days_from_civil (pos year) month date ≡ day)

abbrev pub CalendarDaysHaveDates : Type 0
CalendarDaysHaveDates =
    (day : ℤ) → IsCalendarDay day
    → IsDateOfDay (year_of day) (month_of (year_of day) day) (day_of (year_of day) (month_of (year_of day) day) day) day

-- the bounds of what is read and written are midnights in UTC
pub record BoundsAreMidnights : Type 0 where
  pub first_read : midnight 1583 1 1 ≡ neg_ℤ (pos 12_212_553_600_000_000_000)
  pub end_read : midnight 3000 1 1 ≡ pos 32_503_680_000_000_000_000
  pub first_written : midnight 1000 1 1 ≡ neg_ℤ (pos 30_610_224_000_000_000_000)
  pub end_written : midnight 10_000 1 1 ≡ pos 253_402_300_800_000_000_000
