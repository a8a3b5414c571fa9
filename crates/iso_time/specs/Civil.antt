-- The civil date and time of a timestamp in UTC, by the day numbers of `jiff`.
use Rattle.std.specs.Prelude.{ℕ, zero, suc, ◌+◌, ◌/◌, ◌%◌, Bool, not, if◌then◌else◌, List, [], ◌∷◌, ◌++◌, ℤ, pos, ◌-ℤ◌, ◌*ℤ◌, int_lt}
use Rattle.std.specs.{Prelude.unsigned_abs, Int.{int_div_euclid, int_rem_euclid}}
use Rattle.jiff_core.specs.{Calendar.days_from_civil, declared.civil.datetime.DateTime.DateTime}
use Rattle.iso_time.specs.Digits.{padded_digits}

-- the nanoseconds of a day
abbrev pub day_nanos : ℤ
day_nanos = pos 86_400_000_000_000

-- 00:00 in UTC on a day
abbrev pub midnight : ℕ → ℕ → ℕ → ℤ
midnight year month day = days_from_civil (pos year) month day *ℤ day_nanos

-- the last number up to a limit that passes, and 0 where none does
unfoldable pub last_passing : (ℕ → Bool) → ℕ → ℕ
last_passing passes zero = 0
last_passing passes (suc n) = if passes (suc n) then suc n else last_passing passes n

-- the year of a day number: the last one from 0 to 9999 that begins by then
unfoldable pub year_of : ℤ → ℕ
year_of day = last_passing (λ year. not (int_lt day (days_from_civil (pos year) 1 1))) 9999

-- the month in that year: the last one that begins by then
unfoldable pub month_of : ℕ → ℤ → ℕ
month_of year day = last_passing (λ month. not (int_lt day (days_from_civil (pos year) month 1))) 12

-- the day of that month
abbrev pub day_of : ℕ → ℕ → ℤ → ℕ
day_of year month day = unsigned_abs (day -ℤ days_from_civil (pos year) month 1) + 1

-- `YYYY-MM-DDThh:mm:ss.mmmZ`
unfoldable pub moment_text : (year month day hour minute second millis : ℕ) → List ℕ
moment_text year month day hour minute second millis =
    padded_digits 4 year ++ 45 ∷ padded_digits 2 month ++ 45 ∷ padded_digits 2 day
    ++ 84 ∷ padded_digits 2 hour ++ 58 ∷ padded_digits 2 minute ++ 58 ∷ padded_digits 2 second
    ++ 46 ∷ padded_digits 3 millis ++ 90 ∷ []

-- the text of a date and a time of `jiff` in UTC
abbrev pub civil_text : DateTime → List ℕ
civil_text dt =
    moment_text (unsigned_abs dt.date.year) dt.date.month dt.date.day
    dt.time.hour dt.time.minute dt.time.second (dt.time.subsec_nanosecond / 1_000_000)

-- the text of a timestamp, rounded down to milliseconds
unfoldable pub instant_text : ℤ → List ℕ
instant_text nanos =
    let day = int_div_euclid nanos day_nanos in
    let year = year_of day in
    let month = month_of year day in
    let rest = unsigned_abs (int_rem_euclid nanos day_nanos) in
    moment_text year month (day_of year month day)
    (rest / 3_600_000_000_000) (rest / 60_000_000_000 % 60) (rest / 1_000_000_000 % 60)
    (rest / 1_000_000 % 1_000)
