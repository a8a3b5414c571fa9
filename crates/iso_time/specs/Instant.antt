-- Timestamps as XML Schema part 2, 3.2.7 writes them: `YYYY-MM-DDThh:mm:ss` with a fraction and an offset.
use Rattle.std.specs.{Option.option_map_or, Prelude.{◌≡◌, ℕ, ◌+◌, ◌*◌, ◌^◌, ◌<◌, ◌≤◌, ◌==◌, ◌&&◌, not, nat_lt, nat_le, Bool, true, false}}
use Rattle.std.specs.Prelude.{List, [], ◌∷◌, ◌++◌, Option, Some, None, option_map, unwrap_or, IfSome, Result, Ok, Err, if◌then◌else◌, ℤ}
use Rattle.std.specs.Prelude.{pos, neg_ℤ, ◌+ℤ◌, ◌-ℤ◌, ◌*ℤ◌, ◌≤ℤ◌, ◌<ℤ◌, int_lt}
use Rattle.jiff_core.specs.{Calendar.{IsDate, days_in_month}, Time.IsTime}
use Rattle.iso_time.specs.{declared.instant.InstantFault.InstantFault, declared.instant.InstantFault.TheVariants.{Shape, Date, Range}}
use Rattle.iso_time.specs.{declared.instant.Offset.Offset, declared.instant.Fields.Fields, Digits.{AreDigits, number_of, fraction_nanos}}
use Rattle.iso_time.specs.Digits.{optional_text, fraction_text, ◌>>=◌, value_at_end, before_mark, after_mark, digits_at, fraction_at}
use Rattle.iso_time.specs.Civil.{midnight}

-- what follows the time of day
pub data Zone : Type 0 where
  unstated : Zone
  utc : Zone
  shifted : (behind colon : Bool) (hours minutes : List ℕ) → Zone

-- the digits of a written timestamp
pub record InstantParts : Type 0 where
  pub year : List ℕ
  pub month : List ℕ
  pub day : List ℕ
  pub hour : List ℕ
  pub minute : List ℕ
  pub second : List ℕ
  pub fraction : Option (List ℕ)
  pub zone : Zone

-- ---- how a text is put together

abbrev pub zone_text : Zone → List ℕ
zone_text unstated = []
zone_text utc = 90 ∷ []
zone_text (shifted behind colon hours minutes) =
    (if behind then 45 else 43) ∷ hours ++ (if colon then 58 ∷ [] else []) ++ minutes

abbrev pub parts_text : InstantParts → List ℕ
parts_text p =
    p.year ++ 45 ∷ p.month ++ 45 ∷ p.day ++ 84 ∷ p.hour ++ 58 ∷ p.minute ++ 58 ∷ p.second
    ++ optional_text fraction_text p.fraction ++ zone_text p.zone

-- `width` digits
abbrev pub IsField : ℕ → List ℕ → Type 0
IsField width digits = AreDigits width width digits

abbrev pub IsZone : Zone → Type 0
IsZone unstated = Unit {0}
IsZone utc = Unit {0}
IsZone (shifted behind colon hours minutes) = IsField 2 hours × IsField 2 minutes

pub record IsInstant (p : InstantParts) : Type 0 where
  pub year : IsField 4 p.year
  pub month : IsField 2 p.month
  pub day : IsField 2 p.day
  pub hour : IsField 2 p.hour
  pub minute : IsField 2 p.minute
  pub second : IsField 2 p.second
  pub fraction : IfSome p.fraction (AreDigits 1 30)
  pub zone : IsZone p.zone

-- the text is written with these parts
pub record IsInstantText (text : List ℕ) (p : InstantParts) : Type 0 where
  pub parts : IsInstant p
  pub spelled : text ≡ parts_text p

-- ---- what it denotes

abbrev pub offset_of : Zone → Offset
offset_of unstated = record { behind = false; hours = 0; minutes = 0 }
offset_of utc = record { behind = false; hours = 0; minutes = 0 }
offset_of (shifted behind colon hours minutes) =
    record { behind = behind; hours = number_of hours; minutes = number_of minutes }

-- the numbers that the parts write
abbrev pub fields_of : InstantParts → Fields
fields_of p = record {
  year = number_of p.year;
  month = number_of p.month;
  day = number_of p.day;
  hour = number_of p.hour;
  minute = number_of p.minute;
  second = number_of p.second;
  nanos = unwrap_or (option_map fraction_nanos p.fraction) 0;
  offset = offset_of p.zone;
}

-- each number fits its digits
pub record AreShort (f : Fields) : Type 0 where
  pub year : f.year < 10_000
  pub month : f.month < 100
  pub day : f.day < 100
  pub hour : f.hour < 100
  pub minute : f.minute < 100
  pub second : f.second < 100
  pub nanos : f.nanos < 10 ^ 9

-- the date and the time of day exist
abbrev pub IsCivil : Fields → Type 0
IsCivil f =
    IsDate (pos f.year) (pos f.month) (pos f.day)
    × IsTime (pos f.hour) (pos f.minute) (pos f.second) (pos f.nanos)

-- at most 14 hours and 59 minutes
abbrev pub IsOffset : Offset → Type 0
IsOffset o = (o.hours ≤ 14) × (o.minutes ≤ 59)

-- nanoseconds since the local 1970-01-01T00:00:00
abbrev pub civil_nanos : Fields → ℤ
civil_nanos f =
    midnight f.year f.month f.day
    +ℤ pos ((f.hour * 3600 + f.minute * 60 + f.second) * 10 ^ 9 + f.nanos)

-- the seconds that the offset is ahead of UTC
abbrev pub seconds_ahead : Offset → ℤ
seconds_ahead o =
    let seconds = pos (o.hours * 3600 + o.minutes * 60) in
    if o.behind then neg_ℤ seconds else seconds

-- nanoseconds since 1970-01-01T00:00:00Z: those of the local time, less those that it is ahead
abbrev pub instant_nanos : Fields → ℤ
instant_nanos f = civil_nanos f -ℤ seconds_ahead f.offset *ℤ pos (10 ^ 9)

-- from 1583-01-01T00:00:00Z up to, not including, 3000-01-01T00:00:00Z
abbrev pub IsReadable : ℤ → Type 0
IsReadable nanos =
    (neg_ℤ (pos 12_212_553_600_000_000_000) ≤ℤ nanos) × (nanos <ℤ pos 32_503_680_000_000_000_000)

-- from 1000-01-01T00:00:00Z up to, not including, 10000-01-01T00:00:00Z
abbrev pub IsWritable : ℤ → Type 0
IsWritable nanos =
    (neg_ℤ (pos 30_610_224_000_000_000_000) ≤ℤ nanos) × (nanos <ℤ pos 253_402_300_800_000_000_000)

-- the date, the time and the offset exist
abbrev pub Exists : Fields → Type 0
Exists f = IsCivil f × IsOffset f.offset

-- What a text denotes, and the one error of every other text.
abbrev pub DenotesInstant : List ℕ → Result ℤ InstantFault → Type 0
DenotesInstant text (Ok nanos) =
    (p : InstantParts) × IsInstantText text p × Exists (fields_of p) × (instant_nanos (fields_of p) ≡ nanos) × IsReadable nanos
DenotesInstant text (Err Shape) = (p : InstantParts) → ¬ (IsInstantText text p)
DenotesInstant text (Err Date) = (p : InstantParts) × IsInstantText text p × (¬ (Exists (fields_of p)))
DenotesInstant text (Err Range) =
    (p : InstantParts) × IsInstantText text p × Exists (fields_of p) × (¬ (IsReadable (instant_nanos (fields_of p))))

-- ---- the parts of a text, read from its start

-- whether the text begins with a `:`, and what follows it
abbrev pub colon_or_text : List ℕ → Option (List ℕ) → Bool × List ℕ
colon_or_text text None = (false, text)
colon_or_text text (Some rest) = (true, rest)

abbrev pub colon_at : List ℕ → Bool × List ℕ
colon_at text = colon_or_text text (after_mark 58 text)

-- `hh:mm` or `hhmm`, where the whole text is of that form
unfoldable pub shift_of : Bool → List ℕ → Option Zone
shift_of behind text = do
  hours ← digits_at 2 text
  minutes ← digits_at 2 (colon_at hours.1).1
  value_at_end (shifted behind (colon_at hours.1).0 hours.0 minutes.0) minutes.1

-- what follows the time, where the whole text is of that form
unfoldable pub zone_of : List ℕ → Option Zone
zone_of [] = Some unstated
zone_of (c ∷ rest) =
    if c == 90 then value_at_end utc rest
    else (if c == 43 then shift_of false rest else (if c == 45 then shift_of true rest else None))

-- the parts of a timestamp's text
unfoldable pub parts_of : List ℕ → Option InstantParts
parts_of text = do
  year ← before_mark 45 (digits_at 4 text)
  month ← before_mark 45 (digits_at 2 year.1)
  day ← before_mark 84 (digits_at 2 month.1)
  hour ← before_mark 58 (digits_at 2 day.1)
  minute ← before_mark 58 (digits_at 2 hour.1)
  second ← digits_at 2 minute.1
  zone ← zone_of (fraction_at second.1).1
  Some (record {
    year = year.0;
    month = month.0;
    day = day.0;
    hour = hour.0;
    minute = minute.0;
    second = second.0;
    fraction = (fraction_at second.1).0;
    zone = zone;
  })

-- the same as `IsCivil`, as a test
abbrev pub is_civil : Fields → Bool
is_civil f =
    nat_le 1 f.month && nat_le f.month 12 && nat_le 1 f.day
    && nat_le f.day (days_in_month (pos f.year) f.month)
    && nat_lt f.hour 24 && nat_lt f.minute 60 && nat_lt f.second 60

-- the same as `IsOffset`
abbrev pub is_offset : Offset → Bool
is_offset o = nat_le o.hours 14 && nat_le o.minutes 59

-- the same as `IsReadable`
abbrev pub is_readable : ℤ → Bool
is_readable nanos =
    not (int_lt nanos (neg_ℤ (pos 12_212_553_600_000_000_000)))
    && int_lt nanos (pos 32_503_680_000_000_000_000)

abbrev pub instant_or_fault : ℤ → Result ℤ InstantFault
instant_or_fault nanos = if is_readable nanos then Ok nanos else Err Range

-- what the numbers denote: what doesn't exist is rejected first, then what is out of range
abbrev pub answer_of : Fields → Result ℤ InstantFault
answer_of f =
    if is_civil f && is_offset f.offset then instant_or_fault (instant_nanos f) else Err Date

-- the timestamp that a text denotes, or why it denotes none
unfoldable pub instant_of : List ℕ → Result ℤ InstantFault
instant_of text = option_map_or (λ p. answer_of (fields_of p)) (parts_of text) (Err Shape)
