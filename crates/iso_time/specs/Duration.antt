-- Durations as XML Schema part 2, 3.2.6 writes them: `PnYnMnDTnHnMnS`.
use Rattle.std.specs.{Option.option_map_or, Prelude.{◌≡◌, ◌≢◌, ℕ, ◌+◌, ◌*◌, ◌/◌, ◌%◌, ◌^◌, ◌<◌, ◌≤◌, ◌==◌, ◌&&◌, ◌||◌, nat_lt, Bool, true}}
use Rattle.std.specs.Prelude.{false, IsTrue, List, [], ◌∷◌, ◌++◌, Option, option_map, unwrap_or, is_some, IfSome, Result, Ok, Err}
use Rattle.std.specs.{Prelude.if◌then◌else◌, Fmt.decimal}
use Rattle.iso_time.specs.{declared.duration.DurationFault.DurationFault, declared.duration.DurationFault.TheVariants.{Shape, Calendar}}
use Rattle.iso_time.specs.{declared.duration.DurationFault.TheVariants.Range, declared.duration.Extent.Extent, Digits.AreDigits}
use Rattle.iso_time.specs.Digits.{number_of, fraction_nanos, padded_digits, optional_text, fraction_text, ◌>>=◌, value_if, value_at_end}
use Rattle.iso_time.specs.Digits.{optional_rest, found_or_text, before_mark, after_mark, leading_digits, fraction_at}

-- the digits of the seconds, and those after their point
pub record SecondsParts : Type 0 where
  pub whole : List ℕ
  pub fraction : Option (List ℕ)

-- the digits of the parts after `T`
pub record ClockParts : Type 0 where
  pub hours : Option (List ℕ)
  pub minutes : Option (List ℕ)
  pub seconds : Option SecondsParts

-- the digits of a written duration
pub record DurationParts : Type 0 where
  pub years : Option (List ℕ)
  pub months : Option (List ℕ)
  pub days : Option (List ℕ)
  pub clock : Option ClockParts

-- ---- how a text is put together

-- a number and its letter
abbrev pub part_text : ℕ → List ℕ → List ℕ
part_text letter digits = digits ++ letter ∷ []

abbrev pub seconds_text : SecondsParts → List ℕ
seconds_text s = s.whole ++ optional_text fraction_text s.fraction ++ 83 ∷ []

abbrev pub clock_text : ClockParts → List ℕ
clock_text c =
    84 ∷ optional_text (part_text 72) c.hours ++ optional_text (part_text 77) c.minutes
    ++ optional_text seconds_text c.seconds

abbrev pub parts_text : DurationParts → List ℕ
parts_text p =
    80 ∷ optional_text (part_text 89) p.years ++ optional_text (part_text 77) p.months
    ++ optional_text (part_text 68) p.days ++ optional_text clock_text p.clock

-- a number has 1 to 20 digits
abbrev pub IsNumber : List ℕ → Type 0
IsNumber digits = AreDigits 1 20 digits

-- and a fraction 1 to 30
abbrev pub IsFraction : List ℕ → Type 0
IsFraction digits = AreDigits 1 30 digits

pub record IsSeconds (s : SecondsParts) : Type 0 where
  pub whole : IsNumber s.whole
  pub fraction : IfSome s.fraction IsFraction

-- there is a part after `T`
abbrev pub has_clock : ClockParts → Bool
has_clock c = is_some c.hours || is_some c.minutes || is_some c.seconds

pub record IsClock (c : ClockParts) : Type 0 where
  pub hours : IfSome c.hours IsNumber
  pub minutes : IfSome c.minutes IsNumber
  pub seconds : IfSome c.seconds IsSeconds
  pub some : IsTrue (has_clock c)

-- there is a part after `P`
abbrev pub has_part : DurationParts → Bool
has_part p = is_some p.years || is_some p.months || is_some p.days || is_some p.clock

pub record IsDuration (p : DurationParts) : Type 0 where
  pub years : IfSome p.years IsNumber
  pub months : IfSome p.months IsNumber
  pub days : IfSome p.days IsNumber
  pub clock : IfSome p.clock IsClock
  pub some : IsTrue (has_part p)

-- the text is written with these parts
pub record IsDurationText (text : List ℕ) (p : DurationParts) : Type 0 where
  pub parts : IsDuration p
  pub spelled : text ≡ parts_text p

-- ---- what it denotes

-- a missing part counts as 0
abbrev pub count_of : Option (List ℕ) → ℕ
count_of digits = unwrap_or (option_map number_of digits) 0

abbrev pub seconds_nanos : SecondsParts → ℕ
seconds_nanos s = number_of s.whole * 10 ^ 9 + unwrap_or (option_map fraction_nanos s.fraction) 0

abbrev pub clock_nanos : ClockParts → ℕ
clock_nanos c =
    (count_of c.hours * 3600 + count_of c.minutes * 60) * 10 ^ 9
    + unwrap_or (option_map seconds_nanos c.seconds) 0

-- the months of the years and months
abbrev pub months_of : DurationParts → ℕ
months_of p = count_of p.years * 12 + count_of p.months

-- the nanoseconds of the rest, where a day has 86,400 seconds
abbrev pub nanos_of : DurationParts → ℕ
nanos_of p =
    count_of p.days * 86_400 * 10 ^ 9 + unwrap_or (option_map clock_nanos p.clock) 0

abbrev pub extent_of : DurationParts → Extent
extent_of p = record { months = months_of p; nanos = nanos_of p }

-- What a text denotes, and the one error of every other text.
abbrev pub DenotesDuration : List ℕ → Result ℕ DurationFault → Type 0
DenotesDuration text (Ok nanos) =
    (p : DurationParts) × IsDurationText text p × (months_of p ≡ 0) × (nanos_of p ≡ nanos) × (nanos < 10 ^ 19)
DenotesDuration text (Err Shape) = (p : DurationParts) → ¬ (IsDurationText text p)
DenotesDuration text (Err Calendar) = (p : DurationParts) × IsDurationText text p × (months_of p ≢ 0)
DenotesDuration text (Err Range) =
    (p : DurationParts) × IsDurationText text p × (months_of p ≡ 0) × (10 ^ 19 ≤ nanos_of p)

-- ---- the parts of a text, read from its start

-- a number with its letter, where the text begins with those
unfoldable pub part_at : ℕ → List ℕ → Option (List ℕ) × List ℕ
part_at letter text = found_or_text (before_mark letter (leading_digits 1 20 text)) text

-- the seconds, where the whole text is of that form
unfoldable pub seconds_of : List ℕ → Option SecondsParts
seconds_of text = do
  whole ← leading_digits 1 20 text
  rest ← after_mark 83 (fraction_at whole.1).1
  value_at_end (record { whole = whole.0; fraction = (fraction_at whole.1).0 }) rest

-- `T` and the clock's parts, where the whole text is of that form
unfoldable pub clock_of : List ℕ → Option ClockParts
clock_of text = do
  rest ← after_mark 84 text
  let hours = part_at 72 rest
  let minutes = part_at 77 hours.1
  seconds ← optional_rest seconds_of minutes.1
  value_if has_clock (record { hours = hours.0; minutes = minutes.0; seconds = seconds })

-- the parts of a duration's text
unfoldable pub parts_of : List ℕ → Option DurationParts
parts_of text = do
  rest ← after_mark 80 text
  let years = part_at 89 rest
  let months = part_at 77 years.1
  let days = part_at 68 months.1
  clock ← optional_rest clock_of days.1
  value_if has_part (record { years = years.0; months = months.0; days = days.0; clock = clock })

-- months are rejected first, then what is out of range
abbrev pub nanos_or_fault : Extent → Result ℕ DurationFault
nanos_or_fault e =
    if e.months == 0 then (if nat_lt e.nanos (10 ^ 19) then Ok e.nanos else Err Range) else Err Calendar

abbrev pub answer_of : DurationParts → Result ℕ DurationFault
answer_of p = nanos_or_fault (extent_of p)

-- the nanoseconds that a text denotes, or why it denotes none
unfoldable pub duration_of : List ℕ → Result ℕ DurationFault
duration_of text = option_map_or answer_of (parts_of text) (Err Shape)

-- ---- the written text

abbrev pub is_empty : List ℕ → Bool
is_empty [] = true
is_empty (d ∷ ds) = false

-- the digits up to the last that isn't 0
unfoldable pub without_zeros : List ℕ → List ℕ
without_zeros [] = []
without_zeros (d ∷ ds) = if (d == 48) && is_empty (without_zeros ds) then [] else d ∷ without_zeros ds

-- a decimal point and the fraction's nine digits without trailing zeros, or nothing for 0
abbrev pub nanos_text : ℕ → List ℕ
nanos_text nanos = if nanos == 0 then [] else 46 ∷ without_zeros (padded_digits 9 nanos)

-- `PT`, the whole seconds, the fraction and `S`
unfoldable pub duration_text : ℕ → List ℕ
duration_text nanos =
    80 ∷ 84 ∷ decimal (nanos / 10 ^ 9) ++ nanos_text (nanos % 10 ^ 9) ++ 83 ∷ []
