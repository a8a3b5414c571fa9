-- The durations of segments, by the decode times of their files.
use Rattle.std.specs.Prelude.{ℕ, zero, suc, ◌+◌, ◌*◌, ◌-◌, ◌/◌, ◌^◌, ◌<◌, max, sum, nat_lt, nat_le, ◌||◌, Bool, false, List, [], ◌∷◌}
use Rattle.std.specs.{Prelude.{length, take, drop, slice_get, if◌then◌else◌, Option, Some, None, Result, Ok, Err}, Int.div_ceil}
use Rattle.std.specs.Option.{option_map_or}
use Rattle.bridge_io.specs.Answer.{and_then, gathered}
use Rattle.exact_time.specs.{Floor.floor_in, Time.{IsAtMost, IsBefore, IsNotNegative, IsTime, Time, difference, in_units}}
use Rattle.segment_forms.specs.declared.form.Form.{Form, TheVariants.{Plain, Players}}
use Rattle.timeline.specs.Expansions.{Timing}
use Rattle.presentation.specs.{Counting.{sections_of, tracks_of}, Presented.{Presented, listed_at}}
use Rattle.fragment_times.specs.{declared.lasting.{Begun.Begun, Clock.Clock}, declared.period_start.PeriodStart.PeriodStart}
use Rattle.layer_faults.specs.declared.times.FileFault.TheVariants.{Order, Range as OutOfRange}
use Rattle.fragment_times.specs.{declared.fault.SegmentSpot.SegmentSpot, declared.fault.TimesFault.TimesFault}
use Rattle.fragment_times.specs.{declared.fault.TimesFault.TheVariants.{Segment, Range}, declared.times.SegmentTimes.SegmentTimes}
use Rattle.fragment_times.specs.{Origins.first_of, PeriodStarts.{offset_by, start_in, start_of}, Refusals.next_spot, Times.each}

-- ---- segment by segment

abbrev pub begun_at : SegmentSpot → (start : ℕ) → Begun
begun_at at start = record { at = at; start = start }

abbrev pub next_begun : Begun → (start : ℕ) → Begun
next_begun begun start = begun_at (next_spot begun.at) start

-- a segment lasts to the start of the next one, which has to be after its own, by at most 1,000,000 s
abbrev pub ticks_behind : (scale former : ℕ) → Begun → Result ℕ TimesFault
ticks_behind scale former begun = if nat_le begun.start former then Err (Segment begun.at Order)
    else (if nat_lt (1000000 * scale) (begun.start - former) then Err (Segment begun.at OutOfRange) else Ok (begun.start - former))

-- for players, a time more than 10^11 s after the Period's start
abbrev pub is_far : Form → (scale after : ℕ) → Bool
is_far Plain scale after = false
is_far Players scale after = nat_lt (100000000000 * scale) after

-- no segment can end then
abbrev pub is_late : Clock → (end : ℕ) → Bool
is_late clock end = nat_le (2 ^ 63) end || is_far clock.form clock.scale (end - clock.offset)

-- and the last one `last` ticks, where it ends below 2^63 and, for players, at most 10^11 s after the Period's start
abbrev pub last_ticks_of : Clock → (last : ℕ) → Begun → Result ℕ TimesFault
last_ticks_of clock last begun = if is_late clock (begun.start + last) then Err (Segment begun.at OutOfRange) else Ok last

-- the durations of a segment and of those after it, which begin at these times
abbrev pub ticks_from : Clock → (last : ℕ) → Begun → List ℕ → Result (List ℕ) TimesFault
ticks_from clock last begun [] = and_then (last_ticks_of clock last begun) (λ ticks. Ok (ticks ∷ []))
ticks_from clock last begun (start ∷ starts) =
    and_then (ticks_behind clock.scale begun.start (next_begun begun start)) (λ ticks.
    and_then (ticks_from clock last (next_begun begun start) starts) (λ later. Ok (ticks ∷ later)))

abbrev pub ticks_of : SegmentSpot → Clock → (last : ℕ) → List ℕ → Result (List ℕ) TimesFault
ticks_of at clock last [] = Ok []
ticks_of at clock last (start ∷ starts) = ticks_from clock last (begun_at at start) starts

-- ---- the last one of a section, by the presentation

abbrev pub last_behind : Option Timing → List Timing → Option Timing
last_behind former [] = former
last_behind former (x ∷ xs) = last_behind (Some x) xs

abbrev pub last_of : List Timing → Option Timing
last_of xs = last_behind None xs

abbrev pub lasting_of : Timing → Time
lasting_of x = difference x.end x.start

-- to the nearest whole number, halves up: in half ticks rounded down, and then half as many rounded up
abbrev pub nearest_in : (scale : ℕ) → Time → ℕ
nearest_in scale x = div_ceil (floor_in (2 * scale) x) 2

-- n units are the nearest whole number of them to a time, halves up: n - 1/2 units are at or before it, and n + 1/2 after it
pub record IsNearestIn (u : ℕ) (x : Time) (n : ℕ) : Type 0 where
  pub at_most : IsAtMost (in_units (2 * u) (2 * n - 1)) x
  pub before : IsBefore x (in_units (2 * u) (2 * n + 1))

abbrev pub NearestAreNear : Type 0
NearestAreNear = (u : ℕ) (x : Time) → IsTime x → IsNotNegative x → IsNearestIn u x (nearest_in u x)

-- rounded down, and for players to the nearest
abbrev pub rounded_in : Form → (scale : ℕ) → Time → ℕ
rounded_in Plain scale x = floor_in scale x
rounded_in Players scale x = nearest_in scale x

-- at least one
abbrev pub ticks_in : Form → (scale : ℕ) → Timing → ℕ
ticks_in form scale x = max (rounded_in form scale (lasting_of x)) 1

abbrev pub last_ticks : Form → (scale : ℕ) → Option Timing → ℕ
last_ticks form scale None = 1
last_ticks form scale (Some x) = ticks_in form scale x

-- a number of nanoseconds in ticks, to the nearest one, halves up, and at least one
abbrev pub nearest_ticks : (scale nanos : ℕ) → ℕ
nearest_ticks scale nanos = max (div_ceil (nanos * (2 * scale) / 10 ^ 9) 2) 1

-- ---- section by section, track by track

abbrev pub clock_of : Form → PeriodStart → SegmentTimes → Clock
clock_of form start times = record { form = form; scale = times.scale; offset = offset_by start times }

abbrev pub own_ticks : Form → PeriodStart → SegmentSpot → List Timing → SegmentTimes → Result (List ℕ) TimesFault
own_ticks form start at listed times =
    ticks_of at (clock_of form start times) (last_ticks form times.scale (last_of listed)) times.starts

-- an index without times has nothing
unfoldable pub ticks_at : Form → Presented → List SegmentTimes → (s t : ℕ) → Result (List ℕ) TimesFault
ticks_at form p times s t = option_map_or
    (own_ticks form (start_in form p times s) (record { section = s; track = t; segment = 0 }) (listed_at p s t))
    (slice_get times (s * length p.tracks + t)) (Ok [])

abbrev pub section_ticks : Form → Presented → List SegmentTimes → (s : ℕ) → Result (List (List ℕ)) TimesFault
section_ticks form p times s = each (ticks_at form p times s) (tracks_of p)

abbrev pub all_ticks : Form → Presented → List SegmentTimes → Result (List (List ℕ)) TimesFault
all_ticks form p times = gathered (section_ticks form p times) (sections_of p)

-- ---- Periods

-- when a track's last segment ends, in nanoseconds after the Period's start, rounded up
abbrev pub nanos_of : PeriodStart → SegmentTimes → (ticks : List ℕ) → ℕ
nanos_of start times ticks = div_ceil ((first_of times - offset_by start times + sum ticks) * 10 ^ 9) times.scale

-- when the last of some tracks does
abbrev pub longest_behind : PeriodStart → (former : ℕ) → List SegmentTimes → List (List ℕ) → ℕ
longest_behind start former [] rows = former
longest_behind start former (times ∷ others) [] = former
longest_behind start former (times ∷ others) (ticks ∷ rows) = longest_behind start (max former (nanos_of start times ticks)) others rows

abbrev pub longest : PeriodStart → List SegmentTimes → List (List ℕ) → ℕ
longest start times rows = longest_behind start 0 times rows

-- a section of these tracks
abbrev pub section_length : Form → List SegmentTimes → List (List ℕ) → ℕ
section_length form times rows = longest (start_of form times) times rows

-- `count` sections of `tracks` tracks each
abbrev pub lengths : Form → (tracks count : ℕ) → List SegmentTimes → List (List ℕ) → List ℕ
lengths form tracks zero times rows = []
lengths form tracks (suc n) times rows =
    section_length form (take tracks times) (take tracks rows) ∷ lengths form tracks n (drop tracks times) (drop tracks rows)

abbrev pub is_too_long : Form → Presented → List SegmentTimes → List (List ℕ) → Bool
is_too_long form p times rows = nat_le (10 ^ 19) (sum (lengths form (length p.tracks) (length p.sections) times rows))

abbrev pub unless_long : Bool → List (List ℕ) → Result (List (List ℕ)) TimesFault
unless_long long rows = if long then Err Range else Ok rows

-- the durations of all segments, or the first error
unfoldable pub durations_of : Form → Presented → List SegmentTimes → Result (List (List ℕ)) TimesFault
durations_of form p times = and_then (all_ticks form p times) (λ rows. unless_long (is_too_long form p times rows) rows)

-- all of them end below 2^63
abbrev pub IsShort : List ℕ → Type 0
IsShort ticks = sum ticks < 2 ^ 63
