-- When Periods begin and end: ISO/IEC 23009-1, 5.3.2.1.
use Rattle.std.specs.Prelude.{ℕ, ◌+◌, ◌^◌, ◌||◌, nat_le, Bool, false, List, [], ◌∷◌, ◌++◌, map, codes, if◌then◌else◌, Option, Some, None}
use Rattle.std.specs.Prelude.{Result, Ok, Err, unwrap_or}
use Rattle.bridge_io.specs.declared.place.Place.{Place}
use Rattle.mpd_tree.specs.Trees.{Head, Element}
use Rattle.mpd_profile.specs.{declared.fault.RuleFault.RuleFault, declared.fault.RuleFault.TheVariants.{NoStart, PeriodOrder}}
use Rattle.mpd_profile.specs.Heads.{is_dynamic, or_else}
use Rattle.mpd_rules.specs.{declared.periods.Bounds.Bounds, Kept.periods_of, Readings.duration_named}

-- ---- the attributes of Periods, in nanoseconds

abbrev pub start_said : Element → Option ℕ
start_said period = duration_named (codes "start") period.head

abbrev pub sum_of : Option ℕ → Option ℕ → Option ℕ
sum_of (Some a) (Some b) = Some (a + b)
sum_of (Some a) None = None
sum_of None b = None

-- the end of a Period by its start and its `@duration`
abbrev pub end_said : (start : Option ℕ) → Element → Option ℕ
end_said start period = sum_of start (duration_named (codes "duration") period.head)

-- a Period with its start and its end; the last one may have no end
pub record Said : Type 0 where
  pub period : Element
  pub start : Option ℕ
  pub end : Option ℕ

-- A Period ends where the next one begins, by that one's `@start` or by its own `@duration`; the last one ends by its
-- `@duration`, otherwise with the MPD.
abbrev pub end_of : (total after : Option ℕ) → List Element → Option ℕ
end_of total after [] = or_else after total
end_of total after (next ∷ later) = or_else (start_said next) after

-- A Period begins at its `@start`, otherwise at `default`: the start of the previous one plus that one's `@duration`.
abbrev pub start_of : (default : Option ℕ) → Element → Option ℕ
start_of default period = or_else (start_said period) default

abbrev pub said_of : (total default : Option ℕ) → (period : Element) → (later : List Element) → Said
said_of total default period later = record {
  period = period;
  start = start_of default period;
  end = end_of total (end_said (start_of default period) period) later;
}

abbrev pub bounds_from : (total default : Option ℕ) → List Element → List Said
bounds_from total default [] = []
bounds_from total default (period ∷ later) =
    said_of total default period later ∷ bounds_from total (end_said (start_of default period) period) later

-- the default start of the first Period: 0 in a static MPD
abbrev pub first_start : Head → Option ℕ
first_start mpd = if is_dynamic mpd then None else Some 0

abbrev pub total_of : Head → Option ℕ
total_of mpd = duration_named (codes "mediaPresentationDuration") mpd

-- the bounds of all Periods
abbrev pub period_bounds : Element → List Said
period_bounds mpd = bounds_from (total_of mpd.head) (first_start mpd.head) (periods_of mpd)

abbrev pub bounds_of : Said → Bounds
bounds_of said = record { start = unwrap_or said.start 0; end = said.end }

-- a Period that has a start, with its bounds
pub record Timed : Type 0 where
  pub period : Element
  pub bounds : Bounds

abbrev pub timed_of : Said → Timed
timed_of said = record { period = said.period; bounds = bounds_of said }

abbrev pub timed_periods : Element → List Timed
timed_periods mpd = map timed_of (period_bounds mpd)

-- ---- errors

-- a time that doesn't fit, in nanoseconds
abbrev pub is_late : ℕ → Bool
is_late nanos = nat_le (10 ^ 19) nanos

abbrev pub is_bad_end : ℕ → Option ℕ → Bool
is_bad_end start None = false
is_bad_end start (Some end) = nat_le end start || is_late end

-- it doesn't begin after the one before it
abbrev pub is_not_after : Option ℕ → ℕ → Bool
is_not_after None start = false
is_not_after (Some former) start = nat_le start former

abbrev pub start_told : Place → (former start end : Option ℕ) → List RuleFault
start_told place former None end = NoStart place ∷ []
start_told place former (Some start) end =
    if is_late start || (is_not_after former start || is_bad_end start end) then PeriodOrder place ∷ [] else []

abbrev pub said_told : (former : Option ℕ) → Said → List RuleFault
said_told former said = start_told said.period.head.place former said.start said.end

abbrev pub order_told : (former : Option ℕ) → List Said → List RuleFault
order_told former [] = []
order_told former (said ∷ more) = said_told former said ++ order_told said.start more

unfoldable pub period_refusals : Element → List RuleFault
period_refusals mpd = order_told None (period_bounds mpd)

-- ---- one Period after the other

-- the start of one, which has to begin after the previous one
abbrev pub judged_start : Place → (former start : Option ℕ) → Result ℕ RuleFault
judged_start place former None = Err (NoStart place)
judged_start place former (Some start) = if is_late start || is_not_after former start then Err (PeriodOrder place) else Ok start

-- the end of one, which has to end after its own start
abbrev pub judged_end : Place → ℕ → Option ℕ → Result (Option ℕ) RuleFault
judged_end place start end = if is_bad_end start end then Err (PeriodOrder place) else Ok end
