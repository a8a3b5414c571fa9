-- The segments of a duration while they are collected.
use Rattle.std.specs.Prelude.{◌≡◌, ℕ, ◌+◌, ◌*◌, pos, Bool, true, false, List, [], ◌∷◌, ◌++◌, map, IfSome, IsNone, Option, Some, None}
use Rattle.std.specs.List.{list_any}
use Rattle.exact_time.specs.Time.{in_units, nanoseconds}
use Rattle.timeline.specs.{declared.entry.End.End, declared.entry.End.TheVariants.At, declared.fault.TimeFault.TimeFault}
use Rattle.timeline.specs.{declared.fault.TimeFault.TheVariants.{Range, ListLength}, declared.builder.RunsBuilder.RunsBuilder}
use Rattle.timeline.specs.{declared.limits.Limits.Limits, Ratios.{earlier, steps_to_cover}, Expansions.{Extent, Member, Closed, repeated}}
use Rattle.timeline.specs.{Durations.expansion_of_names, Faults.{begins_late, extents_break, fault_if, is_too_many, members_by, or_fault}}
use Rattle.timeline.specs.{Faults.refusal, Building.{IsInTime, IsLaidOut, breaks_in, extent_in, members_so_far}, Limits.breaks_limits}

-- a number of segments from the Period's start on
abbrev pub row_of : Limits → ℕ → ℕ → List Extent
row_of l duration count = repeated count (extent_in l 0 duration)

-- nothing was collected yet, and times are relative to the Period's start
pub record IsFresh (l : RunsBuilder) : Type 0 where
  pub laid : IsInTime l
  pub closed : IsNone l.endless
  pub none : members_so_far l ≡ []
  pub total : l.total ≡ 0
  pub former : l.former ≡ 0
  pub origin : l.limits.origin ≡ 0

-- `count` whole segments were collected, and none breaks the limits
pub record IsRow (limits : Limits) (duration count : ℕ) (l : RunsBuilder) : Type 0 where
  pub laid : IsInTime l
  pub closed : IsNone l.endless
  pub limits_are : l.limits ≡ limits
  pub former : l.former ≡ count * duration
  pub members : members_so_far l ≡ map Closed (row_of limits duration count)
  pub kept : list_any (breaks_in limits) (row_of limits duration count) ≡ false

-- the fault is `Range`, where some segment breaks the limits
abbrev pub IsRange : Bool → TimeFault → Type 0
IsRange broken fault = IfSome (refusal fault) (λ f. (f ≡ Range) × (broken ≡ true))

-- a segment from a media time on that ends at the Period's end, where that is earlier
abbrev pub last_extent : ℕ → ℕ → ℕ → ℕ → Extent
last_extent ticks length start duration = record {
  start = in_units ticks start;
  end = earlier (in_units ticks (start + duration)) (nanoseconds (pos length));
}

-- one more segment was collected, which doesn't break the limits
pub record IsLast (old : RunsBuilder) (x : Extent) (new : RunsBuilder) : Type 0 where
  pub laid : IsLaidOut new
  pub limits_are : new.limits ≡ old.limits
  pub members : members_so_far new ≡ members_so_far old ++ Closed x ∷ []
  pub kept : breaks_in old.limits x ≡ false

-- `Range`, or else more names than segments
abbrev pub cut_fault : ℕ → ℕ → ℕ → ℕ → Option TimeFault
cut_fault ticks length duration count =
    or_fault (fault_if (extents_break (breaks_limits ticks 0) (expansion_of_names ticks (At length) duration count)) Range)
    (fault_if (begins_late ticks (At length) duration count) ListLength)

-- how many segments there are up to the Period's end
abbrev pub count_until : ℕ → ℕ → ℕ → Option ℕ → ℕ
count_until ticks length duration None = steps_to_cover (nanoseconds (pos length)) (in_units ticks duration)
count_until ticks length duration (Some count) = count

abbrev pub counted_fault : ℕ → End → ℕ → Option ℕ → Option TimeFault
counted_fault ticks end duration names =
    or_fault (fault_if (extents_break (breaks_limits ticks 0) (members_by ticks end duration names)) Range)
    (fault_if (is_too_many ticks end duration names) ListLength)

-- the members were collected, and have no fault
pub record AreCounted (ticks : ℕ) (members : List Member) (fault : Option TimeFault) (l : RunsBuilder) : Type 0 where
  pub scale : l.limits.ticks ≡ ticks
  pub origin : l.limits.origin ≡ 0
  pub laid : IsLaidOut l
  pub members_are : members_so_far l ≡ members
  pub judged : fault ≡ None

abbrev pub IsCountedFault : Option TimeFault → TimeFault → Type 0
IsCountedFault meant fault = IfSome (refusal fault) (λ f. meant ≡ Some f)
