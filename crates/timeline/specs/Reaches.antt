-- How far the segments of an S continue, as the code computes it.
use Rattle.std.specs.Prelude.{◌≡◌, ℕ, ◌+◌, ◌-◌, ◌*◌, ◌<◌, ◌≤◌, ◌==◌, ◌⊎◌, Bool, false, List, [], ◌∷◌, ◌++◌, map, IfSome, IsNone, Some}
use Rattle.std.specs.{Prelude.{None, unwrap_or}, List.list_any}
use Rattle.exact_time.specs.Floor.{IsCeiling}
use Rattle.timeline.specs.{declared.entry.Scale.Scale, declared.entry.End.End, declared.fault.TimeFault.TimeFault}
use Rattle.timeline.specs.{declared.builder.RunsBuilder.RunsBuilder, declared.limits.Limits.Limits, declared.timelines.Reach.Reach as Found}
use Rattle.timeline.specs.declared.timelines.Reach.TheVariants.{Count, Open, Nowhere}
use Rattle.timeline.specs.{Expansions.{Extent, Member, Closed, Short, repeated}, Faults.{refusal, segment_fault}}
use Rattle.timeline.specs.Building.{IsLaidOut, IsInTime, breaks_in, former_end, members_so_far}
use Rattle.timeline.specs.Timelines.{Reach, Unending, count_of, extent_from, members_of, members_from, reach_of}
use Rattle.mpd_entries.specs.declared.entry.SEntry.{SEntry}

-- as many segments from a start as it takes to reach a bound
abbrev pub IsUpTo : ℕ → ℕ → ℕ → Found → Type 0
IsUpTo bound start step (Count count) = (start < bound) × IsCeiling (bound - start) step count
IsUpTo bound start step Open = ⊥
IsUpTo bound start step Nowhere = bound ≤ start

-- the computed reach is the defined one
abbrev pub IsReach : Reach → Extent → Found → Type 0
IsReach meant x (Count count) = (0 < count) × (count ≡ count_of meant x) × (members_of meant x ≡ map Closed (repeated count x))
IsReach meant x Open = meant ≡ Unending
IsReach meant x Nowhere = members_of meant x ≡ Short x ∷ []

abbrev pub start_of : ℕ → SEntry → ℕ
start_of former s = unwrap_or s.t former

-- the first segment of an S
abbrev pub first_of : Scale → ℕ → SEntry → Extent
first_of scale former s = extent_from scale (start_of former s) s.d

-- the segments of an S, followed by others
abbrev pub members_of_entry : Scale → End → ℕ → SEntry → List SEntry → List Member
members_of_entry scale end former s later = members_of (reach_of scale end s.r later) (first_of scale former s)

-- where the next S begins if it has no start of its own
abbrev pub next_of : Scale → End → ℕ → SEntry → List SEntry → ℕ
next_of scale end former s later = start_of former s + count_of (reach_of scale end s.r later) (first_of scale former s) * s.d

-- the limits of segments on a scale
pub record AreLimitsOf (scale : Scale) (limits : Limits) : Type 0 where
  pub ticks : limits.ticks ≡ scale.ticks
  pub origin : limits.origin ≡ scale.offset

-- S elements may follow only where the builder isn't endless
abbrev pub GoesOn : RunsBuilder → List SEntry → Type 0
GoesOn l later = (IsInTime l × IsNone l.endless) ⊎ (later ≡ [])

-- of all members, those of the first S elements were collected, and the others are checked from there on
pub record IsSoFar (scale : Scale) (end : End) (members : List Member) (l : RunsBuilder) (rest : List SEntry) : Type 0 where
  pub limits : AreLimitsOf scale l.limits
  pub laid : IsLaidOut l
  pub lasting : list_any (λ s. s.d == 0) rest ≡ false
  pub goes_on : GoesOn l rest
  pub members_are : members ≡ members_so_far l ++ members_from scale end l.former rest
  pub judged : segment_fault (breaks_in l.limits) None members
      ≡ segment_fault (breaks_in l.limits) (former_end l) (members_from scale end l.former rest)

-- the members were collected, and have no fault
pub record AreLaidOut (scale : Scale) (members : List Member) (l : RunsBuilder) : Type 0 where
  pub limits : AreLimitsOf scale l.limits
  pub laid : IsLaidOut l
  pub members_are : members_so_far l ≡ members
  pub judged : segment_fault (breaks_in l.limits) None members ≡ None

-- the first invalid member has this fault
abbrev pub IsTheirFault : (Extent → Bool) → List Member → TimeFault → Type 0
IsTheirFault breaks members fault = IfSome (refusal fault) (λ f. segment_fault breaks None members ≡ Some f)
