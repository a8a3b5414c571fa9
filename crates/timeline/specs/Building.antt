-- The segments that were collected so far.
use Rattle.std.specs.Prelude.{◌≡◌, ℕ, ◌+◌, ◌<◌, ◌≤◌, ◌^◌, ◌==◌, pos, ◌+ℤ◌, ◌-ℤ◌, Bool, List, [], ◌∷◌, ◌++◌, map, All, IfSome, Option, Some}
use Rattle.std.specs.Prelude.{None, if◌then◌else◌}
use Rattle.exact_time.specs.Time.{Time}
use Rattle.timeline.specs.{declared.fault.TimeFault.TimeFault, declared.fault.TimeFault.TheVariants.{Range, Step}}
use Rattle.timeline.specs.{declared.builder.RunsBuilder.RunsBuilder, declared.limits.Limits.Limits, Expansions.{Extent, Member, Closed}}
use Rattle.timeline.specs.{Limits.breaks_limits, Faults.{is_apart, refusal, segment_fault}, RunSegments.{TimedRun, AreLaid, all_extents}}
use Rattle.timeline.specs.{RunTables.runs_at, Kept.{FollowsOn, endless_members}, Ratios.natural}

abbrev pub runs_in : RunsBuilder → List TimedRun
runs_in l = runs_at l.limits.ticks l.limits.origin l.table

abbrev pub members_so_far : RunsBuilder → List Member
members_so_far l = map Closed (all_extents (runs_in l)) ++ endless_members l.endless

-- the invariant of the segments of a `Runs`, except for their order
pub record IsLaidOut (l : RunsBuilder) : Type 0 where
  pub laid : AreLaid 0 (runs_in l) l.total
  pub follows : FollowsOn l.limits.ticks l.limits.origin l.total l.endless
  pub countable : l.total ≤ 2 ^ 63
  pub timed : All (λ x. natural (x.start.ticks +ℤ pos l.limits.origin) < 2 ^ 64) (all_extents (runs_in l))

-- the segments, each of which lasts at least a tick, end by the media time at which the last one ends
pub record IsInTime (l : RunsBuilder) : Type 0 where
  pub laid : IsLaidOut l
  pub room : l.total ≤ l.former
  pub near : l.former < 2 ^ 63

-- a media time, relative to the Period's start
abbrev pub placed_in : Limits → ℕ → Time
placed_in limits t = record { ticks = pos t -ℤ pos limits.origin; scale = limits.ticks }

abbrev pub extent_in : Limits → ℕ → ℕ → Extent
extent_in limits start step = record { start = placed_in limits start; end = placed_in limits (start + step) }

abbrev pub breaks_in : Limits → Extent → Bool
breaks_in limits x = breaks_limits limits.ticks limits.origin x

-- where the last segment ends
abbrev pub former_end : RunsBuilder → Option Time
former_end l = if l.total == 0 then None else Some (placed_in l.limits l.former)

-- the fault of one segment
abbrev pub fault_of : Limits → Option Time → Extent → Option TimeFault
fault_of limits former x = if breaks_in limits x then Some Range else (if is_apart former x then Some Step else None)

-- the members have no fault, and what follows is checked from their last end on
abbrev pub PassesOn : RunsBuilder → List Member → RunsBuilder → Type 0
PassesOn old members new = (later : List Member) →
    segment_fault (breaks_in old.limits) (former_end old) (members ++ later) ≡ segment_fault (breaks_in new.limits) (former_end new) later

-- the first segment concerned is one of the members, whatever follows
abbrev pub IsFaultOf : RunsBuilder → List Member → TimeFault → Type 0
IsFaultOf old members fault = IfSome (refusal fault) (λ f. (later : List Member) →
    segment_fault (breaks_in old.limits) (former_end old) (members ++ later) ≡ Some f)

-- the members were added after the others, and have no fault
pub record AreAdded (old : RunsBuilder) (members : List Member) (new : RunsBuilder) : Type 0 where
  pub added : members_so_far new ≡ members_so_far old ++ members
  pub passed : PassesOn old members new

-- a run that ends with the segment is after the others
pub record IsLastWith (old : RunsBuilder) (x : Extent) (run : TimedRun) (new : RunsBuilder) : Type 0 where
  pub laid : AreLaid 0 (runs_in new ++ run ∷ []) (old.total + 1)
  pub extents : all_extents (runs_in new ++ run ∷ []) ≡ all_extents (runs_in old) ++ x ∷ []
  pub total_is : new.total ≡ old.total
  pub limits_are : new.limits ≡ old.limits
  pub endless_is : new.endless ≡ old.endless
