-- Segments with a duration above 0 and at most 1,000,000 s, close to one another.
use Rattle.std.specs.Prelude.{◌≡◌, ◌<ℤ◌, List, [], ◌∷◌, map, None}
use Rattle.exact_time.specs.{Time.{IsTime, IsBefore, IsAtMost, difference, seconds}, Rounding.{IsRising, AreNear}}
use Rattle.timeline.specs.{Expansions.{Extent, Timing, Member, Closed, Short, Endless}, Faults.segment_fault, Limits.too_long}

-- a segment with a duration above 0
pub record Lasts (x : Extent) : Type 0 where
  pub start_is : IsTime x.start
  pub end_is : IsTime x.end
  pub ends : IsBefore x.start x.end

-- and with a start and an end in ticks of one scale
pub record LastsTicks (x : Extent) : Type 0 where
  pub one_scale : x.start.scale ≡ x.end.scale
  pub end_is : IsTime x.end
  pub rises : x.start.ticks <ℤ x.end.ticks

-- each has a duration above 0, and nothing follows those that continue to an open end
abbrev pub AreLasting : List Member → Type 0
AreLasting [] = Unit {0}
AreLasting (Closed x ∷ later) = Lasts x × AreLasting later
AreLasting (Short x ∷ later) = AreLasting later
AreLasting (Endless x ∷ later) = LastsTicks x × (later ≡ [])

-- each ends at most 10^11 s after the Period's start, except those that continue to an open end
abbrev pub EndInTime : List Member → Type 0
EndInTime [] = Unit {0}
EndInTime (Closed x ∷ later) = IsAtMost x.end (seconds 100000000000) × EndInTime later
EndInTime (Short x ∷ later) = EndInTime later
EndInTime (Endless x ∷ later) = EndInTime later

-- a listed segment begins before it ends, lasts at most 1,000,000 s, and ends at most 10^11 s after the Period's start
pub record IsWithinLimits (x : Timing) : Type 0 where
  pub start_is : IsTime x.start
  pub end_is : IsTime x.end
  pub begins : IsBefore x.start x.end
  pub lasts : IsAtMost (difference x.end x.start) (seconds 1000000)
  pub near : IsAtMost x.end (seconds 100000000000)

-- none is too long or apart from the one before it
abbrev pub IsSteady : List Member → Type 0
IsSteady members = segment_fault too_long None members ≡ None

-- the invariant of the members of a `Runs`
pub record AreKept (members : List Member) : Type 0 where
  pub lasting : AreLasting members
  pub steady : IsSteady members
  pub in_time : EndInTime members

-- From the first segment's start on no end is before the one before it, or more than 2,000,000 s after it. So the ends are
-- valid arguments for a `Rounder` that begins at that start.
abbrev pub ArePaced : List Timing → Type 0
ArePaced [] = Unit {0}
ArePaced (x ∷ xs) = IsRising x.start (map (λ y. y.end) (x ∷ xs)) × AreNear x.start (map (λ y. y.end) (x ∷ xs))
