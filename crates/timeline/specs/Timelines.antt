-- The segments of a SegmentTimeline: ISO/IEC 23009-1, 5.3.9.6.
use Rattle.std.specs.Prelude.{ℕ, ◌+◌, ◌*◌, ℤ, pos, negsuc, ◌-ℤ◌, List, [], ◌∷◌, ◌++◌, map, Option, Some, None, unwrap_or, if◌then◌else◌}
use Rattle.exact_time.specs.Time.{Time, difference, at_most, nanoseconds}
use Rattle.timeline.specs.{declared.entry.Scale.Scale, declared.entry.End.End, declared.entry.End.TheVariants.{At, Unbounded}}
use Rattle.timeline.specs.{Ratios.steps_to_cover, Expansions.{Extent, Member, Closed, Short, Endless, lasting, repeated}}
use Rattle.mpd_entries.specs.declared.entry.SEntry.{SEntry}

-- a media time, relative to the Period's start
abbrev pub placed : Scale → ℕ → Time
placed scale t = record { ticks = pos t -ℤ pos scale.offset; scale = scale.ticks }

abbrev pub extent_from : Scale → ℕ → ℕ → Extent
extent_from scale start d = record { start = placed scale start; end = placed scale (start + d) }

-- how far the segments of an S continue
pub data Reach : Type 0 where
  -- this many segments
  Counted : ℕ → Reach
  -- to a time
  UpTo : Time → Reach
  -- to an end that isn't known yet
  Unending : Reach
  -- to no time
  Nowhere : Reach

-- to the start of the next S, where that has one
abbrev pub reach_of_next : Scale → Option ℕ → Reach
reach_of_next scale None = Nowhere
reach_of_next scale (Some t) = UpTo (placed scale t)

-- to the Period's end
abbrev pub reach_of_end : End → Reach
reach_of_end (At length) = UpTo (nanoseconds (pos length))
reach_of_end Unbounded = Unending

-- A non-negative `@r` counts the segments after the first one. A negative one continues to the start of the next S, or in
-- the last S to the Period's end.
abbrev pub reach_of : Scale → End → ℤ → List SEntry → Reach
reach_of scale end (pos r) later = Counted (r + 1)
reach_of scale end (negsuc r) [] = reach_of_end end
reach_of scale end (negsuc r) (next ∷ later) = reach_of_next scale next.t

-- how many segments it takes to reach a time, rounded up
abbrev pub count_up_to : Time → Extent → ℕ
count_up_to bound x = steps_to_cover (difference bound x.start) (lasting x)

abbrev pub count_of : Reach → Extent → ℕ
count_of (Counted count) x = count
count_of (UpTo bound) x = count_up_to bound x
count_of Unending x = 0
count_of Nowhere x = 0

-- the members of an S, by its first segment
abbrev pub members_of : Reach → Extent → List Member
members_of (Counted count) x = map Closed (repeated count x)
members_of (UpTo bound) x = if at_most bound x.start then Short x ∷ [] else map Closed (repeated (count_up_to bound x) x)
members_of Unending x = Endless x ∷ []
members_of Nowhere x = Short x ∷ []

-- the members of S elements, of which the first one, where it has no `@t`, begins at a media time
abbrev pub members_from : Scale → End → ℕ → List SEntry → List Member
members_from scale end former [] = []
members_from scale end former (s ∷ later) =
    let start = unwrap_or s.t former in
    let x = extent_from scale start s.d in
    let reach = reach_of scale end s.r later in
    members_of reach x ++ members_from scale end (start + count_of reach x * s.d) later

-- an absent `@t` is 0 in the first S, otherwise the end of the segment before
abbrev pub expansion_of_timeline : Scale → End → List SEntry → List Member
expansion_of_timeline scale end entries = members_from scale end 0 entries
