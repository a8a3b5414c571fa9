-- What holds for each state after accepted updates of typed MPDs, and for its representation.
use Rattle.std.specs.Prelude.{◌≡◌, ◌⊎◌, ℕ, ◌+◌, ◌*◌, ◌<◌, ◌≤◌, ℤ, pos, ◌-ℤ◌, false, true, List, [], ◌∷◌, length, map, slice_get, All}
use Rattle.std.specs.Prelude.{IfSome, Option, Some, None, option_map}
use Rattle.exact_time.specs.Time.{AreRising, IsAtMost, IsTime, before, nanoseconds, seconds}
use Rattle.timeline.specs.Expansions.{Timing}
use Rattle.presentation.specs.Presented.{Presented, is_finished, listed_at, looked_at}
use Rattle.followed.specs.Durations.{Last}
use Rattle.live_meaning.specs.{Segments.{Segment, segments_of}, Known.{Known, ids_of}, Histories.{Common, availability_start_of}}
use Rattle.live_meaning.specs.{States.{State, Track}, Refusals.ids_in, Laws.DoesLast}
use Rattle.live_judge.specs.{declared.standing.Standing.Standing, declared.track.LiveTrack.LiveTrack, Changed.AreUnmoved, Known.StandsAt}
use Rattle.live_judge.specs.Shown.{in_force, state_shown}

-- ---- segments

-- A segment's Period is known, and begins where the segment was dated from. The segment ends after the Period's start; and it has
-- ended, unless a static MPD came, which lists all segments.
pub record IsSegmentOf (c : Common) (x : Segment) : Type 0 where
  pub starts : option_map (λ (k : Known). k.start) (slice_get c.known x.value.place) ≡ Some x.value.period_start
  pub section : x.section ≤ x.value.place + c.resets
  pub listed : before (seconds 0) x.end ≡ true
  pub ended : is_finished c.force ≡ false
      → IsAtMost x.end (nanoseconds ((c.instant -ℤ availability_start_of c.opened) -ℤ pos x.value.period_start))

-- no segment is in an earlier Period than one before it, or in the same one with a lower section number
abbrev pub DoesFollow : Segment → Segment → Type 0
DoesFollow x y = (x.value.place < y.value.place) ⊎ ((x.value.place ≡ y.value.place) × (x.section ≤ y.section))

abbrev pub AreOrdered : List Segment → Type 0
AreOrdered [] = Unit {0}
AreOrdered (x ∷ xs) = All (DoesFollow x) xs × AreOrdered xs

-- no segment ends before it begins, and their ends rise
abbrev pub AreTimed : List Timing → Type 0
AreTimed xs = All DoesLast xs × AreRising (map (λ x. x.end) xs)

-- ---- a state

-- it is in an earlier Period than the last one, or in the same one with no higher section number
abbrev pub IsUpTo : Last → (place : ℕ) → Segment → Type 0
IsUpTo last place x = (x.value.place < place) ⊎ ((x.value.place ≡ place) × (x.section ≤ last.section))

-- all are, and there is none where none was listed
abbrev pub AreUpTo : Option Last → (place : ℕ) → List Segment → Type 0
AreUpTo None place xs = xs ≡ []
AreUpTo (Some last) place xs = All (IsUpTo last place) xs

-- a track's segments are in order, none after its last one
pub record IsSoundTrack (c : Common) (track : Track) : Type 0 where
  pub segments : All (IsSegmentOf c) (segments_of track.kept)
  pub ordered : AreOrdered (segments_of track.kept)
  pub section : IfSome track.last (λ last. last.section ≤ track.place + c.resets)
  pub begun : IfSome track.last (λ last. IsAtMost last.first last.end)
  pub timed : IfSome track.last (λ last. IsTime last.end)
  pub behind : AreUpTo track.last track.place (segments_of track.kept)

abbrev pub StartsAt : ℤ → Presented → Type 0
StartsAt start p = IfSome p.following (λ f. f.availability_start ≡ start)

-- The Periods in force begin as they are known, and at each time their segments are in order.
pub record IsSound (s : State) : Type 0 where
  pub place : ℕ
  pub stands : StandsAt (ids_of s.common.known) (ids_in s.common.force) place
  pub starts : AreUnmoved s.common.known s.common.force place
  pub follows : StartsAt (availability_start_of s.common.opened) s.common.force
  pub opened : length s.common.opened.tracks ≡ length s.tracks
  pub alike : length s.common.force.tracks ≡ length s.tracks
  pub few : length s.common.force.sections ≤ 1000
  pub timed : (now : ℤ) (section track : ℕ) → AreTimed (listed_at (looked_at now s.common.force) section track)
  pub tracks : All (IsSoundTrack s.common) s.tracks

-- ---- its representation

-- the two buffers are parallel, and at least one segment is kept
pub record IsPaired (track : LiveTrack) : Type 0 where
  pub paired : length track.items.items ≡ length track.facts.items
  pub some : 0 < length track.facts.items
  pub few : length track.facts.items ≤ 20000

pub record IsLive (s : Standing) (tracks : List LiveTrack) : Type 0 where
  pub sound : IsSound (state_shown s tracks)
  pub stands : StandsAt (ids_of s.known) (ids_in (in_force s)) s.place
  pub starts : s.availability_start ≡ availability_start_of s.opened
  pub resets : s.resets ≤ s.accepted
  pub periods : length s.known ≤ 1000 * s.accepted
  pub accepted : s.accepted ≤ 10000000
  pub paired : All IsPaired tracks
