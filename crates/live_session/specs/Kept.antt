-- The state of a followed track.
use Rattle.std.specs.Prelude.{◌≡◌, ℕ, ◌+◌, ◌≤◌, List, [], ◌∷◌, ◌++◌, length, drop, false, ◌==◌, if◌then◌else◌, Option, None, Some}
use Rattle.std.specs.Option.{option_map_or}
use Rattle.exact_time.specs.{Time.Time, Tick.time_of, declared.tick.Tick.Tick}
use Rattle.followed.specs.Durations.{Last, last_with}
use Rattle.live_meaning.specs.{Segments.Kept, States.Track}
use Rattle.live_judge.specs.{declared.track.LastKept.LastKept, declared.track.LiveTrack.LiveTrack, Shown.track_shown}
use Rattle.live_session.specs.declared.made.Made.{Made}

abbrev pub no_place : Option LastKept → ℕ
no_place None = 0
no_place (Some l) = l.place

-- its two rings are parallel
abbrev pub AreSideBySide : LiveTrack → Type 0
AreSideBySide t = length t.items.items ≡ length t.facts.items

-- they have room for `more` members
pub record HasRoom (more : ℕ) (t : LiveTrack) : Type 0 where
  pub items : length t.items.items + more ≤ t.items.capacity
  pub facts : length t.facts.items + more ≤ t.facts.capacity

-- when the section of a segment after a track's last one begins
abbrev pub begun_at : Track → (begin start : Time) → (section : ℕ) → Time
begun_at track begin start section = if option_map_or (λ (l : Last). l.section == section) track.last false then begin else start

abbrev pub IsBegunAt : LiveTrack → Made → Tick → Type 0
IsBegunAt t made result = time_of result ≡ begun_at (track_shown t) (time_of t.begin) (time_of made.fact.span.start) made.item.section

-- ---- adding and removing segments of a track

abbrev pub empty_track : Track
empty_track = record { kept = []; first = 0; last = None; place = 0 }

abbrev pub with_kept : Track → Kept → Track
with_kept track k = record {
  kept = track.kept ++ k ∷ [];
  first = track.first;
  last = Some (last_with track.last k.segment);
  place = k.segment.value.place;
}

abbrev pub with_all : Track → List Kept → Track
with_all track [] = track
with_all track (k ∷ ks) = with_all (with_kept track k) ks

abbrev pub without_front : (count : ℕ) → Track → Track
without_front count track = record {
  kept = drop count track.kept;
  first = track.first + count;
  last = track.last;
  place = track.place;
}
