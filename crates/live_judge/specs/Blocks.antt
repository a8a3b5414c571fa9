-- The last kept segments of a Period.
use Rattle.std.specs.Prelude.{◌≡◌, ℕ, ◌+◌, ◌-◌, ◌<◌, ◌≤◌, ◌==◌, ◌&&◌, Bool, true, false, List, length, take, drop, slice_get, Some}
use Rattle.followed.specs.Durations.{is_in}
use Rattle.live_meaning.specs.{Segments.{Segment, segments_of}, Refusals.latest_in}
use Rattle.live_judge.specs.{declared.block.Block.Block, declared.track.LiveTrack.LiveTrack, Removal.kept_in}

abbrev pub segments_in : LiveTrack → List Segment
segments_in track = segments_of (kept_in track)

abbrev pub in_block : Block → LiveTrack → List Segment
in_block block track = take (block.end - block.begin) (drop block.begin (segments_in track))

pub record IsWithin (block : Block) (track : LiveTrack) : Type 0 where
  pub paired : length track.items.items ≡ length track.facts.items
  pub rises : block.begin ≤ block.end
  pub within : block.end ≤ length track.facts.items

-- all segments before an index are of Periods before one
abbrev pub StandBefore : (place : ℕ) → List Segment → (end : ℕ) → Type 0
StandBefore place xs end = (i : ℕ) (x : Segment) → slice_get xs i ≡ Some x → i < end → x.value.place < place

-- the first index of a segment of a later Period
pub record IsEndOf (place : ℕ) (xs : List Segment) (end : ℕ) : Type 0 where
  pub within : end ≤ length xs
  pub before : StandBefore (place + 1) xs end
  pub stops : (x : Segment) → slice_get xs end ≡ Some x → place < x.value.place

abbrev pub is_of : (place section : ℕ) → Segment → Bool
is_of place section x = x.value.place == place && is_in section x

-- those between two indices are of a Period and a section, and the one before them isn't
pub record AreOf (place section : ℕ) (xs : List Segment) (begin end : ℕ) : Type 0 where
  pub rises : begin ≤ end
  pub all : (i : ℕ) (x : Segment) → slice_get xs i ≡ Some x → begin ≤ i → i < end → is_of place section x ≡ true
  pub stops : (x : Segment) → 0 < begin → slice_get xs (begin - 1) ≡ Some x → is_of place section x ≡ false

-- the segments of a Period with the greatest section number; all after them are of later Periods
pub record IsBlock (place : ℕ) (track : LiveTrack) (block : Block) : Type 0 where
  pub are : latest_in place (kept_in track) ≡ in_block block track
  pub inside : IsWithin block track
  pub last : (x : Segment) → block.begin < block.end → slice_get (segments_in track) (block.end - 1) ≡ Some x → x.value.place ≡ place
  pub before : StandBefore (place + 1) (segments_in track) block.end
