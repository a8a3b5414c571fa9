-- The segments of a track with their files' times, as an MPD lists them by Period, and as a playlist does.
use Rattle.std.specs.Prelude.{◌≡◌, ℕ, List, [], ◌∷◌, ◌++◌, length, map, slice_get, Option, Some, None, Ok}
use Rattle.bridge_io.specs.Outside.{Files}
use Rattle.url_parts.specs.declared.address.Part.{Part}
use Rattle.hls_media.specs.declared.media.MediaSegment.{MediaSegment}
use Rattle.dash_writer.specs.{Live.part_of, declared.live.LivePeriod.LivePeriod, declared.live.LiveRun.LiveRun}
use Rattle.dash_writer.specs.declared.live.LiveSegment.{LiveSegment}
use Rattle.fragment_times.specs.Parts.{start_at}
use Rattle.hls_follow.specs.{declared.state.Followed.Followed, declared.state.FollowedTrack.FollowedTrack, Rules.sections_of}
use Rattle.hls_follow.specs.OwnTimes.{part_of as media_part}

-- A segment of a section, with its init segment and its time in ticks. Its duration is the difference to the next one, which may come later.
pub record OwnListed : Type 0 where
  pub section : ℕ
  pub initialization : Option Part
  pub part : Part
  pub time : ℕ

-- A segment of an MPD, with its Period's start, with the Period's id as its section, and with its run's timescale and offset.
pub record OwnPlaced : Type 0 where
  pub start : ℕ
  pub scale : ℕ
  pub offset : Option ℕ
  pub listed : OwnListed

-- ---- an MPD

abbrev pub own_placed_as : LivePeriod → LiveRun → LiveSegment → OwnPlaced
own_placed_as period run segment = record {
  start = period.start;
  scale = run.scale;
  offset = run.offset;
  listed = record {
    section = period.number;
    initialization = Some run.initialization;
    part = part_of segment;
    time = segment.time;
  };
}

abbrev pub own_placed_in : LivePeriod → Option LiveRun → List OwnPlaced
own_placed_in period None = []
own_placed_in period (Some run) = map (own_placed_as period run) run.segments

-- the segments of the track at an index
abbrev pub own_placed_of : (place : ℕ) → List LivePeriod → List OwnPlaced
own_placed_of place [] = []
own_placed_of place (period ∷ periods) = own_placed_in period (slice_get period.runs place) ++ own_placed_of place periods

-- ---- a playlist

abbrev pub own_listed_as : MediaSegment → (time : ℕ) → OwnListed
own_listed_as s time = record { section = s.section; initialization = s.map; part = media_part s; time = time }

abbrev pub own_listed_of : List MediaSegment → (times : List ℕ) → List OwnListed
own_listed_of [] times = []
own_listed_of (s ∷ segments) [] = []
own_listed_of (s ∷ segments) (time ∷ times) = own_listed_as s time ∷ own_listed_of segments times

-- The MPD has a Period for each section of the track at an index, and lists its segments in order, each with its time.
pub record ListsOwnTrack (f : Followed) (place : ℕ) (track : FollowedTrack) : Type 0 where
  pub sections : map (λ (period : LivePeriod). period.number) f.mpd.periods ≡ sections_of track.media
  pub timed : length track.times ≡ length track.media.segments
  pub segments : map (λ (p : OwnPlaced). p.listed) (own_placed_of place f.mpd.periods) ≡ own_listed_of track.media.segments track.times

-- ---- times

-- The times of segments: first those that are known, and then the decode time of each one's own file.
abbrev pub AreOwn : (folder : List ℕ) → Files → (known : List ℕ) → List MediaSegment → (times : List ℕ) → Type 0
AreOwn folder files known [] [] = Unit {0}
AreOwn folder files known [] (time ∷ times) = ⊥
AreOwn folder files known (s ∷ segments) [] = ⊥
AreOwn folder files [] (s ∷ segments) (time ∷ times) = (start_at folder files (media_part s) ≡ Ok time) × AreOwn folder files [] segments times
AreOwn folder files (k ∷ known) (s ∷ segments) (time ∷ times) = (time ≡ k) × AreOwn folder files known segments times
