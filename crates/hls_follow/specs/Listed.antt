-- The segments of a track, as an MPD lists them by Period, and as a playlist does.
use Rattle.std.specs.Prelude.{◌≡◌, ℕ, ◌+◌, List, [], ◌∷◌, ◌++◌, length, map, slice_get, Option, Some, None}
use Rattle.url_parts.specs.declared.address.Part.{Part}
use Rattle.hls_media.specs.declared.media.MediaSegment.{MediaSegment}
use Rattle.dash_writer.specs.{Live.first_time, declared.live.LivePeriod.LivePeriod, declared.live.LiveRun.LiveRun}
use Rattle.dash_writer.specs.declared.live.LiveSegment.{LiveSegment}
use Rattle.hls_follow.specs.{declared.state.Followed.Followed, declared.state.FollowedTrack.FollowedTrack, Rules.sections_of}

-- A segment of a section, with its init segment.
pub record Listed : Type 0 where
  pub section : ℕ
  pub initialization : Option Part
  pub segment : LiveSegment

-- A segment of an MPD, with its Period's start, and with the Period's id as its section.
pub record Placed : Type 0 where
  pub start : ℕ
  pub listed : Listed

-- ---- an MPD

abbrev pub placed_as : LivePeriod → LiveRun → LiveSegment → Placed
placed_as period run segment = record {
  start = period.start;
  listed = record { section = period.number; initialization = Some run.initialization; segment = segment };
}

abbrev pub placed_in : LivePeriod → Option LiveRun → List Placed
placed_in period None = []
placed_in period (Some run) = map (placed_as period run) run.segments

-- the segments of the track at an index
abbrev pub placed_of : (place : ℕ) → List LivePeriod → List Placed
placed_of place [] = []
placed_of place (period ∷ periods) = placed_in period (slice_get period.runs place) ++ placed_of place periods

-- ---- the times of a run

-- the times of consecutive segments, the first of which begins at a time
abbrev pub times_from : (time : ℕ) → List LiveSegment → List ℕ
times_from time [] = []
times_from time (segment ∷ segments) = time ∷ times_from (time + segment.duration) segments

-- the time of the first segment determines all
pub record GoesOn (run : LiveRun) : Type 0 where
  pub times : map (λ (segment : LiveSegment). segment.time) run.segments ≡ times_from (first_time run.segments) run.segments

-- ---- a playlist

abbrev pub listed_as : MediaSegment → (time : ℕ) → Listed
listed_as s time = record {
  section = s.section;
  initialization = s.map;
  segment = record { address = s.address; range = s.range; time = time; duration = s.duration };
}

abbrev pub listed_of : List MediaSegment → (times : List ℕ) → List Listed
listed_of [] times = []
listed_of (s ∷ segments) [] = []
listed_of (s ∷ segments) (time ∷ times) = listed_as s time ∷ listed_of segments times

-- The MPD has a Period for each section of the track at an index, and lists its segments in order, each with its time.
pub record ListsTrack (f : Followed) (place : ℕ) (track : FollowedTrack) : Type 0 where
  pub sections : map (λ (period : LivePeriod). period.number) f.mpd.periods ≡ sections_of track.media
  pub timed : length track.times ≡ length track.media.segments
  pub segments : map (λ (p : Placed). p.listed) (placed_of place f.mpd.periods) ≡ listed_of track.media.segments track.times
