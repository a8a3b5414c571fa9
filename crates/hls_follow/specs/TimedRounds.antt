-- A snapshot of playlists after those that were accepted, with the times of its media files (RFC 8216, 6.2; ISO/IEC 23009-1, 5.3.9).
use Rattle.std.specs.Prelude.{ℕ, zero, suc, ◌+◌, ◌*◌, ◌/◌, ◌^◌, Bool, List, [], ◌∷◌, ◌++◌, drop, length, slice_get, Option, Some, None}
use Rattle.std.specs.Prelude.{Result, Ok, ℤ}
use Rattle.bridge_io.specs.{Answer.and_then, Outside.Files}
use Rattle.hls_master.specs.declared.track.MasterTrack.{MasterTrack}
use Rattle.hls_media.specs.declared.media.Media.{Media}
use Rattle.hls_presentation.specs.Tracks.{Source, sources}
use Rattle.dash_writer.specs.declared.live.LivePeriod.{LivePeriod}
use Rattle.fragment_times.specs.declared.times.SegmentTimes.{SegmentTimes}
use Rattle.layer_faults.specs.declared.live.LiveFault.{LiveFault}
use Rattle.hls_follow.specs.{declared.state.Followed.Followed, declared.state.FollowedTrack.FollowedTrack}
use Rattle.hls_follow.specs.{declared.timed_fault.TimedFault.TimedFault, Kept.{flags_of, formers_of, periods_of}, Maps.judged_maps_of_all}
use Rattle.hls_follow.specs.{OwnTimes.{Snapshot, of_live}, Periods.last_end, Readings.read_times}
use Rattle.hls_follow.specs.Rules.{judged_at, judged_count, judged_updates}
use Rattle.hls_follow.specs.{Rounds.{Following, followed_track, kept_in, mpd_or_fault, target_of}, Stretches.stretches_of_all}
use Rattle.hls_follow.specs.{Ticks.runs_of, TimedPeriods.periods_of as timed_periods}

-- ---- the playlists

-- the checks of the kept tracks, in order, and their sections; there are few of these and of the segments, before any file is read
abbrev pub judged_tracks : Option Followed → List Source → Result (List ℕ) LiveFault
judged_tracks former kept =
    and_then (judged_maps_of_all (periods_of former) 0 kept) (λ _.
    and_then (judged_updates (formers_of former) kept) (λ sections.
    and_then (judged_count sections kept) (λ _. Ok sections)))

-- ---- the state after a snapshot

-- the times that one of some tracks has
abbrev pub starts_in : Option SegmentTimes → List ℕ
starts_in None = []
starts_in (Some times) = times.starts

-- the times of the track at an index of `count`, over so many sections
abbrev pub times_over : (sections count place : ℕ) → List SegmentTimes → List ℕ
times_over zero count place times = []
times_over (suc sections) count place times =
    starts_in (slice_get times place) ++ times_over sections count place (drop count times)

abbrev pub times_of : (count place : ℕ) → List SegmentTimes → List ℕ
times_of count place times = times_over (length times / count) count place times

-- each kept track's playlist with its times, from an index of `count` on
abbrev pub tracks_from : (count place : ℕ) → List Source → List SegmentTimes → List FollowedTrack
tracks_from count place [] times = []
tracks_from count place (s ∷ kept) times = followed_track s (times_of count place times) ∷ tracks_from count (place + 1) kept times

abbrev pub timed_tracks : List Source → List SegmentTimes → List FollowedTrack
timed_tracks kept times = tracks_from (length kept) 0 kept times

-- What the first accepted snapshot lists is available two of its greatest target durations before its time.
abbrev pub listed_by : List LivePeriod → List Source → ℕ
listed_by periods kept = last_end periods + 2 * target_of kept * 10 ^ 9

abbrev pub followed_at : Option Followed → (now : ℤ) → List Bool → List Source → List SegmentTimes → List LivePeriod
    → Result Followed TimedFault
followed_at former now flags kept times periods =
    and_then (of_live (mpd_or_fault former now (listed_by periods kept) periods kept))
    (λ mpd. Ok (record { kept = flags; tracks = timed_tracks kept times; mpd = mpd }))

abbrev pub snapshot_with : Option Followed → List Source → (sections folder : List ℕ) → Snapshot
snapshot_with former kept sections folder = record {
  formers = formers_of former;
  periods = periods_of former;
  sections = sections;
  tracks = stretches_of_all (formers_of former) 0 kept;
  folder = folder;
}

-- Its times and its Periods: first the errors of single files, then those of times that don't follow each other, and then the limits of
-- times.
abbrev pub placed_of : Option Followed → (now : ℤ) → List Bool → List Source → (sections folder : List ℕ) → Files
    → Result Followed TimedFault
placed_of former now flags kept sections folder files =
    let s = snapshot_with former kept sections folder in
    and_then (read_times s files) (λ times.
    and_then (runs_of s times) (λ runs.
    and_then (of_live (timed_periods s runs)) (followed_at former now flags kept times)))

abbrev pub timed_by : Option Followed → (now : ℤ) → List Source → (folder : List ℕ) → Files → Result Followed TimedFault
timed_by former now all folder files =
    and_then (of_live (judged_tracks former (kept_in former all)))
    (λ sections. placed_of former now (flags_of former all) (kept_in former all) sections folder files)

-- The state after a snapshot that follows the accepted ones, by the files of the store, or why it is rejected.
unfoldable pub timed_of : List MasterTrack → Option Followed → (now : ℤ) → List Media → (folder : List ℕ) → Files
    → Result Followed TimedFault
timed_of tracks former now medias folder files =
    and_then (of_live (judged_at former now)) (λ _. timed_by former now (sources tracks medias) folder files)

-- ---- the whole

unfoldable pub next_timed : Following → (now : ℤ) → List Media → (folder : List ℕ) → Files → Result Following TimedFault
next_timed f now medias folder files =
    and_then (timed_of f.tracks f.followed now medias folder files) (λ next. Ok (record f { followed = Some next }))
