-- A snapshot of playlists after those that were accepted (RFC 8216, 6.2; ISO/IEC 23009-1, 5.3).
use Rattle.std.specs.Prelude.{ℕ, max, Bool, true, false, List, [], ◌∷◌, map, if◌then◌else◌, Option, Some, None, Result, Ok, Err}
use Rattle.std.specs.{Prelude.{ℤ, pos, neg_ℤ, ◌-ℤ◌, ◌*ℤ◌, int_lt}, Int.int_div_euclid, List.list_all}
use Rattle.bridge_io.specs.Answer.{and_then}
use Rattle.hls_master.specs.declared.track.MasterTrack.{MasterTrack}
use Rattle.hls_media.specs.declared.media.Media.{Media}
use Rattle.hls_presentation.specs.{Presenting.track_of, Tracks.{Source, sources}}
use Rattle.dash_writer.specs.{declared.live.LiveMpd.LiveMpd, declared.live.LivePeriod.LivePeriod}
use Rattle.layer_faults.specs.declared.live.LiveFault.{LiveFault}
use Rattle.layer_faults.specs.declared.live.LiveFault.TheVariants.{Limit}
use Rattle.hls_follow.specs.{declared.state.Followed.Followed, declared.state.FollowedTrack.FollowedTrack}
use Rattle.hls_follow.specs.{declared.round.Placed.Placed, Groups.groups_of, Kept.{flags_of, formers_of, kept_by, periods_of}}
use Rattle.hls_follow.specs.{Periods.{last_end, periods_from}, Rules.{appended_from, judged_at, judged_count}}
use Rattle.hls_follow.specs.{Rules.{judged_segments, judged_updates}, Times.{TimedSegment, timed_all}}

-- ---- the presentation by a snapshot

-- rounded down to milliseconds
abbrev pub whole_millis : ℤ → ℤ
whole_millis nanos = int_div_euclid nanos (pos 1_000_000) *ℤ pos 1_000_000

abbrev pub from_1583 : ℤ → Result ℤ LiveFault
from_1583 start = if int_lt start (neg_ℤ (pos 12_212_553_600_000_000_000)) then Err Limit else Ok start

abbrev pub first_start : (now : ℤ) → (end : ℕ) → Result ℤ LiveFault
first_start now end = from_1583 (whole_millis (now -ℤ pos end))

-- When the presentation begins: what the first accepted snapshot lists is available, some time after it begins, at that snapshot's
-- time; this never changes.
abbrev pub start_of : Option Followed → (now : ℤ) → (end : ℕ) → Result ℤ LiveFault
start_of (Some former) now end = Ok former.mpd.start
start_of None now end = first_start now end

-- the greatest target duration
abbrev pub target_of : List Source → ℕ
target_of [] = 0
target_of (s ∷ kept) = max s.media.target (target_of kept)

-- all playlists have EXT-X-ENDLIST
abbrev pub are_ended : List Source → Bool
are_ended kept = list_all (λ (s : Source). s.media.ended) kept

abbrev pub mpd_of : (start now : ℤ) → List LivePeriod → List Source → LiveMpd
mpd_of start now periods kept = record {
  start = start;
  published = now;
  target = target_of kept;
  ended = are_ended kept;
  tracks = map track_of kept;
  periods = periods;
}

abbrev pub mpd_or_fault : Option Followed → (now : ℤ) → (end : ℕ) → List LivePeriod → List Source → Result LiveMpd LiveFault
mpd_or_fault former now end periods kept = and_then (start_of former now end) (λ start. Ok (mpd_of start now periods kept))

-- ---- the state after a snapshot

abbrev pub times_in : List TimedSegment → List ℕ
times_in timed = map (λ (t : TimedSegment). t.time) timed

abbrev pub followed_track : Source → (times : List ℕ) → FollowedTrack
followed_track s times = record { media = s.media; times = times }

-- each kept track's playlist with its times
abbrev pub tracks_with : List Source → (times : List (List ℕ)) → List FollowedTrack
tracks_with [] all = []
tracks_with (s ∷ kept) [] = []
tracks_with (s ∷ kept) (times ∷ all) = followed_track s times ∷ tracks_with kept all

-- the playlists that flags keep, with their times
abbrev pub tracks_by : List Bool → List Media → (times : List (List ℕ)) → List FollowedTrack
tracks_by flags [] all = []
tracks_by [] (media ∷ medias) all = []
tracks_by (false ∷ flags) (media ∷ medias) all = tracks_by flags medias all
tracks_by (true ∷ flags) (media ∷ medias) [] = []
tracks_by (true ∷ flags) (media ∷ medias) (times ∷ all) = record { media = media; times = times } ∷ tracks_by flags medias all

abbrev pub followed_tracks : List Source → List (List TimedSegment) → List FollowedTrack
followed_tracks kept timed = tracks_with kept (map times_in timed)

abbrev pub followed_with : List Bool → List Source → List (List TimedSegment) → LiveMpd → Followed
followed_with flags kept timed mpd = record { kept = flags; tracks = followed_tracks kept timed; mpd = mpd }

-- the state after a snapshot, given its kept tracks
abbrev pub followed_from : Placed → List Source → Followed
followed_from p kept = record { kept = p.flags; tracks = tracks_with kept p.times; mpd = p.mpd }

-- given all its tracks
abbrev pub placed_from : Placed → List Source → Followed
placed_from p all = followed_from p (kept_by p.flags all)

-- given its playlists, one for each track
abbrev pub moved_from : Placed → List Media → Followed
moved_from p medias = record { kept = p.flags; tracks = tracks_by p.flags medias p.times; mpd = p.mpd }

abbrev pub followed_at : Option Followed → (now : ℤ) → List Bool → List Source → List (List TimedSegment) → List LivePeriod
    → Result Followed LiveFault
followed_at former now flags kept timed periods =
    and_then (mpd_or_fault former now (last_end periods) periods kept) (λ mpd. Ok (followed_with flags kept timed mpd))

-- its times and its Periods, within their limits
unfoldable pub placed_of : Option Followed → (now : ℤ) → List Bool → List Source → (sections : List ℕ) → Result Followed LiveFault
placed_of former now flags kept sections =
    and_then (timed_all (formers_of former) 0 kept) (λ timed.
    and_then (periods_from (periods_of former) (map groups_of timed) (last_end (periods_of former)) 0 sections)
    (followed_at former now flags kept timed))

-- the checks of the kept tracks, in order, and their sections
unfoldable pub judged_tracks : List FollowedTrack → List Source → Result (List ℕ) LiveFault
judged_tracks formers kept =
    and_then (judged_segments kept) (λ _.
    and_then (judged_updates formers kept) (λ sections.
    and_then (judged_count sections kept) (λ _. Ok sections)))

abbrev pub kept_in : Option Followed → List Source → List Source
kept_in former all = kept_by (flags_of former all) all

abbrev pub followed_by : Option Followed → (now : ℤ) → List Source → Result Followed LiveFault
followed_by former now all =
    and_then (judged_tracks (formers_of former) (kept_in former all)) (placed_of former now (flags_of former all) (kept_in former all))

-- The state after a snapshot that follows the accepted ones, or why it is rejected.
unfoldable pub followed_of : List MasterTrack → Option Followed → (now : ℤ) → List Media → Result Followed LiveFault
followed_of tracks former now medias = and_then (judged_at former now) (λ _. followed_by former now (sources tracks medias))

-- ---- the whole

-- a master playlist's tracks, and the state after the accepted snapshots
pub record Following : Type 0 where
  pub tracks : List MasterTrack
  pub followed : Option Followed

unfoldable pub next_of : Following → (now : ℤ) → List Media → Result Following LiveFault
next_of f now medias = and_then (followed_of f.tracks f.followed now medias) (λ next. Ok (record f { followed = Some next }))

-- how many segments of a snapshot have sequence numbers above all accepted ones of their track
unfoldable pub appended_by : Following → List Media → ℕ
appended_by f medias = appended_from (formers_of f.followed) 0 (kept_in f.followed (sources f.tracks medias))
