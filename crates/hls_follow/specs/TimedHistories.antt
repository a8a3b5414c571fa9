-- What stays true over every list of accepted snapshots whose segments have their files' times.
use Rattle.std.specs.Prelude.{◌≡◌, ℕ, ◌-◌, ◌*◌, ◌≤◌, List, [], ◌∷◌, All, length, slice_get, Option, Some, None, option_and_then, unwrap_or}
use Rattle.std.specs.Prelude.{◌+◌, ◌^◌, Result, Ok, Err, ℤ, pos, ◌-ℤ◌, ◌≤ℤ◌}
use Rattle.bridge_io.specs.Outside.{Files}
use Rattle.hls_master.specs.declared.track.MasterTrack.{MasterTrack}
use Rattle.hls_media.specs.{Laws.IsBounded, declared.media.Media.Media}
use Rattle.dash_writer.specs.{Live.first_time, declared.live.LivePeriod.LivePeriod, declared.live.LiveRun.LiveRun}
use Rattle.dash_writer.specs.{declared.live.LiveMpd.LiveMpd, declared.live.LiveSegment.LiveSegment}
use Rattle.hls_follow.specs.{declared.state.Followed.Followed, declared.state.FollowedTrack.FollowedTrack}
use Rattle.hls_follow.specs.{declared.timed_fault.TimedFault.TimedFault, Histories.HasNumber, Kept.formers_of, Listed.GoesOn}
use Rattle.hls_follow.specs.{Stretches.known_times, TimedListed.{AreOwn, ListsOwnTrack, OwnPlaced, own_placed_of}, TimedRounds.timed_of}

-- ---- snapshots one after another

-- a snapshot: playlists at one time, and the store's files then
pub record Round : Type 0 where
  pub now : ℤ
  pub medias : List Media
  pub files : Files

-- the state after a snapshot, given the URL of the store's folder
abbrev pub timed_by : List MasterTrack → (folder : List ℕ) → Option Followed → Round → Result Followed TimedFault
timed_by tracks folder former round = timed_of tracks former round.now round.medias folder round.files

abbrev pub if_accepted : Result Followed TimedFault → Option Followed
if_accepted (Ok new) = Some new
if_accepted (Err fault) = None

-- the state after snapshots that are accepted one after another; `None` where one is rejected
abbrev pub accepted_after : List MasterTrack → (folder : List ℕ) → Option Followed → List Round → Option Followed
accepted_after tracks folder former [] = former
accepted_after tracks folder former (round ∷ rounds) =
    option_and_then (λ (new : Followed). accepted_after tracks folder (Some new) rounds) (if_accepted (timed_by tracks folder former round))

-- One playlist for each of the master's tracks, bounded as those that were read.
pub record IsRound (tracks : List MasterTrack) (round : Round) : Type 0 where
  pub one_each : length round.medias ≡ length tracks
  pub bounded : All IsBounded round.medias

-- Snapshots were accepted one after another, after an earlier state.
pub record AreAccepted (tracks : List MasterTrack) (folder : List ℕ) (former : Option Followed) (rounds : List Round) (new : Followed)
    : Type 0 where
  pub whole : All (IsRound tracks) rounds
  pub left : accepted_after tracks folder former rounds ≡ Some new

-- ---- one snapshot

-- A segment that the last accepted snapshot listed keeps its time; another's is the decode time that its own file has now.
abbrev pub TimesAreOwn : Type 0
TimesAreOwn = (tracks : List MasterTrack) (folder : List ℕ) (former : Option Followed) (round : Round) (new : Followed) (place : ℕ)
    (track : FollowedTrack) → IsRound tracks round → timed_by tracks folder former round ≡ Ok new → slice_get new.tracks place ≡ Some track
    → AreOwn folder round.files (known_times (slice_get (formers_of former) place) track.media) track.media.segments track.times

-- ---- what stays true

-- the presentation keeps its start
abbrev pub TimedStartsStay : Type 0
TimedStartsStay = (tracks : List MasterTrack) (folder : List ℕ) (rounds : List Round) (old new : Followed)
    → accepted_after tracks folder (Some old) rounds ≡ Some new → new.mpd.start ≡ old.mpd.start

-- The MPD lists for each kept track the segments of its last playlist, each with its time.
abbrev pub TimedPlaylistsAreListed : Type 0
TimedPlaylistsAreListed = (tracks : List MasterTrack) (folder : List ℕ) (rounds : List Round) (new : Followed) (place : ℕ)
    (track : FollowedTrack) → AreAccepted tracks folder None rounds new → slice_get new.tracks place ≡ Some track
    → ListsOwnTrack new place track

-- A segment of the MPD lasts until the next one of its run begins.
abbrev pub TimedRunsGoOn : Type 0
TimedRunsGoOn = (tracks : List MasterTrack) (folder : List ℕ) (rounds : List Round) (new : Followed)
    → AreAccepted tracks folder None rounds new → All (λ (period : LivePeriod). All GoesOn period.runs) new.mpd.periods

-- The segment in the MPD: its number determines how many segments are before it.
pub record IsPlaced (f : Followed) (place number : ℕ) (placed : OwnPlaced) : Type 0 where
  pub track : FollowedTrack
  pub kept : slice_get f.tracks place ≡ Some track
  pub from : track.media.sequence ≤ number
  pub is : slice_get (own_placed_of place f.mpd.periods) (number - track.media.sequence) ≡ Some placed

-- A segment that is listed again, by its track and its number, keeps its Period's id and start, its timescale, its presentation time
-- offset, its own start, its file and its init segment.
abbrev pub TimedSegmentsStay : Type 0
TimedSegmentsStay = (tracks : List MasterTrack) (folder : List ℕ) (before after : List Round) (old new : Followed) (place number : ℕ)
    (placed : OwnPlaced) → AreAccepted tracks folder None before old → AreAccepted tracks folder (Some old) after new
    → IsPlaced old place number placed → HasNumber new place number → IsPlaced new place number placed

-- The offsets of a Period's tracks over their timescales are one time, which isn't after any listed segment.
abbrev pub AreInStep : LiveRun → LiveRun → Type 0
AreInStep one other = unwrap_or one.offset 0 * other.scale ≡ unwrap_or other.offset 0 * one.scale

abbrev pub BeginsByOffset : LiveRun → Type 0
BeginsByOffset run = unwrap_or run.offset 0 ≤ first_time run.segments

pub record IsInStep (period : LivePeriod) : Type 0 where
  pub one_time : All (λ (one : LiveRun). All (AreInStep one) period.runs) period.runs
  pub before : All BeginsByOffset period.runs

abbrev pub PeriodsAreInStep : Type 0
PeriodsAreInStep = (tracks : List MasterTrack) (folder : List ℕ) (rounds : List Round) (new : Followed)
    → AreAccepted tracks folder None rounds new → All IsInStep new.mpd.periods

-- ---- the first snapshot

-- a segment ends in its Period so many nanoseconds after the Period's start at most
abbrev pub EndsBy : (nanos : ℕ) → LiveRun → LiveSegment → Type 0
EndsBy nanos run s = (s.time + s.duration - unwrap_or run.offset 0) * 10 ^ 9 ≤ nanos * run.scale

-- Some nanoseconds after the presentation's start, and two target durations before a time, all listed segments are over.
pub record IsAvailableBy (now : ℤ) (mpd : LiveMpd) : Type 0 where
  pub elapsed : ℕ
  pub room : mpd.start ≤ℤ (now -ℤ pos (elapsed + 2 * mpd.target * 10 ^ 9))
  pub begun : All (λ (period : LivePeriod). period.start ≤ elapsed) mpd.periods
  pub over : All (λ (period : LivePeriod). All (λ (run : LiveRun). All (EndsBy (elapsed - period.start) run) run.segments) period.runs)
      mpd.periods

abbrev pub FirstListsAreAvailable : Type 0
FirstListsAreAvailable = (tracks : List MasterTrack) (folder : List ℕ) (round : Round) (new : Followed)
    → timed_by tracks folder None round ≡ Ok new → IsAvailableBy round.now new.mpd
