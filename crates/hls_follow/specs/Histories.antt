-- What stays true over every list of accepted snapshots.
use Rattle.std.specs.Prelude.{◌≡◌, ℕ, ◌-◌, ◌≤◌, List, [], ◌∷◌, All, length, slice_get, Option, Some, None, option_and_then, Result, Ok, Err}
use Rattle.std.specs.Prelude.{ℤ}
use Rattle.hls_master.specs.declared.track.MasterTrack.{MasterTrack}
use Rattle.hls_media.specs.{Laws.IsBounded, declared.media.Media.Media}
use Rattle.dash_writer.specs.declared.live.LivePeriod.{LivePeriod}
use Rattle.hls_follow.specs.declared.state.Followed.{Followed}
use Rattle.layer_faults.specs.declared.live.LiveFault.{LiveFault}
use Rattle.hls_follow.specs.{declared.state.FollowedTrack.FollowedTrack, Laws.{IsContiguous, Lists}, Listed.{GoesOn, ListsTrack, Placed}}
use Rattle.hls_follow.specs.{Listed.placed_of, Rounds.followed_of}

-- ---- snapshots one after another

-- a snapshot: playlists at one time
abbrev pub Playlists : Type 0
Playlists = ℤ × List Media

abbrev pub if_accepted : Result Followed LiveFault → Option Followed
if_accepted (Ok new) = Some new
if_accepted (Err fault) = None

-- the state after snapshots that are accepted one after another; `None` where one is rejected
abbrev pub accepted_after : List MasterTrack → Option Followed → List Playlists → Option Followed
accepted_after tracks former [] = former
accepted_after tracks former (round ∷ rounds) = option_and_then (λ (new : Followed). accepted_after tracks (Some new) rounds)
    (if_accepted (followed_of tracks former round.0 round.1))

-- One playlist for each of the master's tracks, bounded as those that were read.
pub record IsRound (tracks : List MasterTrack) (round : Playlists) : Type 0 where
  pub one_each : length round.1 ≡ length tracks
  pub bounded : All IsBounded round.1

-- Snapshots were accepted one after another, after an earlier state.
pub record AreAccepted (tracks : List MasterTrack) (former : Option Followed) (rounds : List Playlists) (new : Followed) : Type 0 where
  pub whole : All (IsRound tracks) rounds
  pub left : accepted_after tracks former rounds ≡ Some new

-- ---- what stays true

-- the presentation keeps its start
abbrev pub StartsStayOverRounds : Type 0
StartsStayOverRounds = (tracks : List MasterTrack) (rounds : List Playlists) (old new : Followed)
    → accepted_after tracks (Some old) rounds ≡ Some new → new.mpd.start ≡ old.mpd.start

-- From the first snapshot on, a segment begins where the one before it in its section ends.
abbrev pub AreContiguousFromTheFirst : Type 0
AreContiguousFromTheFirst = (tracks : List MasterTrack) (rounds : List Playlists) (new : Followed)
    → accepted_after tracks None rounds ≡ Some new → All IsContiguous new.tracks

-- The MPD lists for each kept track the segments of its last playlist.
abbrev pub LastPlaylistsAreListed : Type 0
LastPlaylistsAreListed = (tracks : List MasterTrack) (rounds : List Playlists) (new : Followed) (place : ℕ) (track : FollowedTrack)
    → accepted_after tracks None rounds ≡ Some new → slice_get new.tracks place ≡ Some track → ListsTrack new place track

-- From the first snapshot on, a segment of the MPD begins where the one before it in its run ends, so that the first one's time
-- determines all.
abbrev pub RunsGoOn : Type 0
RunsGoOn = (tracks : List MasterTrack) (rounds : List Playlists) (new : Followed)
    → accepted_after tracks None rounds ≡ Some new → All (λ (period : LivePeriod). All GoesOn period.runs) new.mpd.periods

-- The last playlist of the track at an index lists a segment with this number.
pub record HasNumber (f : Followed) (place number : ℕ) : Type 0 where
  pub track : FollowedTrack
  pub kept : slice_get f.tracks place ≡ Some track
  pub lists : Lists track number

-- The segment in the MPD: its number determines how many segments are before it.
pub record IsPlaced (f : Followed) (place number : ℕ) (placed : Placed) : Type 0 where
  pub track : FollowedTrack
  pub kept : slice_get f.tracks place ≡ Some track
  pub from : track.media.sequence ≤ number
  pub is : slice_get (placed_of place f.mpd.periods) (number - track.media.sequence) ≡ Some placed

-- A segment that is listed again, by its track and its number, is unchanged: the id and the start of its Period, its start there,
-- its duration, its file, and its init segment.
abbrev pub SegmentsStay : Type 0
SegmentsStay = (tracks : List MasterTrack) (before after : List Playlists) (old new : Followed) (place number : ℕ) (placed : Placed)
    → AreAccepted tracks None before old → AreAccepted tracks (Some old) after new
    → IsPlaced old place number placed → HasNumber new place number → IsPlaced new place number placed
