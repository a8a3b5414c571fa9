-- The snapshots of a run of `follow-hls`, as playlists that are accepted one after another.
use Rattle.std.specs.{Prelude.{◌≡◌, ℕ, ◌+◌, List, [], map, Some, None}, Result.result_unwrap_or}
use Rattle.hls_master.specs.declared.track.MasterTrack.{MasterTrack}
use Rattle.hls_follow.specs.{Histories.{HasNumber, IsPlaced, Playlists, accepted_after}, Listed.Placed, declared.state.Followed.Followed}
use Rattle.bridge_jobs.specs.declared.jobs.MasterJob.{MasterJob}
use Rattle.bridge_jobs.specs.declared.round.Round.{Round}
use Rattle.bridge_reach.specs.{RoundLaws.{accepted_among, left_by}, Rounds.{hls_of, medias_of}, declared.rounds.LiveHls.LiveHls}

-- a snapshot's playlists at its time
abbrev pub playlists_at : LiveHls → Round → Playlists
playlists_at hls round = (round.now, result_unwrap_or (medias_of hls.urls round.bodies) [])

-- those of the accepted ones among the first n snapshots
abbrev pub history_to : (job : MasterJob) → List MasterTrack → (bytes : List ℕ) → (n : ℕ) → List Playlists
history_to job tracks bytes n = map (playlists_at (hls_of job tracks)) (accepted_among job tracks bytes n)

-- a run's state is that after its whole history of accepted snapshots
abbrev pub LeftIsOfTheHistory : Type 0
LeftIsOfTheHistory = (job : MasterJob) (tracks : List MasterTrack) (bytes : List ℕ) (n : ℕ)
    → (left_by job tracks bytes n).follow.followed ≡ accepted_after tracks None (history_to job tracks bytes n)

-- A segment that a later snapshot lists again, by its track and its number, is unchanged in the MPD: the id and the start of its
-- Period, its start there, its duration, its file, and its init segment.
abbrev pub ListedSegmentsStay : Type 0
ListedSegmentsStay = (job : MasterJob) (tracks : List MasterTrack) (bytes : List ℕ) (m n : ℕ) (old new : Followed) (place number : ℕ)
    (placed : Placed)
    → (left_by job tracks bytes m).follow.followed ≡ Some old → (left_by job tracks bytes (m + n)).follow.followed ≡ Some new
    → IsPlaced old place number placed → HasNumber new place number → IsPlaced new place number placed
