-- The state after snapshots that are accepted one after another.
use Rattle.std.specs.Prelude.{◌≡◌, ℕ, codes, List, [], ◌∷◌, take, Some, IsSome}
use Rattle.bridge_io.specs.{InOrder.put_all, Outside.{Files, Changes}}
use Rattle.hls_master.specs.declared.track.MasterTrack.{MasterTrack}
use Rattle.hls_follow.specs.declared.state.Followed.{Followed}
use Rattle.dash_writer.specs.Live.{live_text}
use Rattle.bridge_jobs.specs.{Frames.start, Laws.in_folder, declared.jobs.MasterJob.MasterJob, declared.round.Round.Round}
use Rattle.bridge_courses.specs.Courses.{files_to}
use Rattle.bridge_report.specs.Laws.{accepted_in, state_after}
use Rattle.bridge_reach.specs.Rounds.{course_with, followed_rounds, hls_of, no_rounds, round_stream}
use Rattle.bridge_reach.specs.declared.rounds.LiveRounds.{LiveRounds}

-- the accepted ones among the first n snapshots that bytes begin with, for a master playlist's tracks
abbrev pub accepted_among : (job : MasterJob) → List MasterTrack → (bytes : List ℕ) → (n : ℕ) → List Round
accepted_among job tracks bytes n = let hls = hls_of job tracks in
    accepted_in (followed_rounds hls) (no_rounds tracks) (take n (round_stream hls start bytes).0)

-- the state after these
abbrev pub left_by : (job : MasterJob) → List MasterTrack → (bytes : List ℕ) → (n : ℕ) → LiveRounds
left_by job tracks bytes n = state_after (followed_rounds (hls_of job tracks)) (no_rounds tracks) (accepted_among job tracks bytes n)

-- where a snapshot was accepted, there is an MPD
abbrev pub AcceptedLeaveAnMpd : Type 0
AcceptedLeaveAnMpd = (job : MasterJob) (tracks : List MasterTrack) (bytes : List ℕ) (n : ℕ) (round : Round) (more : List Round)
    → accepted_among job tracks bytes n ≡ round ∷ more → IsSome (left_by job tracks bytes n).follow.followed

-- where none was accepted, no file is written
abbrev pub NoneWriteNothing : Type 0
NoneWriteNothing = (job : MasterJob) (tracks : List MasterTrack) (bytes : List ℕ) (n : ℕ) → accepted_among job tracks bytes n ≡ []
    → files_to n (course_with job tracks bytes) ≡ []

-- After the files of any number of snapshots, of which at least one was accepted, the file has the text of the MPD after the
-- whole accepted history.
abbrev pub FileIsOfTheHistory : Type 0
FileIsOfTheHistory = (job : MasterJob) (tracks : List MasterTrack) (bytes : List ℕ) (n : ℕ) (followed : Followed) (first last : Files)
    → (left_by job tracks bytes n).follow.followed ≡ Some followed
    → Changes (put_all (files_to n (course_with job tracks bytes))) (Some first) (Some last)
    → last (in_folder job.out (codes "live.mpd")) ≡ Some (live_text job.form followed.mpd)
