-- The state after snapshots that are accepted one after another by the decode times of their media files.
use Rattle.std.specs.Prelude.{◌≡◌, ℕ, codes, List, [], ◌∷◌, take, Some, IsSome}
use Rattle.std.specs.Result.{result_unwrap_or}
use Rattle.bridge_io.specs.{InOrder.put_all, Outside.{Files, Changes}}
use Rattle.hls_master.specs.declared.track.MasterTrack.{MasterTrack}
use Rattle.hls_follow.specs.{TimedHistories.Round as Snapshot, declared.state.Followed.Followed as State}
use Rattle.dash_writer.specs.Live.{live_text}
use Rattle.bridge_jobs.specs.{Frames.start, Laws.in_folder, declared.jobs.MasterJob.MasterJob, declared.round.Round.Round}
use Rattle.bridge_courses.specs.Courses.{Course, files_to}
use Rattle.bridge_report.specs.{Following.Followed, Laws.{accepted_in, state_after}}
use Rattle.bridge_playlists.specs.declared.place.StorePlace.{StorePlace}
use Rattle.bridge_steps.specs.Follow.{follow_course}
use Rattle.bridge_reach.specs.{Rounds.{files_of, medias_of, no_rounds, round_appends, round_stream}, declared.rounds.LiveRounds.LiveRounds}
use Rattle.bridge_reach.specs.{TimedRounds.{course_with, followed_timed, timed_hls_of}, declared.timed_rounds.TimedHls.TimedHls}

-- What is followed, with the store's files then: those that were written before belong to them.
abbrev pub followed_with : TimedHls → Followed (LiveRounds × Files) Round
followed_with hls = record {
  refusal = λ s round. (followed_timed hls s.1).refusal s.0 round;
  after = λ s round. let next = (followed_timed hls s.1).after s.0 round in (next, put_all (files_of hls.hls next) s.1);
  files = λ s. files_of hls.hls s.0;
  appended = λ s round. round_appends hls.hls s.0 round;
  makes = λ s round. 0;
}

-- ---- a run

-- a master playlist at a location, with its tracks, the store's files before the first snapshot, and the bytes of snapshots
pub record Run : Type 0 where
  pub job : MasterJob
  pub place : StorePlace
  pub tracks : List MasterTrack
  pub files : Files
  pub bytes : List ℕ

abbrev pub hls_in : Run → TimedHls
hls_in run = timed_hls_of run.job run.place run.tracks

abbrev pub first_of : Run → LiveRounds × Files
first_of run = (no_rounds run.tracks, run.files)

abbrev pub snapshots_in : Run → List Round
snapshots_in run = (round_stream (hls_in run).hls start run.bytes).0

-- the accepted ones among the first n snapshots, and the state and the files after these
abbrev pub accepted_among : Run → (n : ℕ) → List Round
accepted_among run n = accepted_in (followed_with (hls_in run)) (first_of run) (take n (snapshots_in run))

abbrev pub left_by : Run → (n : ℕ) → LiveRounds × Files
left_by run n = state_after (followed_with (hls_in run)) (first_of run) (accepted_among run n)

-- accepted snapshots, each as its playlists with the store's files by which it was accepted
abbrev pub snapshots_along : TimedHls → LiveRounds × Files → List Round → List Snapshot
snapshots_along hls s [] = []
snapshots_along hls s (x ∷ xs) =
    record { now = x.now; medias = result_unwrap_or (medias_of hls.hls.urls x.bodies) []; files = s.1 }
    ∷ snapshots_along hls ((followed_with hls).after s x) xs

abbrev pub history_to : Run → (n : ℕ) → List Snapshot
history_to run n = snapshots_along (hls_in run) (first_of run) (accepted_among run n)

-- ---- laws

abbrev pub course_in : Run → Course
course_in run = course_with run.job run.place run.tracks run.files run.bytes

-- a run's course is that of what is followed with the files
abbrev pub TimedCoursesAreFollowed : Type 0
TimedCoursesAreFollowed = (run : Run)
    → course_in run ≡ follow_course (followed_with (hls_in run)) (round_stream (hls_in run).hls) (first_of run) run.bytes

-- where a snapshot was accepted, there is an MPD
abbrev pub AcceptedLeaveATimedMpd : Type 0
AcceptedLeaveATimedMpd = (run : Run) (n : ℕ) (round : Round) (more : List Round) → accepted_among run n ≡ round ∷ more
    → IsSome (left_by run n).0.follow.followed

-- where none was accepted, no file is written
abbrev pub NoneWriteNoTimedMpd : Type 0
NoneWriteNoTimedMpd = (run : Run) (n : ℕ) → accepted_among run n ≡ [] → files_to n (course_in run) ≡ []

-- After the files of any number of snapshots, of which at least one was accepted, the file has the text of the MPD after the
-- whole accepted history.
abbrev pub TimedFileIsOfTheHistory : Type 0
TimedFileIsOfTheHistory = (run : Run) (n : ℕ) (followed : State) (first last : Files) → (left_by run n).0.follow.followed ≡ Some followed
    → Changes (put_all (files_to n (course_in run))) (Some first) (Some last)
    → last (in_folder run.job.out (codes "live.mpd")) ≡ Some (live_text run.job.form followed.mpd)
