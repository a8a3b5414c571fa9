-- Runs of `follow-hls-times`.
use Rattle.bridge_jobs.specs.declared.jobs.Job.TheVariants as jobs
use Rattle.std.specs.Prelude.{◌≡◌, ◌⊎◌, ℕ, ◌+◌, List, [], codes, length, slice_get, All, Some, None, Ok}
use Rattle.bridge_io.specs.{InOrder.put_all, Outside.{Files, Changes}}
use Rattle.dash_writer.specs.{Live.live_text, declared.live.LivePeriod.LivePeriod}
use Rattle.hls_follow.specs.{Histories.HasNumber, Listed.GoesOn, TimedHistories.{IsInStep, IsPlaced, accepted_after}}
use Rattle.hls_follow.specs.{TimedListed.{ListsOwnTrack, OwnPlaced}, declared.state.Followed.Followed}
use Rattle.hls_follow.specs.declared.state.FollowedTrack.{FollowedTrack}
use Rattle.bridge_jobs.specs.{Jobs.job_of, Laws.in_folder}
use Rattle.bridge_courses.specs.Courses.{Course, files_to}
use Rattle.bridge_playlists.specs.{Places.store_place_of, Playlists.master_at}
use Rattle.bridge_reach.specs.TimedRoundLaws.{Run, accepted_among, history_to, left_by, snapshots_in}
use Rattle.bridge_core.specs.Courses.{course_of}
use Rattle.laws_of_jobs.specs.Ends.{Leaves}

-- This command line asks to follow the media playlists of the master playlist at this location, which has these tracks, with the times of
-- the files, with this course for these files and this input.
pub record IsFollowingTimes (words : List (List ℕ)) (run : Run) (course : Course) : Type 0 where
  pub asks : job_of words ≡ Some (jobs.FollowHlsTimes run.job)
  pub at : store_place_of run.job.base run.job.master ≡ Some run.place
  pub read : master_at run.place run.files ≡ Ok run.tracks
  pub goes : course_of words (Some run.files) (Some run.bytes) ≡ Some course

-- ---- states

-- A run's state is that after its whole history of accepted snapshots, each with the store's files then.
abbrev pub TimedLeftIsOfTheHistory : Type 0
TimedLeftIsOfTheHistory = (run : Run) (n : ℕ)
    → (left_by run n).0.follow.followed ≡ accepted_after run.tracks run.place.folder None (history_to run n)

-- A segment that a later snapshot lists again, by its track and its number, keeps its Period's id and start, its timescale, its
-- presentation time offset, its own start, its file, and its init segment.
abbrev pub TimedListedSegmentsStay : Type 0
TimedListedSegmentsStay = (run : Run) (m n : ℕ) (old new : Followed) (place number : ℕ) (placed : OwnPlaced)
    → (left_by run m).0.follow.followed ≡ Some old → (left_by run (m + n)).0.follow.followed ≡ Some new
    → IsPlaced old place number placed → HasNumber new place number → IsPlaced new place number placed

-- The MPD lists the segments of the last playlists, each with its time and until the next one of its run begins; the offsets of a Period's
-- tracks over their timescales are one time, which isn't after any listed segment.
pub record IsOfLastPlaylists (followed : Followed) : Type 0 where
  pub listed : (place : ℕ) (track : FollowedTrack) → slice_get followed.tracks place ≡ Some track → ListsOwnTrack followed place track
  pub goes : All (λ (period : LivePeriod). All GoesOn period.runs) followed.mpd.periods
  pub step : All IsInStep followed.mpd.periods

abbrev pub TimedRunsListTheirPlaylists : Type 0
TimedRunsListTheirPlaylists = (run : Run) (n : ℕ) (followed : Followed) → (left_by run n).0.follow.followed ≡ Some followed
    → IsOfLastPlaylists followed

-- ---- files

-- how many snapshots an input has
abbrev pub snapshots_of : Run → ℕ
snapshots_of run = length (snapshots_in run)

-- None of the first n snapshots is accepted and the files are unchanged, or the MPD is that of the whole accepted history, and each
-- other file is unchanged.
abbrev pub HoldsTimedMpd : Run → (n : ℕ) → (first last : Files) → Type 0
HoldsTimedMpd run n first last =
    ((accepted_among run n ≡ []) × (last ≡ first))
    ⊎ ((followed : Followed) × ((left_by run n).0.follow.followed ≡ Some followed)
    × (last (in_folder run.job.out (codes "live.mpd")) ≡ Some (live_text run.job.form followed.mpd)))

-- This holds after the files of any number of snapshots.
abbrev pub TimedFilesAreOfTheHistory : Type 0
TimedFilesAreOfTheHistory = (words : List (List ℕ)) (run : Run) (course : Course) (n : ℕ) (first last : Files)
    → IsFollowingTimes words run course → Changes (put_all (files_to n course)) (Some first) (Some last) → HoldsTimedMpd run n first last

-- however a run ends
abbrev pub TimedRunLeavesHistory : Type 0
TimedRunLeavesHistory = (words : List (List ℕ)) (run : Run) (course : Course) → IsFollowingTimes words run course
    → Leaves (HoldsTimedMpd run) (snapshots_of run) course
