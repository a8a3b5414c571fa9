-- The files after runs of `follow-hls`.
use Rattle.bridge_jobs.specs.declared.jobs.Job.TheVariants as jobs
use Rattle.std.specs.{Prelude.{◌≡◌, ◌⊎◌, ℕ, List, [], codes, length, Some, Ok, option_map}, Result.result_ok}
use Rattle.bridge_io.specs.{InOrder.put_all, Outside.{Files, Changes}}
use Rattle.bridge_jobs.specs.{Frames.start, Jobs.job_of, Laws.in_folder, declared.jobs.MasterJob.MasterJob}
use Rattle.bridge_courses.specs.Courses.{Course, files_to}
use Rattle.hls_master.specs.declared.track.MasterTrack.{MasterTrack}
use Rattle.hls_follow.specs.declared.state.Followed.{Followed}
use Rattle.dash_writer.specs.Live.{live_text}
use Rattle.bridge_playlists.specs.{declared.place.StorePlace.StorePlace, Places.store_place_of, Playlists.master_at}
use Rattle.bridge_reach.specs.{RoundLaws.{accepted_among, left_by}, Rounds.{hls_of, round_stream}}
use Rattle.bridge_core.specs.Courses.{course_of}
use Rattle.mpd_tree.specs.Meaning.{reading_of}
use Rattle.mpd_rules.specs.Rules.{dash_values}
use Rattle.laws_of_mpds.specs.{Live.live_shown, Shown.shown_of}
use Rattle.laws_of_jobs.specs.Ends.{Leaves}

-- This command line asks to follow the media playlists of the master playlist at this location, which has these tracks, with this
-- course for this input.
pub record IsFollowingRounds (words : List (List ℕ)) (job : MasterJob) (files : Files) (tracks : List MasterTrack) (input : List ℕ)
    (course : Course) : Type 0 where
  pub asks : job_of words ≡ Some (jobs.FollowHls job)
  pub place : StorePlace
  pub at : store_place_of job.base job.master ≡ Some place
  pub read : master_at place files ≡ Ok tracks
  pub goes : course_of words (Some files) (Some input) ≡ Some course

-- how many snapshots an input has
abbrev pub rounds_in : MasterJob → List MasterTrack → (input : List ℕ) → ℕ
rounds_in job tracks input = length (round_stream (hls_of job tracks) start input).0

-- None of the first n snapshots is accepted and the files are unchanged, or the MPD is that of the whole accepted history, and each
-- other file is unchanged.
abbrev pub HoldsMpd : MasterJob → List MasterTrack → (input : List ℕ) → (n : ℕ) → (first last : Files) → Type 0
HoldsMpd job tracks input n first last =
    ((accepted_among job tracks input n ≡ []) × (last ≡ first))
    ⊎ ((followed : Followed) × ((left_by job tracks input n).follow.followed ≡ Some followed)
    × (last (in_folder job.out (codes "live.mpd")) ≡ Some (live_text job.form followed.mpd)))

-- This holds after the files of any number of snapshots.
abbrev pub RoundFilesAreOfTheHistory : Type 0
RoundFilesAreOfTheHistory =
    (words : List (List ℕ)) (job : MasterJob) (files : Files) (tracks : List MasterTrack) (input : List ℕ) (course : Course) (n : ℕ)
    (first last : Files) → IsFollowingRounds words job files tracks input course
    → Changes (put_all (files_to n course)) (Some first) (Some last) → HoldsMpd job tracks input n first last

-- Where some of the first n snapshots are accepted, the MPD is read back with its values, whatever is available at a time: until all
-- playlists have EXT-X-ENDLIST, that it is dynamic, when the presentation begins and when the last snapshot was read, and each Period's
-- id, start and lists.
abbrev pub FollowedRunsAreRead : Type 0
FollowedRunsAreRead =
    (words : List (List ℕ)) (job : MasterJob) (files : Files) (tracks : List MasterTrack) (input : List ℕ) (course : Course) (n : ℕ)
    (followed : Followed) → IsFollowingRounds words job files tracks input course
    → (left_by job tracks input n).follow.followed ≡ Some followed
    → option_map (λ tree. shown_of (dash_values tree)) (result_ok (reading_of (live_text job.form followed.mpd)))
    ≡ Some (live_shown job.form followed.mpd)

-- however a run ends
abbrev pub FollowHlsLeavesHistory : Type 0
FollowHlsLeavesHistory = (words : List (List ℕ)) (job : MasterJob) (files : Files) (tracks : List MasterTrack) (input : List ℕ)
    (course : Course) → IsFollowingRounds words job files tracks input course
    → Leaves (HoldsMpd job tracks input) (rounds_in job tracks input) course
