-- How far a run that follows something reads standard input, against the files that it leaves.
use Rattle.bridge_courses.specs.declared.status.Status.TheVariants as status
use Rattle.std.specs.Prelude.{◌≡◌, ℕ, ◌+◌, ◌<◌, ◌≤◌, List, drop, slice_get, sum_by, take, Some, unwrap_or}
use Rattle.bridge_io.specs.{Fault.Rose, Outside.Files}
use Rattle.bridge_jobs.specs.{Frames.{frames_of, start}, declared.jobs.FollowJob.FollowJob, declared.jobs.MasterJob.MasterJob}
use Rattle.bridge_courses.specs.{Courses.{Course, World}, declared.status.Status.Status}
use Rattle.hls_master.specs.declared.track.MasterTrack.{MasterTrack}
use Rattle.bridge_playlists.specs.declared.place.StorePlace.{StorePlace}
use Rattle.bridge_reach.specs.{Rounds.{hls_of, round_stream}, TimedRoundLaws.{Run, hls_in}}
use Rattle.laws_of_jobs.specs.{Ends.{AreOfSteps, Held, IsRunOver, LeavesSteps}, Files.HoldsHistory, Histories.IsFollowing}
use Rattle.laws_of_jobs.specs.{RoundRuns.{HoldsMpd, IsFollowingRounds}, TimedFollowing.{HoldsTimedMpd, IsFollowingTimes}}

-- ---- by the bytes that each step asks for, and at last the end

-- the bytes that the first n steps ask for, and those of the next one
abbrev pub bytes_to : (n : ℕ) (taken : List ℕ) → ℕ
bytes_to n taken = sum_by (λ count. count) (take n taken)

abbrev pub bytes_at : (n : ℕ) (taken : List ℕ) → ℕ
bytes_at n taken = unwrap_or (slice_get taken n) 0

-- The files are those of some first steps, and of the next one nothing, or some, or all. Of the input the bytes of the first steps are
-- read, and at most those of the next one.
pub record HasReadTo (Holds : Held) (taken : List ℕ) (course : Course) (input rest : List ℕ) (first last : Files) : Type 0 where
  pub leaves : LeavesSteps Holds course first last
  pub some : ℕ
  pub within : some ≤ bytes_at leaves.n taken
  pub unread : rest ≡ drop (bytes_to leaves.n taken + some) input

-- The files are those of some first steps, and the bytes that are read behind theirs are fewer than those of the next one.
pub record LosesNone (Holds : Held) (taken : List ℕ) (course : Course) (input rest : List ℕ) (first last : Files) : Type 0 where
  pub n : ℕ
  pub steps : AreOfSteps Holds course n first last
  pub some : ℕ
  pub fewer : some < bytes_at n taken
  pub unread : rest ≡ drop (bytes_to n taken + some) input

-- a run over these files that leaves `rest` of this input
pub record IsReadingRun (course : Course) (end : Status) (before after : World) (first last : Files) (input rest : List ℕ) : Type 0 where
  pub run : IsRunOver course end before after first last
  pub had : before.input ≡ Some input
  pub left : after.input ≡ Some rest

-- However a run ends, it read no further than for the step after those whose files it leaves; and where it ends by a failed read, and no
-- read of a file failed, none is lost whose bytes are all read.
pub record ReadsNoFurther (Holds : Held) (taken : List ℕ) (course : Course) (input : List ℕ) : Type 0 where
  pub ends : (end : Status) (before after : World) (first last : Files) (rest : List ℕ)
      → IsReadingRun course end before after first last input rest → HasReadTo Holds taken course input rest first last
  pub read_fault : (before after : World) (first last : Files) (rest : List ℕ)
      → IsReadingRun course status.ReadFault before after first last input rest
      → (Rose before.read_faults after.read_faults → ⊥) → LosesNone Holds taken course input rest first last

-- ---- of update frames, and of snapshots

abbrev pub FollowReadsNoFurther : Type 0
FollowReadsNoFurther = (words : List (List ℕ)) (job : FollowJob) (place : StorePlace) (input : List ℕ) (course : Course)
    → IsFollowing words job place input course
    → ReadsNoFurther (λ n first mid. HoldsHistory job place n input mid) (frames_of input).taken course input

abbrev pub FollowHlsReadsNoFurther : Type 0
FollowHlsReadsNoFurther = (words : List (List ℕ)) (job : MasterJob) (files : Files) (tracks : List MasterTrack) (input : List ℕ)
    (course : Course) → IsFollowingRounds words job files tracks input course
    → ReadsNoFurther (HoldsMpd job tracks input) (round_stream (hls_of job tracks) start input).2 course input

abbrev pub TimedRunReadsNoFurther : Type 0
TimedRunReadsNoFurther = (words : List (List ℕ)) (run : Run) (course : Course) → IsFollowingTimes words run course
    → ReadsNoFurther (HoldsTimedMpd run) (round_stream (hls_in run).hls start run.bytes).2 course run.bytes
