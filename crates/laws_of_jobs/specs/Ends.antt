-- The files after a run that follows something, however it ends.
use Rattle.bridge_courses.specs.declared.status.Status.TheVariants as status
use Rattle.std.specs.Prelude.{◌≡◌, ◌⊎◌, ℕ, List, [], ◌∷◌, ◌++◌, length, slice_get, Some}
use Rattle.bridge_io.specs.{InOrder.{put_all, AreBegun}, Outside.{Files, Changes}}
use Rattle.bridge_jobs.specs.declared.jobs.FollowJob.{FollowJob}
use Rattle.bridge_courses.specs.{Courses.{Course, Step, World, files_to, last_step}, Executions.{IsExecution, status_by}}
use Rattle.bridge_courses.specs.{declared.status.Status.Status, declared.status.Verdict.Verdict}
use Rattle.bridge_playlists.specs.declared.place.StorePlace.{StorePlace}
use Rattle.laws_of_jobs.specs.{Histories.{IsFollowing, frames_in}, Files.HoldsHistory}

-- ---- the files after a course

-- what holds for the files after the first n steps, given the files before
abbrev pub Held : Type 1
Held = (n : ℕ) → (first mid : Files) → Type 0

-- the files satisfy it
pub record AreOfSteps (Holds : Held) (course : Course) (n : ℕ) (first mid : Files) : Type 0 where
  pub done : Changes (put_all (files_to n course)) (Some first) (Some mid)
  pub holds : Holds n first mid

-- The files are those of some first steps, and of the next one nothing, or some with one begun, or all.
pub record LeavesSteps (Holds : Held) (course : Course) (first last : Files) : Type 0 where
  pub n : ℕ
  pub mid : Files
  pub steps : AreOfSteps Holds course n first mid
  pub step : Step
  pub next : slice_get (course.steps ++ last_step course.end ∷ []) n ≡ Some step
  pub left : (last ≡ mid) ⊎ (AreBegun step.files (Some mid) (Some last) ⊎ Changes (put_all step.files) (Some mid) (Some last))

-- a run from these files to those
pub record IsRunOver (course : Course) (end : Status) (before after : World) (first last : Files) : Type 0 where
  pub run : IsExecution course end before after
  pub was : before.files ≡ Some first
  pub is : after.files ≡ Some last

-- However a run ends, it leaves the files of some steps; where it succeeds, or its stream is rejected, of all `steps`; and where a
-- read failed, only of some first ones.
pub record Leaves (Holds : Held) (steps : ℕ) (course : Course) : Type 0 where
  pub ends : (end : Status) (before after : World) (first last : Files) → IsRunOver course end before after first last
      → LeavesSteps Holds course first last
  pub verdict : (v : Verdict) (before after : World) (first last : Files) → IsRunOver course (status_by v) before after first last
      → AreOfSteps Holds course steps first last
  pub read_fault : (before after : World) (first last : Files) → IsRunOver course status.ReadFault before after first last
      → (n : ℕ) × AreOfSteps Holds course n first last

-- ---- `follow`

abbrev pub FollowLeavesHistory : Type 0
FollowLeavesHistory = (words : List (List ℕ)) (job : FollowJob) (place : StorePlace) (input : List ℕ) (course : Course)
    → IsFollowing words job place input course
    → Leaves (λ n first mid. HoldsHistory job place n input mid) (length (frames_in input)) course
