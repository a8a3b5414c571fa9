-- What runs of `dash-times` guarantee for the MPD that they write, and those of `agree` for what they report.
use Rattle.bridge_jobs.specs.declared.jobs.Job.TheVariants as jobs
use Rattle.bridge_courses.specs.declared.status.Status.TheVariants as status
use Rattle.std.specs.Prelude.{◌≡◌, ℕ, List, Option, Some}
use Rattle.bridge_io.specs.{InOrder.put_all, Outside.Files}
use Rattle.bridge_jobs.specs.Jobs.{job_of}
use Rattle.bridge_jobs.specs.declared.jobs.{AgreeJob.AgreeJob, MasterJob.MasterJob}
use Rattle.bridge_courses.specs.{Courses.{Course, World}, Executions.IsExecution, declared.status.Status.Status}
use Rattle.bridge_reach.specs.Promises.{AllAgree, IsFirstApart, IsRead, IsWrittenTimed}
use Rattle.bridge_core.specs.Courses.{course_of}

-- ---- `dash-times`

-- the command line asks for the MPD of playlists with the decode times of the media files
abbrev pub AsksForTimes : (words : List (List ℕ)) → MasterJob → Type 0
AsksForTimes words job = job_of words ≡ Some (jobs.DashTimes job)

-- the files are the previous ones plus an MPD that has the decode times of its segments' files
pub record HasTheFilesTimes (job : MasterJob) (before after : Files) : Type 0 where
  pub written : List (List ℕ × List ℕ)
  pub timed : IsWrittenTimed job before written
  pub left : after ≡ put_all written before

-- This holds where such a run succeeds.
abbrev pub WrittenHasTheFilesTimes : Type 0
WrittenHasTheFilesTimes = (words : List (List ℕ)) (job : MasterJob) (input : Option (List ℕ)) (course : Course) (before after : World)
    (first last : Files)
    → AsksForTimes words job → before.files ≡ Some first → after.files ≡ Some last
    → course_of words (Some first) input ≡ Some course → IsExecution course status.Done before after → HasTheFilesTimes job first last

-- ---- `agree`

-- the command line asks whether the times of an MPD are the decode times of its media files
abbrev pub AsksToAgree : (words : List (List ℕ)) → AgreeJob → Type 0
AsksToAgree words job = job_of words ≡ Some (jobs.Agree job)

-- What holds for the command and the line of its course where such a run ends with a status.
abbrev pub TellsOfTimes : Status → (AgreeJob → Files → (line : List ℕ) → Type 0) → Type 0
TellsOfTimes end Of = (words : List (List ℕ)) (job : AgreeJob) (input : Option (List ℕ)) (course : Course) (before after : World)
    (files : Files)
    → AsksToAgree words job → before.files ≡ Some files
    → course_of words (Some files) input ≡ Some course → IsExecution course end before after → Of job files course.end.lines

-- Where it succeeds, each listed segment begins at its file's decode time.
abbrev pub DoneHasTheFilesTimes : Type 0
DoneHasTheFilesTimes = TellsOfTimes status.Done (λ job files line. IsRead job files (AllAgree files))

-- Where it ends as `Differ`, the line has the first one that doesn't; the report may have only a prefix of it.
abbrev pub DifferHasAnother : Type 0
DifferHasAnother = TellsOfTimes status.Differ (λ job files line. IsRead job files (IsFirstApart files line))
