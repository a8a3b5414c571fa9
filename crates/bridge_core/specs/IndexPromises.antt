-- What `hls-index` guarantees for the files that it writes.
use Rattle.bridge_jobs.specs.declared.jobs.Job.TheVariants as jobs
use Rattle.bridge_courses.specs.declared.status.Status.TheVariants as status
use Rattle.std.specs.Prelude.{◌≡◌, ℕ, ◌^◌, List, ◌++◌, codes, Option, Some}
use Rattle.bridge_io.specs.Outside.{Files}
use Rattle.bridge_jobs.specs.{Jobs.job_of, Laws.in_folder}
use Rattle.bridge_jobs.specs.declared.jobs.IndexJob.{IndexJob}
use Rattle.bridge_courses.specs.{Courses.{Course, World}, Executions.IsExecution}
use Rattle.hls_meaning.specs.Meanings.{hls_meaning}
use Rattle.index_parts.specs.Meanings.{indexed_meaning}
use Rattle.meaning.specs.{Meanings.Meaning, Same.SameFloor}
use Rattle.bridge_report.specs.Bases.{file_url}
use Rattle.bridge_core.specs.Courses.{course_of}

-- the URL of the master playlist
abbrev pub master_url : IndexJob → List ℕ
master_url job = job.base ++ in_folder job.out (codes "master.m3u8")

-- The command's MPD has a meaning at its URL with the `sidx` of its media files (ISO/IEC 23009-1, 5.3.9.2), the written
-- playlists have a meaning (RFC 8216, 4.3), and it is the same, except that each time is rounded down.
pub record IndexMeansTheSame (job : IndexJob) (before after : Files) : Type 0 where
  pub bytes : List ℕ
  pub url : List ℕ
  pub there : before job.mpd ≡ Some bytes
  pub at : file_url job.base job.mpd ≡ Some url
  pub indexes : Meaning
  pub means : indexed_meaning bytes url job.base before ≡ Some indexes
  pub playlists : Meaning
  pub written : hls_meaning after job.base (master_url job) ≡ Some playlists
  pub same : SameFloor (10 ^ job.digits) indexes playlists

-- the command line asks for the playlists of an MPD and the `sidx` of its files
abbrev pub AsksForIndex : (words : List (List ℕ)) → IndexJob → Type 0
AsksForIndex words job = job_of words ≡ Some (jobs.HlsIndex job)

-- Where such a run succeeds, what it wrote means what the MPD and the `sidx` mean.
abbrev pub WrittenMeansTheIndexes : Type 0
WrittenMeansTheIndexes = (words : List (List ℕ)) (job : IndexJob) (input : Option (List ℕ)) (course : Course) (before after : World)
    (first last : Files)
    → AsksForIndex words job → before.files ≡ Some first → after.files ≡ Some last
    → course_of words (Some first) input ≡ Some course → IsExecution course status.Done before after → IndexMeansTheSame job first last
