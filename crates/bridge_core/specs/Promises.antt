-- What `hls` and `dash` guarantee for the files that they write, and `check` for those that it reads.
use Rattle.bridge_jobs.specs.declared.jobs.Job.TheVariants as jobs
use Rattle.bridge_courses.specs.declared.status.Status.TheVariants as status
use Rattle.std.specs.Prelude.{◌≡◌, ℕ, ℤ, ◌^◌, List, ◌++◌, codes, Option, Some, None}
use Rattle.bridge_io.specs.Outside.{Files}
use Rattle.bridge_jobs.specs.{Jobs.job_of, Laws.in_folder, declared.jobs.CheckJob.CheckJob, declared.jobs.HlsJob.HlsJob}
use Rattle.bridge_jobs.specs.declared.jobs.MasterJob.{MasterJob}
use Rattle.bridge_courses.specs.{Courses.{Course, World}, Executions.IsExecution}
use Rattle.hls_meaning.specs.Meanings.{hls_meaning}
use Rattle.meaning.specs.{Meanings.Meaning, Differences.first_difference, Same.{Agrees, SameExact, SameFloor}}
use Rattle.meaning.specs.declared.difference.Difference.{Difference}
use Rattle.mpd_presentation.specs.Meanings.{dash_meaning}
use Rattle.bridge_playlists.specs.{declared.place.StorePlace.StorePlace, Places.store_place_of}
use Rattle.bridge_compare.specs.Check.{differ_line}
use Rattle.bridge_core.specs.Courses.{course_of}
use Rattle.bridge_report.specs.Bases.{file_url}

-- the URL of the master playlist
abbrev pub master_url : HlsJob → List ℕ
master_url job = job.base ++ in_folder job.out (codes "master.m3u8")

-- The command's MPD has a meaning at its URL (ISO/IEC 23009-1, 5.3), the written playlists have a meaning (RFC 8216, 4.3),
-- and it is the same, except that each time is rounded down.
pub record MeansTheSame (job : HlsJob) (before after : Files) : Type 0 where
  pub bytes : List ℕ
  pub url : List ℕ
  pub there : before job.mpd ≡ Some bytes
  pub at : file_url job.base job.mpd ≡ Some url
  pub mpd : Meaning
  pub means : dash_meaning bytes url job.instant ≡ Some mpd
  pub playlists : Meaning
  pub written : hls_meaning after job.base (master_url job) ≡ Some playlists
  pub same : SameFloor (10 ^ job.digits) mpd playlists

-- the command line asks for the playlists of an MPD
abbrev pub AsksFor : (words : List (List ℕ)) → HlsJob → Type 0
AsksFor words job = job_of words ≡ Some (jobs.Hls job)

-- Where such a run succeeds, what it wrote means what the MPD means.
abbrev pub WrittenMeansTheMpd : Type 0
WrittenMeansTheMpd = (words : List (List ℕ)) (job : HlsJob) (input : Option (List ℕ)) (course : Course) (before after : World)
    (first last : Files)
    → AsksFor words job → before.files ≡ Some first → after.files ≡ Some last
    → course_of words (Some first) input ≡ Some course → IsExecution course status.Done before after → MeansTheSame job first last

-- ---- `dash`

-- The command's master playlist and its media playlists have a meaning (RFC 8216, 4.3), the written MPD has a meaning at
-- any URL and time (ISO/IEC 23009-1, 5.3), and it is the same.
pub record MpdMeansTheSame (job : MasterJob) (before after : Files) : Type 0 where
  pub place : StorePlace
  pub at : store_place_of job.base job.master ≡ Some place
  pub playlists : Meaning
  pub means : hls_meaning before place.folder place.url ≡ Some playlists
  pub text : List ℕ
  pub written : after (in_folder job.out (codes "manifest.mpd")) ≡ Some text
  pub mpd : Meaning
  pub told : (url : List ℕ) (now : Option ℤ) → dash_meaning text url now ≡ Some mpd
  pub same : SameExact playlists mpd

-- the command line asks for the MPD of playlists
abbrev pub AsksForMpd : (words : List (List ℕ)) → MasterJob → Type 0
AsksForMpd words job = job_of words ≡ Some (jobs.Dash job)

-- Where such a run succeeds, the MPD that it wrote means what the playlists mean.
abbrev pub WrittenMpdMeansThePlaylists : Type 0
WrittenMpdMeansThePlaylists = (words : List (List ℕ)) (job : MasterJob) (input : Option (List ℕ)) (course : Course) (before after : World)
    (first last : Files)
    → AsksForMpd words job → before.files ≡ Some first → after.files ≡ Some last
    → course_of words (Some first) input ≡ Some course → IsExecution course status.Done before after → MpdMeansTheSame job first last

-- ---- `check`

-- The command's MPD has a meaning at its URL (ISO/IEC 23009-1, 5.3), and so have its playlists (RFC 8216, 4.3).
pub record AreMeant (job : CheckJob) (files : Files) (mpd playlists : Meaning) : Type 0 where
  pub source : StorePlace
  pub source_at : store_place_of job.base job.mpd ≡ Some source
  pub bytes : List ℕ
  pub there : files job.mpd ≡ Some bytes
  pub means : dash_meaning bytes source.url None ≡ Some mpd
  pub master : StorePlace
  pub master_at : store_place_of job.base job.master ≡ Some master
  pub told : hls_meaning files master.folder master.url ≡ Some playlists

-- and these agree
pub record AreAgreed (job : CheckJob) (files : Files) : Type 0 where
  pub mpd : Meaning
  pub playlists : Meaning
  pub meant : AreMeant job files mpd playlists
  pub agree : Agrees (10 ^ job.digits) mpd playlists

-- or they don't, and the line is that of their first difference
pub record AreApart (job : CheckJob) (files : Files) (line : List ℕ) : Type 0 where
  pub mpd : Meaning
  pub playlists : Meaning
  pub meant : AreMeant job files mpd playlists
  pub apart : Agrees (10 ^ job.digits) mpd playlists → ⊥
  pub first : Difference
  pub found : first_difference (10 ^ job.digits) mpd playlists ≡ Some first
  pub told : line ≡ differ_line first

-- the command line asks whether an MPD and playlists agree
abbrev pub AsksToCheck : (words : List (List ℕ)) → CheckJob → Type 0
AsksToCheck words job = job_of words ≡ Some (jobs.Check job)

-- Where such a run succeeds, the MPD and the playlists agree.
abbrev pub DoneIsAgreed : Type 0
DoneIsAgreed =
    (words : List (List ℕ)) (job : CheckJob) (input : Option (List ℕ)) (course : Course) (before after : World) (files : Files)
    → AsksToCheck words job
    → before.files ≡ Some files
    → course_of words (Some files) input ≡ Some course → IsExecution course status.Done before after → AreAgreed job files

-- Where it ends as `Differ`, they don't, and its line, of which the report may have only a prefix, has their first
-- difference.
abbrev pub DifferIsApart : Type 0
DifferIsApart =
    (words : List (List ℕ)) (job : CheckJob) (input : Option (List ℕ)) (course : Course) (before after : World) (files : Files)
    → AsksToCheck words job
    → before.files ≡ Some files
    → course_of words (Some files) input ≡ Some course → IsExecution course status.Differ before after → AreApart job files course.end.lines
