-- What `compare` guarantees.
use Rattle.bridge_jobs.specs.declared.jobs.Job.TheVariants as jobs
use Rattle.bridge_courses.specs.declared.status.Verdict.TheVariants as verdict
use Rattle.std.specs.Prelude.{◌≡◌, ◌≤◌, ℕ, ◌^◌, Bool, List, ◌++◌, length, take, Ok, Option, Some, None}
use Rattle.bridge_io.specs.Outside.{Files}
use Rattle.meaning.specs.Meanings.{Meaning}
use Rattle.differences.specs.{Alike.without_starts, Deviating.{deviations, tracks_greatest}, declared.deviation.Deviation.Deviation}
use Rattle.presentation.specs.{Counting.capped, Presented.Presented}
use Rattle.mpd_presentation.specs.Meanings.{dash_meaning}
use Rattle.hls_meaning.specs.Meanings.{hls_meaning}
use Rattle.bridge_jobs.specs.{Jobs.job_of, declared.jobs.CompareJob.CompareJob}
use Rattle.bridge_courses.specs.{Courses.Course, declared.status.Verdict.Verdict}
use Rattle.bridge_report.specs.Outcomes.{Outcome, Ends}
use Rattle.bridge_playlists.specs.{declared.place.StorePlace.StorePlace, Places.store_place_of}
use Rattle.bridge_compare.specs.{Check.{check_outcome, differ_line}, Compare.{compare_outcome, live_refusal, text_of, verdict_of}}
use Rattle.bridge_steps.specs.Manifests.{mpd_at}
use Rattle.bridge_compare.specs.Lines.{deviation_line, track_lines}
use Rattle.bridge_core.specs.Courses.{course_of}

-- ---- what is told

-- The command's MPD has a meaning at its URL and time (ISO/IEC 23009-1, 5.3), and so have its playlists (RFC 8216, 4.3).
pub record AreMeantAt (job : CompareJob) (files : Files) (mpd playlists : Meaning) : Type 0 where
  pub source : StorePlace
  pub source_at : store_place_of job.check.base job.check.mpd ≡ Some source
  pub bytes : List ℕ
  pub there : files job.check.mpd ≡ Some bytes
  pub means : dash_meaning bytes source.url job.instant ≡ Some mpd
  pub master : StorePlace
  pub master_at : store_place_of job.check.base job.check.master ≡ Some master
  pub told : hls_meaning files master.folder master.url ≡ Some playlists

-- What is told is a list of differences: these are exactly those of both meanings above the tolerance, in order, and told as they are,
-- but for the starts of segments. The first ones are listed, all are counted, the greatest one of time is told for each track, and the
-- run is done where there is none, with the numbers of the MPD's tracks, sections and segments.
pub record TellsAll (job : CompareJob) (files : Files) (end : Verdict) (line : List ℕ) : Type 0 where
  pub mpd : Meaning
  pub playlists : Meaning
  pub meant : AreMeantAt job files mpd playlists
  pub all : List Deviation
  pub exactly : without_starts all ≡ without_starts (deviations job.within (10 ^ job.check.digits) mpd playlists)
  pub shown : Presented
  pub is_shown : mpd_at (live_refusal job.instant) (10 ^ job.check.digits) job.instant meant.source files ≡ Ok shown
  pub verdict : end ≡ verdict_of (capped (length all))
  pub told : line ≡ text_of (record {
    first = take job.most all;
    count = capped (length all);
    greatest = tracks_greatest mpd.tracks playlists.tracks;
  }) shown

-- the command line asks for all differences
abbrev pub AsksToCompare : (words : List (List ℕ)) → CompareJob → Type 0
AsksToCompare words job = job_of words ≡ Some (jobs.Compare job)

-- Where such a run isn't refused, it tells all of them; the report may have only a prefix of its lines.
abbrev pub ComparedTellsAll : Type 0
ComparedTellsAll = (words : List (List ℕ)) (job : CompareJob) (input : Option (List ℕ)) (course : Course) (files : Files)
    → AsksToCompare words job → course_of words (Some files) input ≡ Some course
    → (course.end.verdict ≡ verdict.Refused → ⊥) → TellsAll job files course.end.verdict course.end.lines

-- ---- beside `check`

-- Both are refused with one line; or both are done, and the line of `check` comes after those of the tracks; or both tell a difference,
-- and the first line is of the one that `check` tells.
abbrev pub IsCheckedAlike : Verdict → (line check : List ℕ) → Type 0
IsCheckedAlike verdict.Done line check = (greatest : List ℕ) × (line ≡ track_lines 0 greatest ++ check)
IsCheckedAlike verdict.Differ line check =
    (first : Deviation) × ((check ≡ differ_line first.at) × ((rest : List ℕ) × (line ≡ deviation_line first ++ rest)))
IsCheckedAlike other line check = line ≡ check

pub record AreAlike (compared checked : Option Outcome) : Type 0 where
  pub verdict : Verdict
  pub line : List ℕ
  pub check : List ℕ
  pub reads : Bool
  pub counts : Bool
  pub is_compared : compared ≡ Some (Ends verdict line reads counts)
  pub is_checked : checked ≡ Some (Ends verdict check reads counts)
  pub alike : IsCheckedAlike verdict line check

-- Without a time and without a tolerance a command ends as `check` does, whatever the files contain.
abbrev pub ComparedAsChecked : Type 0
ComparedAsChecked = (job : CompareJob) (files : Files) → job.instant ≡ None → job.within ≡ 0 → 1 ≤ job.most
    → AreAlike (compare_outcome job (Some files)) (check_outcome job.check (Some files))
