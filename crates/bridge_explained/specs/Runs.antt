-- What a run with explanations does: what the run without them does, and lines behind its report.
use Rattle.bridge_courses.specs.declared.status.Status.TheVariants as status
use Rattle.std.specs.Prelude.{◌≡◌, ◌⊎◌, ◌≤◌, ℕ, List, Option, Some, None, unwrap_or}
use Rattle.std.specs.Option.{ForSome}
use Rattle.bridge_io.specs.declared.outside.Sink.{Ghosts as Sink}
use Rattle.bridge_io.specs.declared.outside.Store.{Ghosts as Store}
use Rattle.bridge_io.specs.{Fault.Rose, Outside.{Appends, Files}}
use Rattle.bridge_jobs.specs.Jobs.{job_of}
use Rattle.bridge_courses.specs.declared.status.Status.{Status}
use Rattle.bridge_courses.specs.declared.ending.Ending.TheVariants as ending
use Rattle.bridge_courses.specs.{Courses.World, Executions.{IsExecution, Tells, status_by}, Laws.IsCalm}
use Rattle.bridge_core.specs.Courses.{ReadRose, ReadsNoFile, WritesNoFile, course_of}
use Rattle.bridge_core.specs.Reports.{TellsItsEnd}
use Rattle.bridge_explained.specs.Words.{plain_words}

-- ---- a run without explanations

-- what is promised of a run of these words, with these files and this input
pub record IsPlainRun (words : List (List ℕ)) (files : Option Files) (input : Option (List ℕ)) (end : Status) (before after : World)
    : Type 0 where
  pub run : ForSome (course_of words files input) (λ course. IsExecution course end before after)
  pub complete : ForSome (course_of words files input)
      (λ course. IsCalm before after → (end ≡ status_by course.end.verdict) ⊎ (end ≡ status.Memory))
  pub usage : end ≡ status.Words → job_of words ≡ None
  pub read_fault : end ≡ status.ReadFault
      → ReadRose (job_of words) before.input_faults after.input_faults before.read_faults after.read_faults
  pub write_fault : end ≡ status.WriteFault → Rose before.write_faults after.write_faults ⊎ Rose before.report_faults after.report_faults
  pub told : TellsItsEnd end before.report_faults after.report_faults before.report after.report
  pub reads : ReadsNoFile (job_of words) → after.read_faults ≡ before.read_faults
  pub writes : WritesNoFile (job_of words) → after.write_faults ≡ before.write_faults

-- ---- the explanations

-- Lines are appended to the report, or as much of them as the sink takes. Files are read at most.
pub record AddsNotes {F P : Type 0} (store : Store F) (sink : Sink P) (before after : F) (report report' : P) : Type 0 where
  pub files : store.files after ≡ store.files before
  pub reads : store.read_faults before ≤ store.read_faults after
  pub writes : store.write_faults after ≡ store.write_faults before
  pub notes : List ℕ
  pub told : Appends notes (sink.written report) (sink.written report')
  pub faults : sink.faults report ≤ sink.faults report'

-- the same of a run's environment
pub record AreNotes (before after : World) : Type 0 where
  pub notes : List ℕ
  pub told : Appends notes before.report after.report
  pub reads : before.read_faults ≤ after.read_faults
  pub faults : before.report_faults ≤ after.report_faults
  pub rest : after ≡ record before { report = after.report; read_faults = after.read_faults; report_faults = after.report_faults }

-- The run of these words, with its files and its report, and then the lines that explain it.
pub record IsRunWithNotes (words : List (List ℕ)) (files : Option Files) (input : Option (List ℕ)) (end : Status) (before after : World)
    : Type 0 where
  pub mid : World
  pub plain : IsPlainRun words files input end before mid
  pub notes : AreNotes mid after

-- ---- a run

-- the words without `--explain`
abbrev pub words_run : List (List ℕ) → List (List ℕ)
words_run words = unwrap_or (plain_words words) words

-- without `--explain`, or with the words that are left without it; or memory ran out for these
abbrev pub IsRunOf : Option (List (List ℕ)) → (words : List (List ℕ)) → Option Files → Option (List ℕ) → Status → (before after : World)
    → Type 0
IsRunOf None words files input end before after = IsPlainRun words files input end before after
IsRunOf (Some rest) words files input end before after = IsRunWithNotes rest files input end before after
    ⊎ Tells ending.Memory end before after

abbrev pub IsExplainedRun : (words : List (List ℕ)) → Option Files → Option (List ℕ) → Status → (before after : World) → Type 0
IsExplainedRun words files input end before after = IsRunOf (plain_words words) words files input end before after
