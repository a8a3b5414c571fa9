-- What each status of a run implies.
use Rattle.bridge_courses.specs.declared.status.Status.TheVariants as status
use Rattle.bridge_courses.specs.declared.ending.Ending.TheVariants as ending
use Rattle.std.specs.Prelude.{◌≡◌, ◌≢◌, ◌⊎◌, ℕ, suc, ◌+◌, ◌<◌, ◌≤◌, IsTrue, List, [], ◌∷◌, ◌++◌, take, length, slice_get, sum_by, All}
use Rattle.std.specs.Prelude.{Option, Some}
use Rattle.bridge_io.specs.{Fault.Rose, Outside.{Files, Changes, Appends, AppendsFront}, InOrder.{put_all, AreBegun}}
use Rattle.bridge_courses.specs.{declared.status.Status.Status, declared.status.Verdict.Verdict, Courses.{Step, Course, World, files_of}}
use Rattle.bridge_courses.specs.Courses.{TakesBytes, taken_at, taken_to}
use Rattle.bridge_courses.specs.{Courses.{files_to, lines_to, report_of, last_step, Reaches}, Executions.{IsExecution, status_by, line_of}}

-- the whole course is done: its files and its report are written
pub record IsDone (course : Course) (before after : World) : Type 0 where
  pub files : Changes (put_all (files_of course)) before.files after.files
  pub report : Appends (report_of course) before.report after.report

-- a successful run has written the files of its course and its whole report
abbrev pub DoneIsWhole : Type 0
DoneIsWhole = (course : Course) (before after : World) → IsExecution course status.Done before after → IsDone course before after

-- a run that ends with a verdict, not with an I/O error or out of memory, has written the files of all steps
abbrev pub VerdictKeepsSteps : Type 0
VerdictKeepsSteps = (course : Course) (v : Verdict) (before after : World) → IsExecution course (status_by v) before after →
    (v ≡ course.end.verdict) × Changes (put_all (files_of course)) before.files after.files

-- only steps before which no file is written read
abbrev pub ReadsFirst : Course → Type 0
ReadsFirst course = (before mid : World) (step : Step) → Reaches course before mid step → IsTrue step.reads → mid.files ≡ before.files

-- where reading comes before writing, a run that ends with a read error wrote nothing
abbrev pub ReadFaultKeepsFiles : Type 0
ReadFaultKeepsFiles =
    (course : Course) (before after : World) → ReadsFirst course → IsExecution course status.ReadFault before after
    → after.files ≡ before.files

-- each fault has a cause
abbrev pub ReadFaultRose : Type 0
ReadFaultRose = (course : Course) (before after : World) → IsExecution course status.ReadFault before after →
    Rose before.read_faults after.read_faults ⊎ Rose before.input_faults after.input_faults

abbrev pub WriteFaultRose : Type 0
WriteFaultRose = (course : Course) (before after : World) → IsExecution course status.WriteFault before after →
    Rose before.write_faults after.write_faults ⊎ Rose before.report_faults after.report_faults

-- no count of faults rose
pub record IsCalm (before after : World) : Type 0 where
  pub input : Rose before.input_faults after.input_faults → ⊥
  pub reads : Rose before.read_faults after.read_faults → ⊥
  pub writes : Rose before.write_faults after.write_faults → ⊥
  pub report : Rose before.report_faults after.report_faults → ⊥

-- where no count of faults rose, a run ends as its course says, or out of memory
abbrev pub IsComplete : Type 0
IsComplete = (course : Course) (end : Status) (before after : World) → IsExecution course end before after → IsCalm before after →
    (end ≡ status_by course.end.verdict) ⊎ (end ≡ status.Memory)

-- a name other than that of a file, of all files of a step, and of all files of a course
abbrev pub IsAnother : List ℕ → List ℕ × List ℕ → Type 0
IsAnother name file = file.0 ≢ name

abbrev pub IsNotIn : List ℕ → Step → Type 0
IsNotIn name step = All (IsAnother name) step.files

abbrev pub IsElsewhere : List ℕ → Course → Type 0
IsElsewhere name course = All (IsNotIn name) course.steps

-- however a run ends, every file that its course doesn't name is unchanged
abbrev pub OthersStay : Type 0
OthersStay = (course : Course) (end : Status) (before after : World) (first last : Files) (name : List ℕ)
    → IsExecution course end before after →
    before.files ≡ Some first → after.files ≡ Some last → IsElsewhere name course → last name ≡ first name

-- ---- step by step

-- The files of some first steps are written, and of the next one none, or some and one may be begun, or all. Every other
-- file is unchanged.
pub record LeavesSteps (course : Course) (before after : Option Files) : Type 0 where
  pub n : ℕ
  pub mid : Option Files
  pub done : Changes (put_all (files_to n course)) before mid
  pub step : Step
  pub next : slice_get (course.steps ++ last_step course.end ∷ []) n ≡ Some step
  pub left : (after ≡ mid) ⊎ (AreBegun step.files mid after ⊎ Changes (put_all step.files) mid after)

-- however a run ends, it has written the files of some first steps, and some of the next one
abbrev pub ExecutionLeavesSteps : Type 0
ExecutionLeavesSteps =
    (course : Course) (end : Status) (before after : World) → IsExecution course end before after
    → LeavesSteps course before.files after.files

-- a run that ends with a read error has written exactly the files of some first steps
abbrev pub ReadFaultLeavesSteps : Type 0
ReadFaultLeavesSteps = (course : Course) (before after : World) → IsExecution course status.ReadFault before after →
    (n : ℕ) × Changes (put_all (files_to n course)) before.files after.files

-- ---- standard input

-- The files of the first n steps are written, and some or all of those of the next one. Of the input all bytes are read that those n
-- ask for, and at most as many more as the next one does.
pub record ReadsSteps (course : Course) (before after : World) : Type 0 where
  pub leaves : LeavesSteps course before.files after.files
  pub some : ℕ
  pub within : some ≤ taken_at leaves.n course
  pub input : TakesBytes (taken_to leaves.n course + some) before.input after.input

-- however a run ends, it reads no further than for the step after those that are done
abbrev pub ExecutionReadsSteps : Type 0
ExecutionReadsSteps =
    (course : Course) (end : Status) (before after : World) → IsExecution course end before after → ReadsSteps course before after

-- a run that ends with a verdict read what its steps and its end ask for
abbrev pub VerdictReadsAll : Type 0
VerdictReadsAll = (course : Course) (v : Verdict) (before after : World) → IsExecution course (status_by v) before after →
    TakesBytes (taken_to (suc (length course.steps)) course) before.input after.input

-- After a read error the files of some first steps are written, and no others. Where no read of a file failed, fewer bytes of the input
-- are read than the next step asks for, beyond those of the steps that are done.
abbrev pub ReadFaultReadsFewer : Type 0
ReadFaultReadsFewer = (course : Course) (before after : World) → IsExecution course status.ReadFault before after →
    (n : ℕ) × Changes (put_all (files_to n course)) before.files after.files
    × (Rose before.read_faults after.read_faults
    ⊎ ((some : ℕ) × (some < taken_at n course) × TakesBytes (taken_to n course + some) before.input after.input))

-- ---- segments

-- the number of segments made: all those of some first steps, and some of the next one
pub record MadeSteps (course : Course) (before after : ℕ) : Type 0 where
  pub n : ℕ
  pub within : n ≤ length course.steps
  pub least : before + sum_by (λ step. step.least) (take n course.steps) ≤ after
  pub most : after ≤ before + sum_by (λ step. step.most) (take (suc n) course.steps)

-- however a run of a counting course ends, it made the segments of some first steps, and some of the next one
abbrev pub ExecutionMakesSteps : Type 0
ExecutionMakesSteps = (course : Course) (end : Status) (before after : World) → IsTrue course.counts → IsExecution course end before after →
    MadeSteps course before.made after.made

-- ---- the report

-- Where the sink doesn't fail, a run that ends with a verdict writes its whole report, and one that ends with an I/O error
-- the lines of some first steps and then its own.
abbrev pub VerdictTellsSteps : Type 0
VerdictTellsSteps = (course : Course) (v : Verdict) (before after : World) → IsExecution course (status_by v) before after →
    (Rose before.report_faults after.report_faults → ⊥) → Appends (report_of course) before.report after.report

abbrev pub ReadFaultTellsSteps : Type 0
ReadFaultTellsSteps = (course : Course) (before after : World) → IsExecution course status.ReadFault before after →
    (Rose before.report_faults after.report_faults → ⊥) →
    (n : ℕ) × Appends (lines_to n course ++ line_of ending.ReadFault) before.report after.report

abbrev pub WriteFaultTellsSteps : Type 0
WriteFaultTellsSteps = (course : Course) (before after : World) → IsExecution course status.WriteFault before after →
    (Rose before.report_faults after.report_faults → ⊥) →
    (n : ℕ) × Appends (lines_to n course ++ line_of ending.WriteFault) before.report after.report

-- the line of an I/O error or of out of memory; the lines of a verdict are the end of its course
abbrev pub fault_line : Status → List ℕ
fault_line status.ReadFault = line_of ending.ReadFault
fault_line status.WriteFault = line_of ending.WriteFault
fault_line status.Memory = line_of ending.Memory
fault_line other = []

-- the report got a prefix of the course's report, and then a prefix of a line
pub record TellsFronts (course : Course) (line : List ℕ) (before after : Option (List ℕ)) : Type 0 where
  pub mid : Option (List ℕ)
  pub lines : AppendsFront (report_of course) before mid
  pub ended : AppendsFront line mid after

-- However a run ends, it wrote a prefix of the course's report, and then a prefix of the line of its status, or of any
-- status where memory runs out: it may run out for the line itself.
abbrev pub ExecutionTellsFronts : Type 0
ExecutionTellsFronts = (course : Course) (end : Status) (before after : World) → IsExecution course end before after →
    (told : Status) × ((told ≡ end) ⊎ (end ≡ status.Memory)) × TellsFronts course (fault_line told) before.report after.report
