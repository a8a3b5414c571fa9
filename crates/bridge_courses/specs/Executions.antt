-- What a run of a course leaves, however it ends.
use Rattle.bridge_io.specs.declared.outside.Fail.TheVariants as fail
use Rattle.bridge_courses.specs.declared.status.Status.TheVariants as status
use Rattle.bridge_courses.specs.declared.status.Verdict.TheVariants as verdict
use Rattle.bridge_courses.specs.declared.ending.Ending.TheVariants as ending
use Rattle.std.specs.Prelude.{◌≡◌, ◌⊎◌, ℕ, ◌<◌, ◌≤◌, IsTrue, List, [], suc, length, codes, Option}
use Rattle.bridge_io.specs.{Fault.Rose, Outside.{Changes, Appends, AppendsFront}, InOrder.{put_all, AreBegun}}
use Rattle.bridge_courses.specs.{declared.status.Status.Status, declared.status.Verdict.Verdict, declared.ending.Ending.Ending}
use Rattle.bridge_courses.specs.Courses.{Step, Course, World, Makes, Whole, Reaches}
use Rattle.bridge_courses.specs.Courses.{TakesAtMost, TakesBytes, TakesFewer, taken_at, taken_to}

-- ---- how the work ends

-- all steps are done, all that is asked for is read, and the end is the course's
pub record Finishes (course : Course) (end : Verdict) (line : List ℕ) (before after : World) : Type 0 where
  pub whole : Whole (length course.steps) course before after
  pub verdict : end ≡ course.end.verdict
  pub lines : line ≡ course.end.lines
  pub input : TakesBytes (taken_to (suc (length course.steps)) course) before.input after.input

-- A read failed: of the store, before anything of the input was read for a step or after all that it asks for; or of the input,
-- before that.
abbrev pub FailedRead : (taken : ℕ) → (before mid after : World) → Type 0
FailedRead taken before mid after =
    (Rose before.read_faults after.read_faults × ((after.input ≡ mid.input) ⊎ TakesBytes taken mid.input after.input))
    ⊎ (Rose before.input_faults after.input_faults × TakesFewer taken mid.input after.input)

-- a read failed before a step that reads, or before the end
pub record FailsReading (course : Course) (before after : World) : Type 0 where
  pub mid : World
  pub step : Step
  pub reaches : Reaches course before mid step
  pub reads : IsTrue step.reads
  pub rose : FailedRead (taken_at reaches.n course) before mid after
  pub files : after.files ≡ mid.files
  pub made : Makes course 0 0 mid after
  pub report : after.report ≡ mid.report

-- the store failed while the files of a step were written
pub record FailsWriting (course : Course) (before after : World) : Type 0 where
  pub mid : World
  pub step : Step
  pub reaches : Reaches course before mid step
  pub rose : Rose before.write_faults after.write_faults
  pub files : AreBegun step.files mid.files after.files
  pub made : Makes course step.least step.most mid after
  pub report : after.report ≡ mid.report
  pub input : TakesBytes (taken_at reaches.n course) mid.input after.input

-- Memory ran out in a step or before the end: before its files, when some of its segments may be made, or when they all are
-- made and its files are begun, or all written.
pub record WantsMemory (course : Course) (before after : World) : Type 0 where
  pub mid : World
  pub step : Step
  pub reaches : Reaches course before mid step
  pub left : ((after.files ≡ mid.files) × Makes course 0 step.most mid after
      × TakesAtMost (taken_at reaches.n course) mid.input after.input)
      ⊎ ((AreBegun step.files mid.files after.files ⊎ Changes (put_all step.files) mid.files after.files)
      × Makes course step.least step.most mid after
      × TakesBytes (taken_at reaches.n course) mid.input after.input)
  pub report : after.report ≡ mid.report

-- The sink failed at the lines of a step, whose files are written. A prefix of the lines is reported.
pub record FailsTelling (course : Course) (before after : World) : Type 0 where
  pub mid : World
  pub step : Step
  pub reaches : Reaches course before mid step
  pub owed : reaches.n < length course.steps
  pub files : Changes (put_all step.files) mid.files after.files
  pub made : Makes course step.least step.most mid after
  pub report : AppendsFront step.lines mid.report after.report
  pub input : TakesBytes (taken_at reaches.n course) mid.input after.input

abbrev pub words_line : List ℕ
words_line = codes "words\n"

-- how the work of a run may end, and what it leaves
abbrev pub Works : Course → Ending → (before after : World) → Type 0
Works course (ending.Ended end line) before after = Finishes course end line before after
Works course ending.Words before after = Finishes course verdict.Words words_line before after
Works course ending.ReadFault before after = FailsReading course before after
Works course ending.WriteFault before after = FailsWriting course before after
Works course ending.Memory before after = WantsMemory course before after
Works course (ending.Cut fail.Failed) before after = FailsTelling course before after × Rose before.report_faults after.report_faults
Works course (ending.Cut fail.Memory) before after = FailsTelling course before after

-- counts of faults never fall
pub record NeverFalls (before after : World) : Type 0 where
  pub input : before.input_faults ≤ after.input_faults
  pub reads : before.read_faults ≤ after.read_faults
  pub writes : before.write_faults ≤ after.write_faults
  pub report : before.report_faults ≤ after.report_faults

-- ---- how the end is reported

abbrev pub status_by : Verdict → Status
status_by verdict.Done = status.Done
status_by verdict.Refused = status.Refused
status_by verdict.Words = status.Words
status_by verdict.Differ = status.Differ

-- the status of an ending whose line is reported
abbrev pub status_of : Ending → Status
status_of (ending.Ended end line) = status_by end
status_of ending.Words = status.Words
status_of ending.ReadFault = status.ReadFault
status_of ending.WriteFault = status.WriteFault
status_of ending.Memory = status.Memory
status_of (ending.Cut fail.Failed) = status.WriteFault
status_of (ending.Cut fail.Memory) = status.Memory

-- the status where the sink fails at that line: success is reported by no other line
abbrev pub status_untold : Ending → Status
status_untold (ending.Ended verdict.Done line) = status.WriteFault
status_untold (ending.Ended end line) = status_by end
status_untold other = status_of other

-- the line of an ending; none where the sink failed before
abbrev pub line_of : Ending → List ℕ
line_of (ending.Ended end line) = line
line_of ending.Words = words_line
line_of ending.ReadFault = codes "read fault\n"
line_of ending.WriteFault = codes "write fault\n"
line_of ending.Memory = codes "out of memory\n"
line_of (ending.Cut f) = []

-- the report got the ending's line, or a prefix of it where the sink failed or memory ran out
abbrev pub TellsAs : Ending → Status → (faults faults' : ℕ) → (report report' : Option (List ℕ)) → Type 0
TellsAs told end f f' r r' =
    ((end ≡ status_of told) × Appends (line_of told) r r')
    ⊎ (((end ≡ status_untold told) × Rose f f' × AppendsFront (line_of told) r r')
    ⊎ ((end ≡ status.Memory) × AppendsFront (line_of told) r r'))

-- the end was reported, and nothing else done
pub record Tells (told : Ending) (end : Status) (before after : World) : Type 0 where
  pub same : after ≡ record before { report = after.report; report_faults = after.report_faults }
  pub told_as : TellsAs told end before.report_faults after.report_faults before.report after.report
  pub never_falls : before.report_faults ≤ after.report_faults

-- A run of a course may end with a status only like this: its work ends, and then that is reported.
pub record IsExecution (course : Course) (end : Status) (before after : World) : Type 0 where
  pub how : Ending
  pub mid : World
  pub works : Works course how before mid
  pub never_falls : NeverFalls before mid
  pub tells : Tells how end mid after
