-- The laws of runs.
use Rattle.bridge_io.specs.declared.outside.Fail.TheVariants as fail
use Rattle.bridge_courses.specs.declared.status.Status.TheVariants as status
use Rattle.bridge_courses.specs.declared.status.Verdict.TheVariants as verdict
use Rattle.bridge_courses.specs.declared.ending.Ending.TheVariants as ending
use Rattle.std.proofs.{Common.{◌≡◌, ◌⊎◌, length, take, flat_map, option_map, inl, inr, refl, ◌∙◌, ap}, Math.Seq.take-length}
use Rattle.bridge_io.specs.{Outside.{Changes, Appends}, InOrder.put_all}
use Rattle.bridge_courses.specs.{declared.status.Status.Status, declared.status.Verdict.Verdict, declared.ending.Ending.Ending}
use Rattle.bridge_courses.specs.{Courses.{Course, World, files_of, files_to, report_of}, Executions.{status_by, status_of, line_of, Works}}
use Rattle.bridge_courses.specs.{Executions.{Finishes, FailsReading, IsExecution, Tells}, Laws.{DoneIsWhole, VerdictKeepsSteps}}
use Rattle.bridge_courses.specs.Laws.{ReadFaultKeepsFiles, ReadFaultRose, WriteFaultRose, IsCalm, IsComplete, OthersStay}
use Rattle.bridge_courses.proofs.Statuses.{told_as, finished, fails_reading, rose_in_writing, rose_first, rose_later, told_whole, no_fault}
use Rattle.bridge_courses.proofs.{Stepping.appends_both, Others.{Keeps_same, Keeps-then, Keeps_read, Keeps-works}}

-- the first of as many steps as there are
all_files : (course : Course) → files_to (length course.steps) course ≡ files_of course
all_files course = ap (λ steps. flat_map (λ step. step.files) steps) (take-length course.steps)

-- what the end tells changes no file
pub files_told : (told : Ending) (end : Status) (before after : World) → Tells told end before after → after.files ≡ before.files
files_told told end before after tells = ap (λ world. world.files) tells.same

-- how a run ends whose status is a verdict's
pub verdict_finishes : (course : Course) (v : Verdict) (before after : World) (run : IsExecution course (status_by v) before after)
    → Finishes course v (line_of run.how) before run.mid
verdict_finishes course v before after run =
    elim (told_as run.how (status_by v) run.mid.report_faults after.report_faults run.mid.report after.report run.tells.told_as) [
      | inl same ↦ finished course v run.how before run.mid same run.works
      | inr (inl fault) ↦ absurd (no_fault v status.WriteFault refl fault.0)
      | inr (inr memory) ↦ absurd (no_fault v status.Memory refl memory)
    ]

files_of_whole : (course : Course) (v : Verdict) (before after : World) (run : IsExecution course (status_by v) before after)
    → Changes (put_all (files_of course)) before.files after.files
files_of_whole course v before after run = files_told run.how (status_by v) run.mid after run.tells
    ∙ (verdict_finishes course v before after run).whole.files ∙ ap (λ files. option_map (put_all files) before.files) (all_files course)

pub verdict_keeps_steps : VerdictKeepsSteps
verdict_keeps_steps course v before after run = (
  (verdict_finishes course v before after run).verdict,
  files_of_whole course v before after run,
)

-- all lines were told, where those of the end were
pub report_of_whole : (course : Course) (v : Verdict) (before after : World) (run : IsExecution course (status_by v) before after)
    → Appends (line_of run.how) run.mid.report after.report → Appends (report_of course) before.report after.report
report_of_whole course v before after run told =
    let finishes = verdict_finishes course v before after run in
    let lines : flat_map (λ step. step.lines) (take (length course.steps) course.steps) ≡ flat_map (λ step. step.lines) course.steps =
    ap (flat_map (λ step. step.lines)) (take-length course.steps) in
    rw (lines, finishes.lines) at (appends_both _ _ before.report run.mid.report after.report finishes.whole.report told)

pub done_is_whole : DoneIsWhole
done_is_whole course before after run = record {
  files = files_of_whole course verdict.Done before after run;
  report = report_of_whole course verdict.Done before after run
      (told_whole run.how run.mid.report_faults after.report_faults run.mid.report after.report run.tells.told_as);
}

pub reading : (course : Course) (before after : World) (run : IsExecution course status.ReadFault before after)
    → FailsReading course before run.mid
reading course before after run = elim (told_as run.how status.ReadFault run.mid.report_faults after.report_faults run.mid.report
    after.report run.tells.told_as) [
      | inl same ↦ fails_reading course run.how before run.mid same run.works
      | inr (inl fault) ↦ absurd (let e = fault.0 in cc)
      | inr (inr memory) ↦ absurd (cc)
    ]

pub read_fault_keeps_files : ReadFaultKeepsFiles
read_fault_keeps_files course before after first run = let fails = reading course before after run in
    files_told run.how status.ReadFault run.mid after run.tells ∙ fails.files ∙ first before fails.mid fails.step fails.reaches fails.reads

pub read_fault_rose : ReadFaultRose
read_fault_rose course before after run = let same = run.tells.same in elim (reading course before after run).rose [
  | inl rose ↦ inl (rw same rose.0)
  | inr rose ↦ inr (rw same rose.0)
]

-- a count that rose in the work or at its end
pub write_fault_rose : WriteFaultRose
write_fault_rose course before after run =
    elim (told_as run.how status.WriteFault run.mid.report_faults after.report_faults run.mid.report after.report run.tells.told_as) [
      | inl same ↦ elim (rose_in_writing course run.how before run.mid same run.works) [
        | inl rose ↦ inl (rw run.tells.same rose)
        | inr rose ↦ inr (rose_first before.report_faults run.mid.report_faults after.report_faults rose run.tells.never_falls)
      ]
      | inr (inl fault) ↦ inr (rose_later before.report_faults run.mid.report_faults after.report_faults run.never_falls.report fault.1)
      | inr (inr memory) ↦ absurd (cc)
    ]

pub others_stay : OthersStay
others_stay course end before after first last name run was is others =
    Keeps_read name before.files after.files first last (Keeps-then name before.files run.mid.files after.files
    (Keeps-works name course others run.how before run.mid run.works)
    (Keeps_same name run.mid.files after.files (files_told run.how end run.mid after run.tells))) was is

ended_calmly : (course : Course) (told : Ending) (before mid : World) → Works course told before mid → IsCalm before mid
    → (status_of told ≡ status_by course.end.verdict) ⊎ (status_of told ≡ status.Memory)
ended_calmly course (ending.Ended v line) before mid works calm = inl (ap status_by works.verdict)
ended_calmly course ending.Words before mid works calm = inl (ap status_by works.verdict)
ended_calmly course ending.ReadFault before mid works calm =
    absurd (elim works.rose [ inl rose ↦ calm.reads rose.0 | inr rose ↦ calm.input rose.0 ])
ended_calmly course ending.WriteFault before mid works calm = absurd (calm.writes works.rose)
ended_calmly course ending.Memory before mid works calm = inr refl
ended_calmly course (ending.Cut fail.Failed) before mid works calm = absurd (calm.report works.1)
ended_calmly course (ending.Cut fail.Memory) before mid works calm = inr refl

-- what is told at the end raises no count but the sink's
calm_work : (told : Ending) (end : Status) (before mid after : World) → Tells told end mid after → IsCalm before after → IsCalm before mid
calm_work told end before mid after tells calm = record {
  input = λ rose. calm.input (rw tells.same rose);
  reads = λ rose. calm.reads (rw tells.same rose);
  writes = λ rose. calm.writes (rw tells.same rose);
  report = λ rose. calm.report (rose_first before.report_faults mid.report_faults after.report_faults rose tells.never_falls);
}

pub is_complete : IsComplete
is_complete course end before after run calm =
    elim (told_as run.how end run.mid.report_faults after.report_faults run.mid.report after.report run.tells.told_as) [
      | inl same ↦ rw same (ended_calmly course run.how before run.mid run.works
          (calm_work run.how end before run.mid after run.tells calm))
      | inr (inl fault) ↦ absurd (calm.report (rose_later before.report_faults run.mid.report_faults after.report_faults
          run.never_falls.report
          fault.1))
      | inr (inr memory) ↦ inr memory
    ]
