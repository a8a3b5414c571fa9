-- One step of a course, for loops over the steps.
use Rattle.bridge_io.specs.declared.outside.Fail.TheVariants as fail
use Rattle.bridge_courses.specs.declared.status.Verdict.TheVariants as verdict
use Rattle.bridge_courses.specs.declared.ending.Ending.TheVariants as ending
use Rattle.std.specs.Prelude.{◌≡◌, ◌≢◌, ◌⊎◌, ℕ, ◌+◌, ◌≤◌, true, List, [], ◌∷◌, Option}
use Rattle.bridge_io.specs.{Fault.Rose, Outside.{Files, Changes, Appends, AppendsFront}, InOrder.{put_all, AreBegun}}
use Rattle.bridge_courses.specs.{declared.ending.Ending.Ending, Courses.{Step, End, Course, World, last_step}, Executions.Works}
use Rattle.bridge_courses.specs.Executions.{NeverFalls}

-- a course with one more step first
abbrev pub with_step : Step → Course → Course
with_step step course = record { steps = step ∷ course.steps; end = course.end; counts = course.counts; taken = course.taken }

-- a counting course of only an end
abbrev pub only_end : End → Course
only_end end = record { steps = []; end = end; counts = true; taken = [] }

-- the same course, that asks for so many bytes of the input
abbrev pub taking : (taken : List ℕ) → Course → Course
taking taken course = record { steps = course.steps; end = course.end; counts = course.counts; taken = taken }

-- a course with one more step first, which asks for some bytes
abbrev pub with_reading : (count : ℕ) → Step → Course → Course
with_reading count step course = taking (count ∷ course.taken) (with_step step course)

-- the first step of a course, or its end
abbrev pub first_in : List Step → End → Step
first_in [] end = last_step end
first_in (step ∷ steps) end = step

abbrev pub first_step : Course → Step
first_step course = first_in course.steps course.end

-- A step is done: its files are written, its lines reported, its segments made.
pub record StepIsDone (step : Step) (before after : World) : Type 0 where
  pub files : Changes (put_all step.files) before.files after.files
  pub report : Appends step.lines before.report after.report
  pub least : before.made + step.least ≤ after.made
  pub most : after.made ≤ before.made + step.most

-- the environment of writing and reporting
pub record Outside : Type 0 where
  pub files : Option Files
  pub report : Option (List ℕ)
  pub write_faults : ℕ
  pub report_faults : ℕ

abbrev pub outside_of : World → Outside
outside_of world =
    record { files = world.files; report = world.report; write_faults = world.write_faults; report_faults = world.report_faults }

-- the sink failed, or memory ran out, at some lines
abbrev pub IsCutOff : (lines : List ℕ) → Ending → (faults faults' : ℕ) (report report' : Option (List ℕ)) → Type 0
IsCutOff lines (ending.Cut fail.Failed) f f' r r' = Rose f f' × AppendsFront lines r r'
IsCutOff lines (ending.Cut fail.Memory) f f' r r' = AppendsFront lines r r'
IsCutOff lines other f f' r r' = ⊥

-- the work of a run ended while these files or these lines were written
abbrev pub Halts : (files : List (List ℕ × List ℕ)) (lines : List ℕ) → Ending → (before after : Outside) → Type 0
Halts files lines ending.WriteFault o o' = Rose o.write_faults o'.write_faults × AreBegun files o.files o'.files × (o'.report ≡ o.report)
Halts files lines ending.Memory o o' =
    ((o'.files ≡ o.files) ⊎ (AreBegun files o.files o'.files ⊎ Changes (put_all files) o.files o'.files)) × (o'.report ≡ o.report)
Halts files lines (ending.Cut fail) o o' =
    Changes (put_all files) o.files o'.files × IsCutOff lines (ending.Cut fail) o.report_faults o'.report_faults o.report o'.report
Halts files lines other o o' = ⊥

-- The work of a run ended in a step: its segments were made, and its files or its lines were being written; or memory ran
-- out before that.
abbrev pub Stops : Step → Ending → (before after : World) → Type 0
Stops step told before after =
    (Halts step.files step.lines told (outside_of before) (outside_of after)
    × (before.made + step.least ≤ after.made) × (after.made ≤ before.made + step.most))
    ⊎ ((told ≡ ending.Memory) × (after.files ≡ before.files) × (after.report ≡ before.report)
    × (before.made ≤ after.made) × (after.made ≤ before.made + step.most))

-- the work of a run of this course may end like this, and no count of faults fell
pub record Work (course : Course) (told : Ending) (before after : World) : Type 0 where
  pub works : Works course told before after
  pub never_falls : NeverFalls before after

-- However the rest of a course is run from here on, the whole course is then run from before.
abbrev pub Leads : (course rest : Course) (before mid : World) → Type 0
Leads course rest before mid = (told : Ending) (after : World) → Work rest told mid after → Work course told before after

-- an I/O error has its cause, and no work ends with `Words`
abbrev pub IsCaused : Ending → (before after : World) → Type 0
IsCaused (ending.Ended end line) before after = end ≢ verdict.Words
IsCaused ending.Words before after = ⊥
IsCaused ending.ReadFault before after = Rose before.input_faults after.input_faults
IsCaused ending.WriteFault before after = Rose before.write_faults after.write_faults
IsCaused ending.Memory before after = Unit {0}
IsCaused (ending.Cut fail.Failed) before after = Rose before.report_faults after.report_faults
IsCaused (ending.Cut fail.Memory) before after = Unit {0}
