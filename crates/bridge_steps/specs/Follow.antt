-- The run of following: a step for each update frame of a stream, and an end.
use Rattle.bridge_jobs.specs.declared.frame.FrameFault.TheVariants as fault
use Rattle.bridge_courses.specs.declared.ending.Ending.TheVariants as ending
use Rattle.bridge_report.specs.declared.refusal.Refusal.TheVariants as refusal
use Rattle.std.specs.Prelude.{◌≡◌, ◌⊎◌, ℕ, ◌+◌, ◌≤◌, Bool, true, false, List, codes, Option, Some, None, option_and_then, option_map}
use Rattle.std.specs.Option.{ForSome}
use Rattle.bridge_io.specs.{Fault.Rose, Outside.{Appends, Files}, declared.outside.Source.Ghosts as Source}
use Rattle.bridge_io.specs.declared.outside.Store.{Ghosts as Store}
use Rattle.bridge_io.specs.{declared.outside.Sink.Ghosts as Sink}
use Rattle.bridge_jobs.specs.{Frames.{IsFramePos, start}, declared.frame.FramePos.FramePos, declared.frame.FrameFault.FrameFault}
use Rattle.bridge_courses.specs.{declared.ending.Ending.Ending, Courses.{Course, Step, World}, Executions.NeverFalls}
use Rattle.bridge_courses.specs.Steps.{IsCaused, Outside, Stops, Work, outside_of, taking}
use Rattle.bridge_report.specs.{Following.{Followed, course_from, judged_from}, Outcomes.{IsRefusal, base_refused, course_by}}
use Rattle.bridge_report.specs.Refusals.{refusal_line}
use Rattle.bridge_steps.specs.{declared.run.Following.Following, Streams.Stream}

-- a frame is accepted: the state after it, the number in its line, and how many segments are made
pub record Accepts {S X : Type 0} (f : Followed S X) (s : S) (x : X) (s' : S) (n m m' : ℕ) : Type 0 where
  pub accepted : f.refusal s x ≡ None
  pub after : s' ≡ f.after s x
  pub appended : n ≡ f.appended s x
  pub made : m' ≡ m + f.makes s x

-- The files that a frame is judged by: those of the store, where they are modelled, or none.
abbrev pub files_seen : (reads : Bool) → Option Files → Option Files
files_seen false files = Some (λ name. None)
files_seen true files = files

-- what holds by them, where they are known
abbrev pub ForFiles : (reads : Bool) → Option Files → (Files → Type 0) → Type 0
ForFiles reads files holds = ForSome (files_seen reads files) holds

-- ---- the course

-- a stream that isn't valid is rejected without a file name
abbrev pub fault_line : FrameFault → List ℕ
fault_line fault = refusal_line (codes "-") (refusal.Frame fault)

-- the course of some frames, after some others, some of which were accepted, by whether frames are judged by files
abbrev pub frames_course : {S X : Type 0} → (reads : Bool) → (told : Files → Followed S X) → Files → S → (frames accepted : ℕ) → List X
    → (fault : Option (List ℕ)) → Course
frames_course false told files s i a xs fault = course_from (told files) s i a xs fault
frames_course true told files s i a xs fault = judged_from told files s i a xs fault

-- the course of the remaining stream, with what each frame asks for
abbrev pub course_of : {S X : Type 0} → (reads : Bool) → (told : Files → Followed S X) → Files → S → (frames accepted : ℕ) → Stream X
    → Course
course_of reads told files s i a stream =
    taking stream.2 (frames_course reads told files s i a stream.0 (option_map fault_line stream.1))

-- the course of a stream of bytes, from a state
abbrev pub follow_course : {S X : Type 0} → Followed S X → (stream : FramePos → List ℕ → Stream X) → S → (bytes : List ℕ) → Course
follow_course f stream s bytes = let frames = stream start bytes in
    taking frames.2 (course_from f s 0 0 frames.0 (option_map fault_line frames.1))

-- the same, where each frame is judged by the files as they are then
abbrev pub judged_course : {S X : Type 0} → (told : Files → Followed S X) → (stream : FramePos → List ℕ → Stream X) → S → Files
    → (bytes : List ℕ) → Course
judged_course told stream s files bytes = let frames = stream start bytes in
    taking frames.2 (judged_from told files s 0 0 frames.0 (option_map fault_line frames.1))

-- either, where the files that matter and the input are modelled
abbrev pub whole_course : {S X : Type 0} → (reads : Bool) → (told : Files → Followed S X) → (stream : FramePos → List ℕ → Stream X) → S
    → Option Files → (input : Option (List ℕ)) → Option Course
whole_course reads told stream s files input =
    option_and_then (λ seen. option_map (λ bytes. course_of reads told seen s 0 0 (stream start bytes)) input) (files_seen reads files)

-- the rest of it, given the state of a run, the files and the remaining bytes
abbrev pub rest_course : {S X : Type 0} → (reads : Bool) → (told : Files → Followed S X) → (stream : FramePos → List ℕ → Stream X)
    → Following S → Files → (bytes : List ℕ) → Course
rest_course reads told stream run files bytes = course_of reads told files run.live run.at.frames run.accepted (stream run.at bytes)

-- a rejected base is reported whatever the input contains
abbrev pub course_placed : {P : Type 0} → (P → Option Course) → Option P → Option Course
course_placed at None = Some (course_by base_refused)
course_placed at (Some place) = at place

-- a run in progress, with the number of accepted frames and the invariant of the state
pub record IsGoing {S : Type 0} (accepted_of : S → ℕ) (is_kept : S → Type 0) (run : Following S) : Type 0 where
  pub at : IsFramePos run.at
  pub count : accepted_of run.live ≡ run.accepted
  pub kept : is_kept run.live
  pub few : run.accepted ≤ run.at.frames

-- ---- how it ends where no frame is read

abbrev pub IsBroken : FrameFault → Ending → Type 0
IsBroken fault.Fault told = told ≡ ending.ReadFault
IsBroken fault.Memory told = told ≡ ending.Memory
IsBroken f told = IsRefusal (fault_line f) told

-- some lines were reported, or a prefix of one
abbrev pub Grows : (before after : Option (List ℕ)) → Type 0
Grows before after = (lines : List ℕ) × Appends lines before after

-- The work of a run ended in the step of a frame; or a read of the store failed before it, and nothing else was done.
abbrev pub EndsIn : Step → Ending → (before after : World) → Type 0
EndsIn step told before after = Stops step told before after ⊎ ((told ≡ ending.ReadFault) × Rose before.read_faults after.read_faults
    × (after.files ≡ before.files) × (after.report ≡ before.report) × (after.made ≡ before.made))

-- ---- the environment

-- the environment of a run: the input, the store and the report, and how many segments were made
abbrev pub world_of : {I F P : Type 0} → Source I → Store F → Sink P → I → F → P → (made : ℕ) → World
world_of source store sink input files report made = record {
  files = store.files files;
  report = sink.written report;
  input = source.remaining input;
  input_faults = source.faults input;
  read_faults = store.read_faults files;
  write_faults = store.write_faults files;
  report_faults = sink.faults report;
  made = made;
}

-- the same beside an input, of which there are its unread bytes and its count of faults
abbrev pub world_beside : {F P : Type 0} → Store F → Sink P → (input : Option (List ℕ) × ℕ) → F → P → (made : ℕ) → World
world_beside store sink input files report made = record {
  files = store.files files;
  report = sink.written report;
  input = input.0;
  input_faults = input.1;
  read_faults = store.read_faults files;
  write_faults = store.write_faults files;
  report_faults = sink.faults report;
  made = made;
}

-- for a frame that was read: the input isn't touched
abbrev pub beside_input : {F P : Type 0} → Store F → Sink P → F → P → (made : ℕ) → World
beside_input store sink = world_beside store sink (None, 0)

-- and where no segment is made
abbrev pub outside_at : {F P : Type 0} → Store F → Sink P → F → P → Outside
outside_at store sink files report = outside_of (beside_input store sink files report 0)

-- A run ends as its course says, where that is known. It reports lines, and no count of faults falls.
pub record RunsAs (course : Option Course) (end : Ending) (before after : World) : Type 0 where
  pub work : ForSome course (λ course. Work course end before after)
  pub never_falls : NeverFalls before after
  pub told : Grows before.report after.report

-- ---- causes

-- an I/O error has its cause, a read error in the input or in the store, and no work ends with `Words`
abbrev pub IsCausedByEither : Ending → (before after : World) → Type 0
IsCausedByEither ending.ReadFault before after =
    Rose before.input_faults after.input_faults ⊎ Rose before.read_faults after.read_faults
IsCausedByEither told before after = IsCaused told before after

-- in the store only where frames are judged by its files
abbrev pub IsCausedBy : (reads : Bool) → Ending → (before after : World) → Type 0
IsCausedBy false told before after = IsCaused told before after
IsCausedBy true told before after = IsCausedByEither told before after
