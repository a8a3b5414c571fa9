-- How a command ends that reads everything before it writes, and what it then leaves.
use Rattle.bridge_courses.specs.declared.status.Verdict.TheVariants as verdict
use Rattle.bridge_courses.specs.declared.ending.Ending.TheVariants as ending
use Rattle.bridge_report.specs.declared.reading.Halt.TheVariants as halt
use Rattle.bridge_report.specs.declared.refusal.Refusal.TheVariants as refusal
use Rattle.std.specs.Prelude.{◌≡◌, ◌⊎◌, ℕ, Bool, true, false, IsTrue, List, [], ◌∷◌, codes, Option, Result, Ok, Err}
use Rattle.bridge_io.specs.{Outside.{Files, Changes}, InOrder.{put_all, AreBegun}}
use Rattle.bridge_courses.specs.{declared.status.Verdict.Verdict, declared.ending.Ending.Ending, Executions.words_line, Courses.Course}
use Rattle.bridge_report.specs.{declared.reading.Halt.Halt, Reading.Named, Refusals.refusal_line}

-- It ends without writing a file, with a verdict and its line, after files are read or without reading; `counts` says that no
-- segment is made before. Or it succeeds: it writes files, in order, after everything is read, if anything is, and then
-- reports a line.
pub data Outcome : Type 0 where
  Ends : (verdict : Verdict) (line : List ℕ) (reads counts : Bool) → Outcome
  Writes : (files : List (List ℕ × List ℕ)) (line : List ℕ) (reads : Bool) → Outcome

-- The number of segments made isn't specified where some may be. Nothing of standard input is read.
abbrev pub course_by : Outcome → Course
course_by (Ends end line reads counts) = record {
  steps = [];
  end = record { verdict = end; lines = line; reads = reads };
  counts = counts;
  taken = [];
}
course_by (Writes files line reads) = record {
  steps = record { files = files; lines = []; least = 0; most = 0; reads = reads } ∷ [];
  end = record { verdict = verdict.Done; lines = line; reads = false };
  counts = false;
  taken = [];
}

-- ---- how the work of a command ends, and what it leaves of the files

abbrev pub IsSaid : Outcome → (end : Verdict) (line : List ℕ) (before after : Option Files) → Type 0
IsSaid (Ends v l reads counts) end line before after = (end ≡ v) × (line ≡ l) × (after ≡ before)
IsSaid (Writes files l reads) end line before after = (end ≡ verdict.Done) × (line ≡ l) × Changes (put_all files) before after

-- something is read
abbrev pub Reads : Outcome → Type 0
Reads (Ends v l reads counts) = IsTrue reads
Reads (Writes files l reads) = IsTrue reads

abbrev pub Begins : Outcome → (before after : Option Files) → Type 0
Begins (Ends v l reads counts) before after = ⊥
Begins (Writes files l reads) before after = AreBegun files before after

abbrev pub IsEnding : Outcome → Ending → (before after : Option Files) → Type 0
IsEnding outcome (ending.Ended end line) before after = IsSaid outcome end line before after
IsEnding outcome ending.Words before after = IsSaid outcome verdict.Words words_line before after
IsEnding outcome ending.ReadFault before after = Reads outcome × (after ≡ before)
IsEnding outcome ending.WriteFault before after = Begins outcome before after
IsEnding outcome ending.Memory before after = (after ≡ before) ⊎ Begins outcome before after
IsEnding outcome (ending.Cut fail) before after = ⊥

-- an error with this line, unless memory runs out for it
abbrev pub IsRefusal : List ℕ → Ending → Type 0
IsRefusal line told = (told ≡ ending.Ended verdict.Refused line) ⊎ (told ≡ ending.Memory)

-- how a run ends whose files aren't read
abbrev pub IsHalt : Halt → Ending → Type 0
IsHalt (halt.Refused file refusal) told = IsRefusal (refusal_line file refusal) told
IsHalt halt.ReadFault told = told ≡ ending.ReadFault
IsHalt halt.Memory told = told ≡ ending.Memory

-- ---- errors

-- a rejected base is reported without a file, whatever the store contains
abbrev pub base_refused : Outcome
base_refused = Ends verdict.Refused (refusal_line (codes "-") refusal.Base) false true

-- ---- a command that only reads

-- the report on the files, or the error of one of them
abbrev pub outcome_told : Result (Verdict × List ℕ) Named → Outcome
outcome_told (Ok told) = Ends told.0 told.1 true false
outcome_told (Err named) = Ends verdict.Refused (refusal_line named.0 named.1) true false
