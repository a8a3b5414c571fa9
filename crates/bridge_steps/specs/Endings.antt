-- How a command ends, and its effects.
use Rattle.bridge_courses.specs.declared.ending.Ending.TheVariants as ending
use Rattle.bridge_courses.specs.declared.status.Status.TheVariants as status
use Rattle.bridge_courses.specs.declared.status.Verdict.TheVariants as verdict
use Rattle.bridge_io.specs.declared.out_fault.OutFault.TheVariants as out
use Rattle.bridge_report.specs.declared.refusal.Refusal.TheVariants as refusal
use Rattle.std.specs.{Prelude.{◌≡◌, ◌⊎◌, ◌≤◌, ℕ, true, false, codes, IsTrue, List, Option, Some, None, Result, Ok, Err}, Option.ForSome}
use Rattle.bridge_io.specs.{Fault.Rose, Outside.Files, declared.out_fault.OutFault.OutFault, declared.outside.Store.Ghosts as Store}
use Rattle.bridge_courses.specs.{declared.ending.Ending.Ending, declared.status.Verdict.Verdict, Executions.status_of}
use Rattle.bridge_report.specs.{declared.reading.Halt.Halt, Outcomes.{Outcome, Ends, Writes, IsEnding, IsHalt, IsRefusal, base_refused}}
use Rattle.bridge_report.specs.{Outcomes.course_by, Reading.Named, Refusals.refusal_line}

-- ---- effects of a command

-- the environment of a command: the store's files, its counts of faults, and how many segments were made
pub record Surroundings : Type 0 where
  pub files : Option Files
  pub read_faults : ℕ
  pub write_faults : ℕ
  pub made : ℕ

abbrev pub around : {F : Type 0} → Store F → F → (made : ℕ) → Surroundings
around store at made =
    record { files = store.files at; read_faults = store.read_faults at; write_faults = store.write_faults at; made = made }

-- The work of a run ends as its outcome says, where that is known: with its verdict and its files, and no segment made where it
-- counts them. An I/O error has its cause, whatever is known, and no count of faults falls.
pub record EndsAs (outcome : Option Outcome) (told : Ending) (before after : Surroundings) : Type 0 where
  pub ending : ForSome outcome (λ o. IsEnding o told before.files after.files)
  pub made : ForSome outcome (λ o. IsTrue (course_by o).counts → after.made ≡ before.made)
  pub read_fault : status_of told ≡ status.ReadFault → Rose before.read_faults after.read_faults
  pub write_fault : status_of told ≡ status.WriteFault → Rose before.write_faults after.write_faults
  pub reads : before.read_faults ≤ after.read_faults
  pub writes : before.write_faults ≤ after.write_faults

-- The work of a command ends like this, and not with a usage error.
pub record JobEndsAs (outcome : Option Outcome) (told : Ending) (before after : Surroundings) : Type 0 where
  pub ends : EndsAs outcome told before after
  pub job : status_of told ≡ status.Words → ⊥

-- no read is tried, between two counts of read faults
pub record NeverReads (told : Ending) (before after : ℕ) : Type 0 where
  pub read_fault : status_of told ≡ status.ReadFault → ⊥
  pub reads : after ≡ before

-- no write is tried, between two counts of write faults
pub record NeverWrites (told : Ending) (before after : ℕ) : Type 0 where
  pub write_fault : status_of told ≡ status.WriteFault → ⊥
  pub writes : after ≡ before

-- ---- outcomes

-- the outcome of a command whose files have locations under the base, or whose base is rejected
abbrev pub placed : {P : Type 0} → (P → Option Outcome) → Option P → Option Outcome
placed at None = Some base_refused
placed at (Some place) = at place

-- what was read is written as files, with a report line; or one of the files is rejected
abbrev pub outcome_written : {Y : Type 0} → (files : Y → List (List ℕ × List ℕ)) (line : Y → List ℕ) → Result Y Named → Outcome
outcome_written files line (Ok y) = Writes (files y) (line y) true
outcome_written files line (Err named) = Ends verdict.Refused (refusal_line named.0 named.1) true false

-- ---- how it ends

-- the locations of a command's files; or a rejected base is reported, or memory ran out
abbrev pub IsUnplaced : {P : Type 0} → Option P → Ending → Type 0
IsUnplaced place told = ((place ≡ None) × IsRefusal (refusal_line (codes "-") refusal.Base) told) ⊎ (told ≡ ending.Memory)

abbrev pub IsPlaced : {P : Type 0} → Option P → Result P Ending → Type 0
IsPlaced place (Ok found) = place ≡ Some found
IsPlaced place (Err told) = IsUnplaced place told

-- the report on what was read, or why it wasn't read
abbrev pub IsTold : Result (Verdict × List ℕ) Halt → Ending → Type 0
IsTold (Ok what) told = told ≡ ending.Ended what.0 what.1
IsTold (Err halt) told = IsHalt halt told

-- the line for written files, or why they aren't written
abbrev pub IsWritten : (line : List ℕ) → Result (Unit {0}) OutFault → Ending → Type 0
IsWritten line (Ok tt) told = told ≡ ending.Ended verdict.Done line
IsWritten line (Err out.WriteFault) told = told ≡ ending.WriteFault
IsWritten line (Err out.Memory) told = told ≡ ending.Memory
