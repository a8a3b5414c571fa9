-- How a run ends, and what it leaves.
use Rattle.bridge_io.specs.declared.outside.Store.{Ghosts as Store}
use Rattle.bridge_courses.specs.declared.status.Verdict.TheVariants as verdict
use Rattle.bridge_courses.specs.declared.ending.Ending.TheVariants as ending
use Rattle.std.specs.Prelude.{◌≡◌, ◌⊎◌, ℕ, List, Option, Some, None, Ok, Err}
use Rattle.std.specs.Option.{ForSome}
use Rattle.bridge_io.specs.{Fault.Rose, Outside.{Changes, Files}}
use Rattle.bridge_courses.specs.{declared.ending.Ending.Ending, declared.status.{Status.Status, Verdict.Verdict}, Executions.TellsAs}
use Rattle.publish_core.specs.{Decisions.decision_of, Names.{name_in, pending_file}, Placed.{AreCut, all_placed}, Refusals.{Named, line_of}}
use Rattle.publish_core.specs.declared.{decision.Decision.Decision, job.PublishJob.PublishJob}

-- what is decided of the files that were there, where they are modelled
abbrev pub Decides : PublishJob → (before : Option Files) → (Decision → Type 0) → Type 0
Decides job before is = ForSome before (λ files. (d : Decision) × ((decision_of job files ≡ Ok d) × is d))

abbrev pub Refuses : PublishJob → (before : Option Files) → (Named → Type 0) → Type 0
Refuses job before is = ForSome before (λ files. (n : Named) × ((decision_of job files ≡ Err n) × is n))

-- some files took their places, and the pending one has anything
abbrev pub IsCutOff : PublishJob → (before after : Option Files) → Decision → Type 0
IsCutOff job before after d = (pending : List ℕ) × ((name_in job.served pending_file ≡ Some pending) × AreCut pending d.files before after)

-- all files took their places
abbrev pub IsPlaced : PublishJob → (before after : Option Files) → Decision → Type 0
IsPlaced job before after d =
    (pending : List ℕ) × ((name_in job.served pending_file ≡ Some pending) × Changes (all_placed pending d.files) before after)

abbrev pub IsSaid : PublishJob → Verdict → (line : List ℕ) → (before after : Option Files) → Type 0
IsSaid job verdict.Done line before after = Decides job before (λ d. (line ≡ d.line) × IsPlaced job before after d)
IsSaid job verdict.Refused line before after = Refuses job before (λ n. line ≡ line_of n) × (after ≡ before)
IsSaid job other line before after = ⊥

-- Where all is read, that is as it is decided of the files. Nothing is written at a refusal, nor where a read fails.
abbrev pub IsEnding : Option PublishJob → Ending → (before after : Option Files) → Type 0
IsEnding None ending.Words before after = after ≡ before
IsEnding None ending.Memory before after = after ≡ before
IsEnding None other before after = ⊥
IsEnding (Some job) (ending.Ended verdict line) before after = IsSaid job verdict line before after
IsEnding (Some job) ending.Words before after = ⊥
IsEnding (Some job) ending.ReadFault before after = after ≡ before
IsEnding (Some job) ending.WriteFault before after = Decides job before (IsCutOff job before after)
IsEnding (Some job) ending.Memory before after = (after ≡ before) ⊎ Decides job before (IsCutOff job before after)
IsEnding (Some job) (ending.Cut fail) before after = ⊥

-- how writing ends what is decided
abbrev pub IsWritten : PublishJob → Decision → Ending → (before after : Option Files) → Type 0
IsWritten job d (ending.Ended verdict.Done line) before after = (line ≡ d.line) × IsPlaced job before after d
IsWritten job d ending.WriteFault before after = IsCutOff job before after d
IsWritten job d ending.Memory before after = (after ≡ before) ⊎ IsCutOff job before after d
IsWritten job d other before after = ⊥

-- no fault without a cause
abbrev pub IsCaused : Ending → (reads reads' writes writes' : ℕ) → Type 0
IsCaused ending.ReadFault reads reads' writes writes' = Rose reads reads'
IsCaused ending.WriteFault reads reads' writes writes' = Rose writes writes'
IsCaused other reads reads' writes writes' = Unit {0}

-- A run's work ends, and then that is reported.
pub record IsRun {F : Type 0} (store : Store F) (job : Option PublishJob) (end : Status) (before after : F)
    (faults faults' : ℕ) (report report' : Option (List ℕ)) : Type 0 where
  pub how : Ending
  pub leaves : IsEnding job how (store.files before) (store.files after)
  pub caused : IsCaused how (store.read_faults before) (store.read_faults after) (store.write_faults before) (store.write_faults after)
  pub told : TellsAs how end faults faults' report report'
