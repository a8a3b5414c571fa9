-- What a command line gives, or why it isn't valid.
use Rattle.bridge_jobs.specs.declared.given.WordsFault.TheVariants as fault
use Rattle.bridge_io.specs.declared.name.NameFault.TheVariants as name
use Rattle.std.specs.Prelude.{◌≡◌, Result, Ok, Err, Option, Some, None, IfOk}
use Rattle.bridge_io.specs.declared.name.NameFault.{NameFault}
use Rattle.bridge_jobs.specs.{declared.given.WordsFault.WordsFault, declared.jobs.Job.Job, Jobs.{HasFolder, HasReadableNow}}

abbrev pub fault_of_name : NameFault → WordsFault
fault_of_name name.Shape = fault.NoJob
fault_of_name name.Memory = fault.Memory

-- what is given, or a usage error exactly where nothing is; out of memory says nothing about the words
abbrev pub IsGiven : {A : Type 0} → Option A → Result A WordsFault → Type 0
IsGiven given (Ok it) = given ≡ Some it
IsGiven given (Err fault.NoJob) = given ≡ None
IsGiven given (Err fault.Memory) = Unit {0}

-- The same for a command; its directory leaves room for the names of its files, and its time is one at which a live MPD can
-- be read.
pub record IsJob (given : Option Job) (result : Result Job WordsFault) : Type 0 where
  pub job : IsGiven given result
  pub folder : IfOk result HasFolder
  pub readable : IfOk result HasReadableNow
