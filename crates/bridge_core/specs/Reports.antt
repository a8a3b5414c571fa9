-- What a run reports, whatever the store contains.
use Rattle.std.specs.Prelude.{ℕ, List, Option}
use Rattle.bridge_io.specs.Outside.{Appends}
use Rattle.bridge_courses.specs.{Executions.TellsAs, declared.ending.Ending.Ending, declared.status.Status.Status}

-- lines, if any, and after them how the run ends, as its status says
pub record TellsItsEnd (end : Status) (faults faults' : ℕ) (report report' : Option (List ℕ)) : Type 0 where
  pub how : Ending
  pub lines : List ℕ
  pub mid : Option (List ℕ)
  pub before : Appends lines report mid
  pub tells : TellsAs how end faults faults' mid report'
