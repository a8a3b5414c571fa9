-- What a reader returns where the source's call fails.
use Rattle.std.specs.Prelude.{◌≡◌, ℕ, List, Option, Some, Result, IfErr}
use Rattle.bridge_io.specs.declared.outside.Fail.{Fail}
use Rattle.bridge_io.specs.declared.outside.Fail.TheVariants as fail
use Rattle.bridge_jobs.specs.declared.frame.FrameFault.{FrameFault}
use Rattle.bridge_jobs.specs.declared.frame.FrameFault.TheVariants as fault
use Rattle.bridge_jobs.specs.Frames.{LeavesAt}

abbrev pub fault_of : Fail → FrameFault
fault_of fail.Failed = fault.Fault
fault_of fail.Memory = fault.Memory

-- a failed reader leaves what a reader of a frame leaves that asks for as many bytes
abbrev pub FailsWithin : {X : Type 0} → Result X Fail → (size : List ℕ → ℕ) → (before after : Option (List ℕ)) → Type 0
FailsWithin result size before after =
    IfErr result (λ fail. (bytes : List ℕ) → before ≡ Some bytes → LeavesAt (fault_of fail) (size bytes) bytes after)
