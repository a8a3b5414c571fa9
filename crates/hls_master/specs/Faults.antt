-- First faults.
use Rattle.hls_lines.specs.declared.fault.LineFault.TheVariants as line
use Rattle.std.specs.Prelude.{Option, Some, None, Result, Ok, Err}
use Rattle.hls_lines.specs.declared.fault.LineFault.{LineFault}
use Rattle.hls_master.specs.{declared.fault.MasterFault.MasterFault, declared.fault.MasterFault.TheVariants.{Line, Memory}}

-- a value, unless there is a fault
abbrev pub answer : {X F : Type 0} → Option F → X → Result X F
answer None value = Ok value
answer (Some fault) value = Err fault

-- a result with its value mapped
abbrev pub mapped : {X Y F : Type 0} → (X → Y) → Result X F → Result Y F
mapped see (Ok value) = Ok (see value)
mapped see (Err fault) = Err fault

-- out of memory says nothing about the file
abbrev pub refusal : MasterFault → Option MasterFault
refusal Memory = None
refusal fault = Some fault

-- the fault of a line's text or of its attributes
abbrev pub of_line : LineFault → MasterFault
of_line line.Memory = Memory
of_line fault = Line fault
