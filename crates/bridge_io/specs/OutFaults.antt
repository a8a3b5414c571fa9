-- Errors of a file that is written.
use Rattle.bridge_io.specs.declared.outside.Fail.TheVariants as fail
use Rattle.bridge_io.specs.declared.out_fault.OutFault.TheVariants as fault
use Rattle.bridge_io.specs.{declared.outside.Fail.Fail, declared.out_fault.OutFault.OutFault}

-- what is returned where a call on the store fails
abbrev pub out_fault_of : Fail → OutFault
out_fault_of fail.Failed = fault.WriteFault
out_fault_of fail.Memory = fault.Memory
