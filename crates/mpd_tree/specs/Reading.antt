-- Why reading stops: at a fault, or out of memory, which isn't a fault of the text.
use Rattle.mpd_tree.specs.declared.stop.Stop.TheVariants as stops
use Rattle.std.specs.Prelude.{Option, Some, None}
use Rattle.mpd_tree.specs.{declared.stop.Fault.Fault, declared.stop.Stop.Stop}

abbrev pub stopped : Fault → Stop
stopped f = stops.Fault f

abbrev pub fault_in : Stop → Option Fault
fault_in stops.Memory = None
fault_in (stops.Fault f) = Some f
