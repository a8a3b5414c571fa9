-- Why an update frame isn't accepted, as in the report.
use Rattle.bridge_report.specs.declared.refusal.Stop.TheVariants as halt
use Rattle.std.specs.Prelude.{ℕ, List, Option, Some, None, Result, Ok, Err}
use Rattle.bridge_io.specs.declared.no_memory.NoMemory.{NoMemory}
use Rattle.bridge_report.specs.{declared.frame_stop.FrameStop.FrameStop, declared.refusal.Stop.Stop, Refusals.refusal_text}
use Rattle.bridge_report.specs.declared.frame_stop.FrameStop.TheVariants.{Refused, ReadFault, Memory}

-- what an error says about the frame: nothing where it is an I/O error or out of memory
abbrev pub frame_text : FrameStop → Option (List ℕ)
frame_text (Refused text) = Some text
frame_text ReadFault = None
frame_text Memory = None

-- for what a frame carries
abbrev pub stop_text : Stop → Option (List ℕ)
stop_text (halt.Refused refusal) = Some (refusal_text refusal)
stop_text halt.Memory = None

abbrev pub stop_of : Result (List ℕ) NoMemory → FrameStop
stop_of (Ok text) = Refused text
stop_of (Err fault) = Memory
