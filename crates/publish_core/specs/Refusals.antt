-- Why nothing is published, and the lines that tell it.
use Rattle.publish_core.specs.declared.refusal.Refused.TheVariants as refused
use Rattle.publish_core.specs.declared.refusal.Stop.TheVariants as stop
use Rattle.bridge_courses.specs.declared.ending.Ending.TheVariants as ending
use Rattle.bridge_courses.specs.declared.status.Verdict.TheVariants as verdict
use Rattle.bridge_io.specs.declared.outside.Fail.TheVariants as fail
use Rattle.bridge_report.specs.declared.reading.Halt.TheVariants as halt
use Rattle.std.specs.Prelude.{◌≡◌, ℕ, List, ◌++◌, codes, decimal, Option, Some, None}
use Rattle.bridge_courses.specs.declared.ending.Ending.{Ending}
use Rattle.bridge_io.specs.declared.outside.Fail.{Fail}
use Rattle.bridge_report.specs.{Refusals.refusal_text, declared.reading.Halt.Halt}
use Rattle.publish_core.specs.declared.refusal.{Refused.Refused, Stop.Stop}

-- a refusal with the name of its file
abbrev pub Named : Type 0
Named = List ℕ × Refused

abbrev pub text_of : Refused → List ℕ
text_of (refused.Read refusal) = refusal_text refusal
text_of refused.Form = codes "publish 1 Form"
text_of refused.Tracks = codes "publish 2 Tracks"
text_of refused.Digits = codes "publish 3 Digits"
text_of refused.Ended = codes "publish 4 Ended"
text_of refused.Back = codes "publish 5 Back"
text_of (refused.LongSegment place) = codes "publish 6 LongSegment segment " ++ decimal place
text_of refused.Limit = codes "publish 7 Limit"

unfoldable pub line_of : Named → List ℕ
line_of named = codes "refused " ++ named.0 ++ codes " " ++ text_of named.1 ++ codes "\n"

-- what an error says about the files: nothing where it is an I/O error or out of memory
abbrev pub stopped : Stop → Option Named
stopped (stop.Refused file refused) = Some (file, refused)
stopped stop.ReadFault = None
stopped stop.Memory = None

-- what a failed call on the store comes to, and what a file that isn't read
abbrev pub stop_of_fail : Fail → Stop
stop_of_fail fail.Failed = stop.ReadFault
stop_of_fail fail.Memory = stop.Memory

abbrev pub stop_of_halt : Halt → Stop
stop_of_halt (halt.Refused file refusal) = stop.Refused file (refused.Read refusal)
stop_of_halt halt.ReadFault = stop.ReadFault
stop_of_halt halt.Memory = stop.Memory

-- how a run ends of which nothing is published; there may be no memory for the line
abbrev pub IsStopped : Stop → Ending → Type 0
IsStopped (stop.Refused file refused) (ending.Ended verdict.Refused line) = line ≡ line_of (file, refused)
IsStopped (stop.Refused file refused) ending.Memory = Unit {0}
IsStopped stop.ReadFault ending.ReadFault = Unit {0}
IsStopped stop.Memory ending.Memory = Unit {0}
IsStopped s other = ⊥
