-- Why files with a `sidx` are rejected.
use Rattle.url_parts.specs.declared.fault.UrlFault.TheVariants as url
use Rattle.timeline.specs.declared.fault.TimeFault.TheVariants as times
use Rattle.std.specs.Prelude.{List, [], ◌∷◌, Option, Some, None, Result, Ok, Err, IsErrOf}
use Rattle.bridge_io.specs.declared.place.Place.{Place}
use Rattle.url_parts.specs.declared.fault.UrlFault.{UrlFault}
use Rattle.timeline.specs.declared.fault.TimeFault.{TimeFault}
use Rattle.mpd_presentation.specs.Told.{at_times, at_url}
use Rattle.index_parts.specs.{declared.fault.IndexFault.IndexFault, declared.fault.IndexFault.TheVariants.{Presentation, Fault, Memory}}

-- an I/O error and out of memory say nothing about the files
abbrev pub refusal : IndexFault → Option IndexFault
refusal Memory = None
refusal Fault = None
refusal fault = Some fault

-- no read failed
abbrev pub IsNoFault : {X : Type 0} → Result X IndexFault → Type 0
IsNoFault result = IsErrOf result Fault → ⊥

-- the first of some faults, or a value where there is none
abbrev pub unless_any : {X E : Type 0} → List E → X → Result X E
unless_any [] x = Ok x
unless_any (fault ∷ faults) x = Err fault

-- a fault of a URL, or of times, of the Representation at a position
abbrev pub url_fault : Place → UrlFault → IndexFault
url_fault place fault = Presentation (at_url place fault)

abbrev pub times_fault : Place → TimeFault → IndexFault
times_fault place fault = Presentation (at_times place fault)

-- the same, where out of memory isn't a fault of the Representation
abbrev pub url_told : Place → UrlFault → IndexFault
url_told place url.Memory = Memory
url_told place fault = url_fault place fault

abbrev pub times_told : Place → TimeFault → IndexFault
times_told place times.Memory = Memory
times_told place fault = times_fault place fault
