-- The URLs of segments.
use Rattle.std.specs.Prelude.{ℕ, Bool, false, List, length, slice_get, Option, Some, None, Result, Ok, Err}
use Rattle.template_ids.specs.Templates.{named, uses_time}
use Rattle.url_parts.specs.{Addresses.resolve, declared.address.Part.Part, declared.range.Range.Range, declared.fault.UrlFault.UrlFault}
use Rattle.url_parts.specs.declared.fault.UrlFault.TheVariants.{Refused, Memory as NoRoom}
use Rattle.timeline.specs.{declared.fault.ListFault.ListFault, declared.fault.ListFault.TheVariants.{Url, Memory}}
use Rattle.timeline.specs.{declared.names.Names.Names, declared.names.Names.TheVariants.{Template, List as Listed, Shared, Addresses}}
use Rattle.mpd_entries.specs.declared.ref_part.RefPart.{RefPart}

-- how many names a list has
abbrev pub count_of : Names → Option ℕ
count_of (Template media id bandwidth base) = None
count_of (Listed parts base) = Some (length parts)
count_of (Shared parts base) = Some (length parts)
count_of (Addresses parts) = Some (length parts)

-- whether a template uses `$Time$`
abbrev pub asks_for_time : Names → Bool
asks_for_time (Template media id bandwidth base) = uses_time media
asks_for_time (Listed parts base) = false
asks_for_time (Shared parts base) = false
asks_for_time (Addresses parts) = false

-- out of memory says nothing about the URL
abbrev pub list_refusal : ListFault → Option ListFault
list_refusal Memory = None
list_refusal (Url fault) = Some (Url fault)

abbrev pub list_fault_of : UrlFault → ListFault
list_fault_of NoRoom = Memory
list_fault_of fault = Url fault

abbrev pub part_at : Option Range → Result (List ℕ) UrlFault → Result Part ListFault
part_at range (Ok address) = Ok (record { address = address; range = range })
part_at range (Err fault) = Err (Url fault)

-- an absent reference is the base itself
abbrev pub referred : List ℕ → Option (List ℕ) → Result (List ℕ) UrlFault
referred base None = Ok base
referred base (Some reference) = resolve base reference

abbrev pub listed_part : List ℕ → Option RefPart → Result Part ListFault
listed_part base None = part_at None (Ok base)
listed_part base (Some part) = part_at part.range (referred base part.reference)

-- a URL of the list; after the last one there is none
abbrev pub own_part : Option Part → Result Part ListFault
own_part None = Err (Url Refused)
own_part (Some part) = Ok part

-- the URL and byte range of the segment at an index, with a number and a media time
abbrev pub part_of : Names → ℕ → ℕ → ℕ → Result Part ListFault
part_of (Template media id bandwidth base) place number time =
    part_at None (resolve base (named media (record { id = id; bandwidth = bandwidth; number = number; time = time })))
part_of (Listed parts base) place number time = listed_part base (slice_get parts place)
part_of (Shared parts base) place number time = listed_part base (slice_get parts place)
part_of (Addresses parts) place number time = own_part (slice_get parts place)
