-- The URLs of a master playlist's URIs (RFC 8216 4.1, URL Standard 4.4).
use Rattle.url_parts.specs.declared.fault.UrlFault.TheVariants as url
use Rattle.std.specs.Prelude.{ℕ, List, [], ◌++◌, if◌then◌else◌, Option, Some, None, Result, Ok, Err}
use Rattle.url.specs.{Parser.{Parsed, parse_url}, Parts.Parts}
use Rattle.bridge_io.specs.{Names.is_name, declared.place.Place.Place}
use Rattle.url_parts.specs.{Addresses.{text_of, url_of, is_absolute, folder_of, beside, resolve}, declared.fault.UrlFault.UrlFault}
use Rattle.hls_master.specs.{declared.fault.MasterFault.MasterFault, declared.fault.MasterFault.TheVariants.{Url, Memory}}

abbrev pub text_or_none : Parsed Parts → List ℕ
text_or_none (Ok url) = text_of url
text_or_none (Err fault) = []

-- the URL of a URI, of any length: a name is appended to the master's folder
unfoldable pub address_value : (master uri : List ℕ) → List ℕ
address_value master uri = if is_name uri then folder_of master ++ uri
    else text_or_none (parse_url (if is_absolute uri then None else url_of master) uri)

-- the same, unless it is rejected
unfoldable pub address_of : (master uri : List ℕ) → Result (List ℕ) UrlFault
address_of master uri = if is_name uri then beside master uri else resolve master uri

abbrev pub fault_if_refused : Place → Result (List ℕ) UrlFault → Option MasterFault
fault_if_refused place (Ok address) = None
fault_if_refused place (Err fault) = Some (Url fault place)

-- the fault of a URI's URL
abbrev pub address_fault : (master : List ℕ) → Place → (uri : List ℕ) → Option MasterFault
address_fault master place uri = fault_if_refused place (address_of master uri)

-- the fault of a URI, reported at a position
abbrev pub of_url : Place → UrlFault → MasterFault
of_url place url.Memory = Memory
of_url place fault = Url fault place
