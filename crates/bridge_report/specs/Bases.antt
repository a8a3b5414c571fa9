-- The URL of the store's folder, and those of its files.
use Rattle.std.specs.Prelude.{ℕ, ◌-◌, ◌==◌, ◌&&◌, not, nat_lt, Bool, List, ◌++◌, length, slice_index, bytes_eq, if◌then◌else◌, is_some}
use Rattle.std.specs.{Prelude.{Option, Some, None, Result, Ok, Err}, List.list_any}
use Rattle.url_parts.specs.{declared.fault.UrlFault.UrlFault, Addresses.{absolute, is_tail}}

abbrev pub ends_in_slash : List ℕ → Bool
ends_in_slash text = nat_lt 0 (length text) && slice_index text (length text - 1) == 47

-- it ends in `/`, and has no `?` and no `#`
abbrev pub is_folder : List ℕ → Bool
is_folder base = ends_in_slash base && not (list_any is_tail base)

abbrev pub if_written_so : List ℕ → Result (List ℕ) UrlFault → Option (List ℕ)
if_written_so text (Ok url) = if bytes_eq url text then Some url else None
if_written_so text (Err fault) = None

-- a text as a URL, where it is its own serialization by the URL Standard
abbrev pub own_address : List ℕ → Option (List ℕ)
own_address text = if_written_so text (absolute text)

-- The URL of a file is the base's text followed by the file's name. `None` where the base isn't a folder's URL, or both
-- together aren't a valid URL.
unfoldable pub file_url : (base file : List ℕ) → Option (List ℕ)
file_url base file = if is_folder base && is_some (own_address base) then own_address (base ++ file) else None

-- the URL of a base's folder
unfoldable pub folder_url : (base : List ℕ) → Option (List ℕ)
folder_url base = if is_folder base then own_address base else None
