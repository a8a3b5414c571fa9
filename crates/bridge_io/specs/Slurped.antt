-- What reading a whole file returns.
use Rattle.bridge_io.specs.declared.outside.Fail.TheVariants as fail
use Rattle.bridge_io.specs.declared.read_error.Slurp.TheVariants as slurp
use Rattle.std.specs.Prelude.{◌≡◌, ℕ, List, length, take, nat_lt, if◌then◌else◌, Option, Some, None, Result, Ok, Err}
use Rattle.bridge_io.specs.{Outside.Files, Places.place_of, declared.outside.Fail.Fail, declared.place.Place.Place}
use Rattle.bridge_io.specs.declared.read_error.Slurp.{Slurp}

-- why a file isn't read whole: it is longer than the limit, with the position of the first byte past it, or it is missing
pub data Unread : Type 0 where
  Long : Place → Unread
  Missing : Unread

-- a file's bytes, where they are at most `limit`
abbrev pub within : ℕ → Option (List ℕ) → Result (List ℕ) Unread
within limit None = Err Missing
within limit (Some bytes) = if nat_lt limit (length bytes) then Err (Long (place_of bytes limit)) else Ok bytes

-- the whole file of a name
abbrev pub whole_file : ℕ → List ℕ → Files → Result (List ℕ) Unread
whole_file limit name files = within limit (files name)

-- what an error says about the file: nothing where it is an I/O error or out of memory
abbrev pub unread : Slurp → Option Unread
unread (slurp.TooLong place) = Some (Long place)
unread slurp.Absent = Some Missing
unread slurp.Fault = None
unread slurp.Memory = None

-- what is returned where a call on the store fails
abbrev pub slurp_of : Fail → Slurp
slurp_of fail.Failed = slurp.Fault
slurp_of fail.Memory = slurp.Memory

-- some bytes are a prefix of a whole
abbrev pub IsFront : List ℕ → List ℕ → Type 0
IsFront bytes whole = take (length bytes) whole ≡ bytes
