-- What bytes read as, as one function: the tree that they spell, or their fault.
use Rattle.mpd_tree.specs.declared.fault.TextFault.TheVariants as faults
use Rattle.mpd_tree.specs.declared.stop.Stop.TheVariants as stops
use Rattle.std.specs.{Prelude.{◌≡◌, ℕ, List, if◌then◌else◌, Option, Some, None, Result, Ok, Err}, Str.is_utf8, Str.Lossy.utf8_valid_len}
use Rattle.bridge_io.specs.Places.{place_of}
use Rattle.mpd_tree.specs.{declared.fault.TextFault.TextFault, declared.stop.Fault.Fault, declared.stop.Stop.Stop}
use Rattle.mpd_tree.specs.{Characters.first_bad_character, Trees.Element, Faults.{ReadsAs, placed}, Grammar.document}

abbrev pub told : List ℕ → Result Element Fault → Result Element TextFault
told whole (Ok root) = Ok root
told whole (Err f) = Err (placed whole f)

-- why reading stopped, as callers see it
abbrev pub stop_told : List ℕ → Stop → TextFault
stop_told whole stops.Memory = faults.Memory
stop_told whole (stops.Fault f) = placed whole f

-- characters that are never allowed are searched for before anything is read
abbrev pub read_unless_bad : List ℕ → Option ℕ → Result Element TextFault
read_unless_bad bytes None = told bytes (document bytes).read
read_unless_bad bytes (Some at) = Err (faults.BadChar (place_of bytes at))

-- and bytes that aren't UTF-8 before these
unfoldable pub reading_of : List ℕ → Result Element TextFault
reading_of bytes = if is_utf8 bytes then read_unless_bad bytes (first_bad_character bytes)
    else Err (faults.NotUtf8 (place_of bytes (utf8_valid_len bytes)))

-- The bytes are read as this, and as nothing else: exactly this tree spells them and they have no fault, or none does and
-- they have exactly this fault.
pub record IsOneReading (bytes : List ℕ) (reading : Result Element TextFault) : Type 0 where
  pub is_read : ReadsAs bytes reading
  pub only : (other : Result Element TextFault) → ReadsAs bytes other → other ≡ reading
