-- The faults of a text: what it is, and where.
use Rattle.mpd_tree.specs.declared.fault.TextFault.TheVariants as faults
use Rattle.std.specs.Prelude.{◌≡◌, ◌≤◌, ℕ, ◌==◌, ◌⊎◌, List, length, if◌then◌else◌, Option, Some, None, Result, Ok, Err, IsUtf8}
use Rattle.std.specs.Str.Lossy.{utf8_valid_len}
use Rattle.bridge_io.specs.{declared.place.Place.Place, Places.place_of}
use Rattle.mpd_tree.specs.{declared.fault.TextFault.TextFault, declared.stop.Fault.Fault, declared.stop.Wrong.Wrong}
use Rattle.mpd_tree.specs.declared.stop.Wrong.TheVariants.{Syntax, TagMismatch, DoubleAttribute, Entity, Doctype, Cdata, Instruction}
use Rattle.mpd_tree.specs.{declared.stop.Wrong.TheVariants.Depth, Characters.first_bad_character, Trees.Element}
use Rattle.mpd_tree.specs.{Positions.{Position, place_before, fault_at}, Grammar.{IsClean, IsDocument, Spells, document}}

-- a fault by its kind
abbrev pub named_fault : Wrong → Place → TextFault
named_fault Syntax place = faults.Syntax place
named_fault TagMismatch place = faults.TagMismatch place
named_fault DoubleAttribute place = faults.DoubleAttribute place
named_fault Entity place = faults.Entity place
named_fault Doctype place = faults.Doctype place
named_fault Cdata place = faults.Cdata place
named_fault Instruction place = faults.Instruction place
named_fault Depth place = faults.Depth place

-- where no byte is left that decides it, the text is truncated
abbrev pub placed : List ℕ → Fault → TextFault
placed whole f =
    if f.decided == 0 then faults.Cut (place_of whole (length whole)) else named_fault f.wrong (place_before whole f.told)

-- the longest prefix of the bytes that can still be continued
pub record IsLongestOpen (bytes : List ℕ) (at : Position) : Type 0 where
  pub is_open : (document bytes).is_open at
  pub longest : (other : Position) → (document bytes).is_open other → length at.rest ≤ length other.rest

-- a byte follows that can't, or the file ends before the text is complete
pub record IsRefused (bytes : List ℕ) (fault : TextFault) : Type 0 where
  pub at : Position
  pub is_longest : IsLongestOpen bytes at
  pub is_no_text : (root : Element) → ¬ (IsDocument root bytes)
  pub fault_is : fault ≡ placed bytes (fault_at at)

pub record IsNotUtf8 (bytes : List ℕ) (fault : TextFault) : Type 0 where
  pub not_utf8 : ¬ (IsUtf8 bytes)
  pub fault_is : fault ≡ faults.NotUtf8 (place_of bytes (utf8_valid_len bytes))

pub record HasBadCharacter (bytes : List ℕ) (fault : TextFault) : Type 0 where
  pub utf8 : IsUtf8 bytes
  pub at : ℕ
  pub is_first : first_bad_character bytes ≡ Some at
  pub fault_is : fault ≡ faults.BadChar (place_of bytes at)

-- The whole file is searched for bytes that aren't UTF-8, and then for characters that are never allowed, before anything
-- is decided from the left; the end of the file is decided last.
abbrev pub HasFault : List ℕ → TextFault → Type 0
HasFault bytes fault = IsNotUtf8 bytes fault ⊎ HasBadCharacter bytes fault ⊎ (IsClean bytes × IsRefused bytes fault)

-- what a text reads as: the tree that it spells, or the fault that it has
abbrev pub ReadsAs : List ℕ → Result Element TextFault → Type 0
ReadsAs bytes (Ok root) = Spells root bytes
ReadsAs bytes (Err fault) = HasFault bytes fault

-- out of memory says nothing about the text
abbrev pub refusal : TextFault → Option TextFault
refusal faults.Memory = None
refusal fault = Some fault
