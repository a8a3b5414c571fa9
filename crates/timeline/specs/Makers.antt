-- What is computed once for the names of a Representation.
use Rattle.std.specs.Prelude.{◌≡◌, ℕ, ◌<◌, ◌^◌, Bool, true, false, List, flat_map, string_bytes, IfSome, Option, Result, Ok, Err}
use Rattle.template_ids.specs.{declared.filled.Filled.Filled, declared.slot.Slot.Slot}
use Rattle.template_ids.specs.{Filled.{goes_on_in_path, ids_with, name_of, rest_of, slot_text}}
use Rattle.template_ids.specs.Templates.{named}
use Rattle.url_parts.specs.{Addresses.resolve, Alike.{IsInLineAs, IsReadAs}, Paths.IsBeneath, declared.fault.UrlFault.UrlFault}
use Rattle.timeline.specs.{declared.filled_names.FilledNames.FilledNames, declared.maker.Maker.Maker, declared.names.Names.Names}
use Rattle.timeline.specs.declared.filled_names.FilledNames.TheVariants.{Whole, Beneath, Same, Refused}
use Rattle.timeline.specs.declared.names.Names.TheVariants.{Template, List as Listed, Shared, Addresses}

-- the names without their common prefix, resolved against the deeper base, give what whole names give against the base
abbrev pub GoesOnBeneath : (base : List ℕ) → Filled → Option (List ℕ) → Type 0
GoesOnBeneath base names deeper =
    IfSome deeper (λ deeper. (goes_on_in_path names ≡ true) × IsBeneath base (string_bytes names.front) deeper)

-- a shorter text that stands for another one: as a part of a path, or as a part of any reference
abbrev pub IsShortened : (in_path : Bool) → List ℕ → List ℕ → Type 0
IsShortened true text short = IsReadAs text short
IsShortened false text short = IsInLineAs text short

abbrev pub slots_text : (number time : ℕ) → List Slot → List ℕ
slots_text number time slots = flat_map (slot_text number time) slots

-- the same for each number and each time
abbrev pub IsShortenedSlot : (in_path : Bool) → Slot → Slot → Type 0
IsShortenedSlot in_path slot short = (number time : ℕ) → IsShortened in_path (slot_text number time slot) (slot_text number time short)

abbrev pub AreShortenedSlots : (in_path : Bool) → (slots short : List Slot) → Type 0
AreShortenedSlots in_path slots short = (number time : ℕ)
    → IsShortened in_path (slots_text number time slots) (slots_text number time short)

-- shorter names
pub record AreShortened (in_path : Bool) (names short : Filled) : Type 0 where
  pub whole : (number time : ℕ) → IsShortened in_path (name_of names number time) (name_of short number time)
  pub rest : (number time : ℕ) → IsShortened in_path (rest_of names number time) (rest_of short number time)

-- the URL of a segment by what is computed once
abbrev pub address_by : FilledNames → (base : List ℕ) → (number time : ℕ) → Result (List ℕ) UrlFault
address_by (Whole names) base number time = resolve base (name_of names number time)
address_by (Beneath names deeper) base number time = resolve deeper (rest_of names number time)
address_by (Same address) base number time = Ok address
address_by (Refused fault) base number time = Err fault

-- what is computed gives the URLs of a template's names
abbrev pub IsFilledBy : (media id : List ℕ) → (bandwidth : ℕ) → (base : List ℕ) → FilledNames → Type 0
IsFilledBy media id bandwidth base filled = (number time : ℕ) → number < 2 ^ 64 → time < 2 ^ 64
    → address_by filled base number time ≡ resolve base (named media (ids_with id bandwidth number time))

-- names that give the same URLs
abbrev pub GivesAlike : (base : List ℕ) → (names : Filled) → FilledNames → Type 0
GivesAlike base names filled = (number time : ℕ) → number < 2 ^ 64 → time < 2 ^ 64
    → address_by filled base number time ≡ resolve base (name_of names number time)

abbrev pub IsFilledOf : Names → FilledNames → Type 0
IsFilledOf (Template media id bandwidth base) filled = IsFilledBy media id bandwidth base filled
IsFilledOf (Listed parts base) filled = ⊥
IsFilledOf (Shared parts base) filled = ⊥
IsFilledOf (Addresses parts) filled = ⊥

-- what is kept is that of these names
abbrev pub IsMakerOf : Names → Maker → Type 0
IsMakerOf names maker = IfSome maker.filled (IsFilledOf names)
