-- Names with a Representation's id and bandwidth filled in.
use Rattle.std.specs.Prelude.{◌≡◌, ℕ, ◌<◌, ◌^◌, ◌==◌, ◌&&◌, ◌||◌, not, nat_lt, Bool, true, false, List, ◌++◌, length, slice_index, flat_map}
use Rattle.std.specs.{Prelude.{slice_get, string_bytes, decimal, Option, Some, None}, List.list_all}
use Rattle.template_ids.specs.{declared.filled.Filled.Filled, declared.slot.Slot.Slot, declared.slot.Counter.Counter}
use Rattle.template_ids.specs.declared.slot.Counter.TheVariants.{Number, Time}
use Rattle.template_ids.specs.{declared.ids.Ids.Ids, Templates.{named, padded}}

abbrev pub ids_with : (id : List ℕ) → (bandwidth number time : ℕ) → Ids
ids_with id bandwidth number time = record { id = id; bandwidth = bandwidth; number = number; time = time }

abbrev pub counted : Counter → (number time : ℕ) → ℕ
counted Number number time = number
counted Time number time = time

-- a number, with the text before it
abbrev pub slot_text : (number time : ℕ) → Slot → List ℕ
slot_text number time slot = slot.before ++ padded slot.width (decimal (counted slot.counter number time))

-- what follows the common prefix of all names
abbrev pub rest_of : Filled → (number time : ℕ) → List ℕ
rest_of filled number time = flat_map (slot_text number time) filled.slots.items ++ string_bytes filled.last

abbrev pub name_of : Filled → (number time : ℕ) → List ℕ
name_of filled number time = string_bytes filled.front ++ rest_of filled number time

-- the names are those of a template with this id and bandwidth
abbrev pub IsFilled : (text id : List ℕ) → (bandwidth : ℕ) → Filled → Type 0
IsFilled text id bandwidth filled = (number time : ℕ) → name_of filled number time ≡ named text (ids_with id bandwidth number time)

-- a byte that stands for itself in the path of a relative reference: 0x21 to 0x7E, and none of `#`, `:`, `?` and `\`
abbrev pub is_path_byte : ℕ → Bool
is_path_byte b = nat_lt 32 b && nat_lt b 127 && not (b == 35 || b == 58 || b == 63 || b == 92)

-- a path of a relative reference: it begins with a byte that isn't a slash
pub record IsPath (text : List ℕ) : Type 0 where
  pub bytes : list_all is_path_byte text ≡ true
  pub some : 0 < length text
  pub first : (slice_index text 0 == 47) ≡ false

-- there is a first number with a text before it that doesn't begin with a slash
abbrev pub opens_in_path : Option Slot → Bool
opens_in_path None = false
opens_in_path (Some slot) = not (slice_index slot.before 0 == 47)

abbrev pub goes_on_in_path : Filled → Bool
goes_on_in_path filled = opens_in_path (slice_get filled.slots.items 0)
    && list_all (λ slot. list_all is_path_byte slot.before) filled.slots.items && list_all is_path_byte (string_bytes filled.last)

-- where it says so, what follows the common prefix is a path for each number and each time
abbrev pub NamesGoOn : Type 0
NamesGoOn = (filled : Filled) (number time : ℕ) → goes_on_in_path filled ≡ true → number < 2 ^ 64 → time < 2 ^ 64
    → IsPath (rest_of filled number time)
