-- What stands behind the front of names is a path, where the texts between the numbers have the bytes of one.
use Rattle.std.proofs.Common.{◌≡◌, ℕ, ◌-◌, ◌<◌, ◌^◌, ◌==◌, ◌&&◌, true, false, List, [], ◌∷◌, ◌++◌, length, flat_map, string_bytes}
use Rattle.std.proofs.Common.{arith, sym, refl, ◌∙◌, append_assoc, length-append}
use Rattle.std.proofs.{lemmas.Bool.{and_parts, and_from, not-true, true≢false}, lemmas.Bool.Decides.nat_tests}
use Rattle.std.proofs.lemmas.List.Folds.{list_all-append}
use Rattle.std.proofs.{lemmas.Str.Parse.{numerals_by_value, tells_all_ascii_digits}, lemmas.Fmt.{decimal_nonempty, digits_decimal}}
use Rattle.std.proofs.lemmas.List.{length-replicate}
use Rattle.std.specs.{Prelude.{decimal, slice_get, slice_index}, List.list_all, Char.is_ascii_digit, Fmt.digits, Str.all_ascii_digits}
use Rattle.template_ids.specs.{declared.slot.Slot.Slot, declared.slot.Counter.Counter}
use Rattle.template_ids.specs.declared.slot.Counter.TheVariants.{Number, Time}
use Rattle.template_ids.specs.{Templates.padded, Filled.{IsPath, NamesGoOn, counted, is_path_byte, opens_in_path, slot_text}}
use Rattle.template_ids.proofs.FileNames.{zeros_are_digits}

digit_is : (d : ℕ) → is_ascii_digit d ≡ true → (is_path_byte d ≡ true) × ((d == 47) ≡ false)
digit_is d digit = (grind (arith, nat_tests), grind (arith, nat_tests))

digits_are : (ds : List ℕ) → all_ascii_digits ds ≡ true → list_all is_path_byte ds ≡ true
digits_are [] are = refl
digits_are (d ∷ ds) are = let both = and_parts (is_ascii_digit d) (all_ascii_digits ds) are in
    and_from (is_path_byte d) _ (digit_is d both.0).0 (digits_are ds both.1)

digits_begin : (ds more : List ℕ) → 0 < length ds → all_ascii_digits ds ≡ true → (slice_index (ds ++ more) 0 == 47) ≡ false
digits_begin [] more some are = absurd (omega arith)
digits_begin (d ∷ ds) more some are = (digit_is d (and_parts (is_ascii_digit d) (all_ascii_digits ds) are).0).1

module _ (number time : ℕ) (low : number < 2 ^ 64) (early : time < 2 ^ 64) where
  counted_is : (c : Counter) → counted c number time < 2 ^ 64
  counted_is Number = low
  counted_is Time = early

  abbrev number_of : Slot → List ℕ
  number_of s = padded s.width (decimal (counted s.counter number time))

  number_is : (s : Slot) → all_ascii_digits (number_of s) ≡ true
  unfolding digits
  number_is s =
      let own = numerals_by_value (λ ds. all_ascii_digits ds ≡ true) tells_all_ascii_digits in
      zeros_are_digits (s.width - length (decimal (counted s.counter number time))) (decimal (counted s.counter number time))
      (digits_decimal own (counted s.counter number time) (counted_is s.counter))

  number_some : (s : Slot) → 0 < length (number_of s)
  number_some s =
      let some = decimal_nonempty (counted s.counter number time) (counted_is s.counter) in
      simp (length-append, length-replicate) (omega arith)

  slots_are : (slots : List Slot) → list_all (λ s. list_all is_path_byte s.before) slots ≡ true
      → list_all is_path_byte (flat_map (slot_text number time) slots) ≡ true
  slots_are [] are = refl
  slots_are (s ∷ slots) are =
      let both = and_parts (list_all is_path_byte s.before) (list_all (λ s. list_all is_path_byte s.before) slots) are in
      list_all-append is_path_byte (slot_text number time s) _
      ∙ and_from _ _ (list_all-append is_path_byte s.before (number_of s) ∙ and_from _ _ both.0 (digits_are (number_of s) (number_is s)))
      (slots_are slots both.1)

  slot_begins : (s : Slot) (before more : List ℕ) → (slice_index before 0 == 47) ≡ false
      → (slice_index ((before ++ number_of s) ++ more) 0 == 47) ≡ false
  slot_begins s [] more first = digits_begin (number_of s) more (number_some s) (number_is s)
  slot_begins s (b ∷ before) more first = first

  path_is : (slots : List Slot) (last : List ℕ) (s : Slot) (later : List Slot) → slots ≡ s ∷ later → (slice_index s.before 0 == 47) ≡ false
      → list_all (λ s. list_all is_path_byte s.before) slots ≡ true → list_all is_path_byte last ≡ true
      → IsPath (flat_map (slot_text number time) slots ++ last)
  path_is slots last s later whole first are last_is = record {
    bytes = list_all-append is_path_byte (flat_map (slot_text number time) slots) last ∙ and_from _ _ (slots_are slots are) last_is;
    some = rw whole (omega (
      arith,
      number_some s,
      length-append s.before (number_of s),
      length-append (slot_text number time s) (flat_map (slot_text number time) later),
      length-append (slot_text number time s ++ flat_map (slot_text number time) later) last,
    ));
    first = rw (whole, append_assoc (slot_text number time s) (flat_map (slot_text number time) later) last)
        (slot_begins s s.before (flat_map (slot_text number time) later ++ last) first);
  }

path_if_open : (number time : ℕ) → number < 2 ^ 64 → time < 2 ^ 64 → (slots : List Slot) (last : List ℕ)
    → opens_in_path (slice_get slots 0) ≡ true → list_all (λ (s : Slot). list_all is_path_byte s.before) slots ≡ true
    → list_all is_path_byte last ≡ true → IsPath (flat_map (slot_text number time) slots ++ last)
path_if_open number time low early [] last opened are last_is = absurd (true≢false (sym opened))
path_if_open number time low early (s ∷ slots) last opened are last_is =
    path_is number time low early (s ∷ slots) last s slots refl (not-true _ opened) are last_is

pub goes_on : NamesGoOn
goes_on filled number time is low early =
    let ends = and_parts (opens_in_path (slice_get filled.slots.items 0)
    && list_all (λ (s : Slot). list_all is_path_byte s.before) filled.slots.items) (list_all is_path_byte (string_bytes filled.last)) is in
    let begins = and_parts (opens_in_path (slice_get filled.slots.items 0))
    (list_all (λ (s : Slot). list_all is_path_byte s.before) filled.slots.items) ends.0 in
    path_if_open number time low early filled.slots.items (string_bytes filled.last) begins.0 begins.1 ends.1
