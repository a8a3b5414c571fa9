-- Shorter names give the same URLs.
use Rattle.std.proofs.Common.{◌≡◌, ℕ, ◌+◌, ◌<◌, ◌^◌, Bool, true, false, List, [], ◌∷◌, ◌++◌, length, take, get_or, string_bytes}
use Rattle.std.proofs.{Common.{refl, sym, ap, ◌∙◌, subst, append-nil, arith}, lemmas.List.take_more, lemmas.List.Concat.flat_map-append}
use Rattle.std.specs.Prelude.{Some, decimal}
use Rattle.template_ids.specs.{declared.filled.Filled.Filled, declared.slot.Slot.Slot}
use Rattle.template_ids.specs.{Filled.{counted, goes_on_in_path, name_of, rest_of, slot_text}}
use Rattle.template_ids.specs.{Filled.IsFilled, Long.{ForEach, IsAtLeast, IsSegment, names_of}, Templates.{padded}}
use Rattle.template_ids.proofs.Paths.{goes_on}
use Rattle.url_parts.specs.{Addresses.{resolve, IsBase}, Alike.{IsInLineAs}, declared.fault.UrlFault.TheVariants.TooLong}
use Rattle.url_parts.proofs.{InLine.{in_line_both, resolve_in_line}, LongNames.long_segment}
use Rattle.url_parts.proofs.ReadAlike.{read_again, read_both, resolve_read}
use Rattle.timeline.specs.Makers.{AreShortened, AreShortenedSlots, GivesAlike, GoesOnBeneath, IsFilledBy, IsShortened, IsShortenedSlot}
use Rattle.timeline.specs.Makers.{slots_text}
use Rattle.timeline.specs.declared.filled_names.FilledNames.{FilledNames}
use Rattle.timeline.specs.declared.filled_names.FilledNames.TheVariants.{Refused}

pub both : (in_path : Bool) (a b c d : List ℕ) → IsShortened in_path a b → IsShortened in_path c d → IsShortened in_path (a ++ c) (b ++ d)
both true a b c d first next = read_both a b c d first next
both false a b c d first next = in_line_both a b c d first next

pub again : (in_path : Bool) (a : List ℕ) → IsShortened in_path a a
again true a = read_again a
again false a = refl

-- a slot with a shorter text before its number
pub slot_shortened : (in_path : Bool) (slot : Slot) (before : List ℕ) → IsShortened in_path slot.before before → (number time : ℕ)
    → IsShortened in_path (slot_text number time slot) (before ++ padded slot.width (decimal (counted slot.counter number time)))
slot_shortened in_path slot before shorter number time =
    let digits : List ℕ = padded slot.width (decimal (counted slot.counter number time)) in
    both in_path slot.before before digits digits shorter (again in_path digits)

pub slots_next : (in_path : Bool) (slots : List Slot) (i : ℕ) (d : Slot) (before : List Slot) (next : Slot) → i < length slots
    → AreShortenedSlots in_path (take i slots) before → IsShortenedSlot in_path (get_or slots i d) next
    → AreShortenedSlots in_path (take (i + 1) slots) (before ++ next ∷ [])
slots_next in_path slots i d before next inside so_far here number time =
    let text = slot_text number time in
    let slot = get_or slots i d in
    let one = λ (s : Slot). sym (append-nil (text s)) in
    subst (λ t. IsShortened in_path t (slots_text number time (before ++ next ∷ [])))
    (sym (ap (slots_text number time) (take_more slots i d inside) ∙ flat_map-append text (take i slots) (slot ∷ [])))
    (subst (λ t. IsShortened in_path (slots_text number time (take i slots) ++ (text slot ++ [])) t)
    (sym (flat_map-append text before (next ∷ [])))
    (both in_path (slots_text number time (take i slots)) (slots_text number time before) (text slot ++ []) (text next ++ [])
    (so_far number time)
    (both in_path (text slot) (text next) [] [] (here number time) (again in_path []))))

pub names_shortened : (in_path : Bool) (names short : Filled) → IsShortened in_path (string_bytes names.front) (string_bytes short.front)
    → AreShortenedSlots in_path names.slots.items short.slots.items
    → IsShortened in_path (string_bytes names.last) (string_bytes short.last)
    → AreShortened in_path names short
names_shortened in_path names short front slots last =
    let rest = λ (number time : ℕ). both in_path (slots_text number time names.slots.items) (slots_text number time short.slots.items)
    (string_bytes names.last) (string_bytes short.last) (slots number time) last in
    record {
      whole = λ number time. both in_path (string_bytes names.front) (string_bytes short.front) (rest_of names number time)
          (rest_of short number time) front (rest number time);
      rest = rest;
    }

-- ---- URLs

pub rests_alike : (base : List ℕ) (names short : Filled) → IsBase base → AreShortened true names short → goes_on_in_path names ≡ true
    → goes_on_in_path short ≡ true → (number time : ℕ) → number < 2 ^ 64 → time < 2 ^ 64
    → resolve base (rest_of short number time) ≡ resolve base (rest_of names number time)
rests_alike base names short is shortened goes goes_too number time low early =
    let path = goes_on names number time goes low early in
    let path_too = goes_on short number time goes_too low early in
    sym (resolve_read base (rest_of names number time) (rest_of short number time) is
    (record { bytes = path.bytes; some = path.some; first = path.first })
    (record { bytes = path_too.bytes; some = path_too.some; first = path_too.first }) (shortened.rest number time))

pub whole_alike : (base : List ℕ) (names line : Filled) (number time : ℕ)
    → IsInLineAs (name_of names number time) (name_of line number time)
    → resolve base (name_of line number time) ≡ resolve base (name_of names number time)
whole_alike base names line number time same = sym (resolve_in_line base (name_of names number time) (name_of line number time) same)

pub filled_from : (media id : List ℕ) (bandwidth : ℕ) (base : List ℕ) (names : Filled) (filled : FilledNames)
    → IsFilled media id bandwidth names
    → GivesAlike base names filled → IsFilledBy media id bandwidth base filled
filled_from media id bandwidth base names filled is gives number time low early =
    gives number time low early ∙ ap (resolve base) (is number time)

pub too_long : (media id : List ℕ) (bandwidth : ℕ) (base : List ℕ) (least : ℕ) → IsBase base → 2048 < least
    → ForEach (names_of media id bandwidth) (IsAtLeast least) → ForEach (names_of media id bandwidth) IsSegment
    → IsFilledBy media id bandwidth base (Refused TooLong)
too_long media id bandwidth base least is long lengths segments number time low early =
    let at_least = lengths number time low early in
    sym (long_segment base (names_of media id bandwidth number time) is (segments number time low early) (omega (arith, long, at_least)))

-- names without a number, and names that are resolved beneath a base
pub shared_from : (base : List ℕ) (names line : Filled) (filled : FilledNames)
    → ((number time : ℕ) → IsInLineAs (name_of names number time) (name_of line number time)) → GivesAlike base line filled
    → GivesAlike base names filled
shared_from base names line filled same gives number time low early =
    gives number time low early ∙ whole_alike base names line number time (same number time)

pub beneath_from : (base : List ℕ) (line short : Filled) (deeper : List ℕ) → GoesOnBeneath base line (Some deeper)
    → ((number time : ℕ) → number < 2 ^ 64 → time < 2 ^ 64 → resolve deeper (rest_of short number time)
    ≡ resolve deeper (rest_of line number time))
    → (number time : ℕ) → number < 2 ^ 64 → time < 2 ^ 64 → resolve deeper (rest_of short number time)
    ≡ resolve base (name_of line number time)
beneath_from base line short deeper beneath alike number time low early =
    let path = goes_on line number time beneath.0 low early in
    alike number time low early
    ∙ sym (beneath.1 (rest_of line number time) (record { bytes = path.bytes; some = path.some; first = path.first }))
