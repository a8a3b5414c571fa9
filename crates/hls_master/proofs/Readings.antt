-- Entries one after another.
use Rattle.std.proofs.Common.{◌≡◌, ℕ, ◌<◌, List, [], ◌∷◌, length, flat_map, Option, Some, None, Result, Ok, Err, refl, ◌∙◌, ap}
use Rattle.std.proofs.{Common.{append_assoc, arith}, lemmas.List.append-nil}
use Rattle.bridge_io.specs.{Firsts.first_some, declared.place.Place.Place}
use Rattle.hls_lines.specs.Attributes.{attributes_of}
use Rattle.hls_master.specs.{declared.fault.MasterFault.MasterFault, Entries.{MasterEntry, rendition, variant, stray, IsNext}}
use Rattle.hls_master.specs.{Faults.answer, Mentions.{MentionsValue, entry_rendition, entry_variant, mentions_behind, with_rendition}}
use Rattle.hls_master.specs.{Mentions.{entry_fault, reading}, Renditions.{RenditionValue, rendition_fault, rendition_value, same_name}}
use Rattle.hls_master.proofs.Answers.{no_fault, value_is, fault_is}

-- an entry without a fault, and one at fault
module _ (master : List ℕ) (before : MentionsValue) (entry : MasterEntry) (entries : List MasterEntry) where
  pub goes_on : entry_fault master before.renditions entry ≡ None → reading master before (entry ∷ entries)
      ≡ reading master (mentions_behind master before (entry ∷ [])) entries
  unfolding reading
  goes_on none = rw (
    none,
    append-nil (entry_rendition master entry),
    append-nil (entry_variant master entry),
    append_assoc before.renditions (entry_rendition master entry) (flat_map (entry_rendition master) entries),
    append_assoc before.variants (entry_variant master entry) (flat_map (entry_variant master) entries),
  ) refl

  pub stops : (fault : MasterFault) → entry_fault master before.renditions entry ≡ Some fault
      → reading master before (entry ∷ entries) ≡ Err fault
  unfolding reading
  stops fault e = rw e refl

pub none_left : (master : List ℕ) (before : MentionsValue) → reading master before [] ≡ Ok before
unfolding reading
none_left master before = rw (append-nil before.renditions, append-nil before.variants) refl

-- the next entry is read
module _ (master : List ℕ) (before : MentionsValue) where
  abbrev after_entry : MasterEntry → Result MentionsValue MasterFault
  after_entry entry = answer (entry_fault master before.renditions entry) (mentions_behind master before (entry ∷ []))

  read_one : (after : MentionsValue) (entry : MasterEntry) (entries left : List MasterEntry) → entries ≡ entry ∷ left
      → after_entry entry ≡ Ok after
      → (reading master before entries ≡ reading master after left) × (length left < length entries)
  read_one after entry entries left is read = (
    rw is (goes_on master before entry left (no_fault _ _ _ read) ∙ ap (λ m. reading master m left) (value_is _ _ _ read)),
    rw is (omega arith),
  )

  pub next_is_read : (after : MentionsValue) (entry : MasterEntry) (entries left : List MasterEntry) → IsNext entries (Some entry) left
      → after_entry entry ≡ Ok after
      → (reading master before entries ≡ reading master after left) × (length left < length entries)
  next_is_read after (stray fault) entries left is read = cc
  next_is_read after (rendition rest place) entries left is read = read_one after (rendition rest place) entries left is read
  next_is_read after (variant rest place uri uri_place) entries left is read =
      read_one after (variant rest place uri uri_place) entries left is read

  told_one : (fault : MasterFault) (entry : MasterEntry) (entries left : List MasterEntry) → entries ≡ entry ∷ left
      → after_entry entry ≡ Err fault → reading master before entries ≡ Err fault
  told_one fault entry entries left is told = rw is (stops master before entry left fault (fault_is _ _ _ told))

  pub next_is_told : (fault : MasterFault) (entry : MasterEntry) (entries left : List MasterEntry) → IsNext entries (Some entry) left
      → after_entry entry ≡ Err fault → reading master before entries ≡ Err fault
  next_is_told fault (stray f) entries left is told = told_one fault (stray f) entries is.0 is.1 told
  next_is_told fault (rendition rest place) entries left is told = told_one fault (rendition rest place) entries left is told
  next_is_told fault (variant rest place uri uri_place) entries left is told =
      told_one fault (variant rest place uri uri_place) entries left is told

one_left : {X F : Type 0} (fault : Option F) (value : X) → answer (first_some (fault ∷ [])) value ≡ answer fault value
one_left None value = refl
one_left (Some f) value = refl

-- a rendition that was read
pub by_rendition : (master : List ℕ) (before : MentionsValue) (rest : List ℕ) (place : Place) (one : RenditionValue)
    → answer (rendition_fault master place (attributes_of rest place)) (rendition_value master (attributes_of rest place)) ≡ Ok (Some one)
    → answer (entry_fault master before.renditions (rendition rest place)) (mentions_behind master before (rendition rest place ∷ []))
    ≡ answer (same_name before.renditions place (Some one)) (with_rendition before one)
by_rendition master before rest place one read =
    let none = no_fault _ _ _ read in
    let is = value_is _ _ _ read in
    rw (none, is, append-nil before.variants) (one_left (same_name before.renditions place (Some one)) (with_rendition before one))
