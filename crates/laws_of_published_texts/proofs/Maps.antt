-- A text tells the map of a section's first segment alone.
use Rattle.std.proofs.Common.{◌≡◌, ℕ, suc, ◌≤◌, List, [], ◌∷◌, map, Some, None, refl, ap, ap₂}
use Rattle.std.proofs.{Common.{arith, inl, inr, ltb, if◌then◌else◌}, lemmas.Bool.{cases_Bool, ltb-true}}
use Rattle.std.proofs.lemmas.List.Elements.{All-cons, All-nil}
use Rattle.std.specs.{Bool.⊤, List.All}
use Rattle.url_parts.specs.declared.address.Part.{Part}
use Rattle.hls_writer.specs.{Items.{item_of, items_text}, Playlists.{followed_text, items_lines}}
use Rattle.hls_writer.specs.declared.items.{MediaHead.MediaHead, MediaItem.MediaItem}
use Rattle.laws_of_playlists.specs.ReadMedia.{AreReadable, GoOn, IsReadableItem}

-- section numbers don't fall, from one on
abbrev pub Rising : (low : ℕ) → List MediaItem → Type 0
Rising low [] = ⊤
Rising low (item ∷ items) = (low ≤ item.section) × Rising item.section items

-- a segment of the section of the one before has its map
abbrev pub like : MediaItem → MediaItem → MediaItem
like former item = if ltb former.section item.section then item else record item { map = former.map }

abbrev pub alike_from : MediaItem → List MediaItem → List MediaItem
alike_from former [] = []
alike_from former (item ∷ items) = like former item ∷ alike_from (like former item) items

abbrev pub alike : List MediaItem → List MediaItem
alike [] = []
alike (item ∷ items) = item ∷ alike_from item items

abbrev pub maps_of : List MediaItem → List Part
maps_of items = map (λ (item : MediaItem). item.map) items

-- ---- the same text

same_section : (former item : MediaItem) → (like former item).section ≡ item.section
same_section former item = elim (cases_Bool (ltb former.section item.section)) [ inl next ↦ rw next refl | inr here ↦ rw here refl ]

same_lines : (digits : ℕ) (former : MediaItem) (items : List MediaItem)
    → items_lines digits (Some former.section) (map item_of (alike_from former items))
    ≡ items_lines digits (Some former.section) (map item_of items)
same_lines digits former [] = refl
same_lines digits former (item ∷ items) = elim (cases_Bool (ltb former.section item.section)) [
  | inl next ↦ rw next (cc (same_lines digits item items))
  | inr here ↦ rw here (cc (same_lines digits (record item { map = former.map }) items))
]

all_lines : (digits : ℕ) (items : List MediaItem) → items_lines digits None (map item_of (alike items))
    ≡ items_lines digits None (map item_of items)
all_lines digits [] = refl
all_lines digits (item ∷ items) = cc (same_lines digits item items)

pub same_text : (head : MediaHead) (items : List MediaItem) → items_text head (alike items) ≡ items_text head items
unfolding followed_text
same_text head items = rw (all_lines head.digits items) refl

-- ---- readable

module _ (digits : ℕ) where
  abbrev pub IsGood : MediaItem → Type 0
  IsGood item = IsReadableItem digits (item_of item)

  good_like : (former item : MediaItem) → IsGood former → IsGood item → IsGood (like former item)
  good_like former item was is = elim (cases_Bool (ltb former.section item.section)) [
    | inl next ↦ rw next is
    | inr here ↦ rw here (record { part = is.part; map = was.map; short = is.short })
  ]

  rest : (P : MediaItem → Type 0) (item : MediaItem) (items : List MediaItem) → All P (item ∷ items) → All P items
  rest P item items all = λ k d within. all (suc k) d (omega arith)

  good_from : (former : MediaItem) (items : List MediaItem) → IsGood former → All IsGood items
      → All (IsReadableItem digits) (map item_of (alike_from former items))
  good_from former [] was all = All-nil (IsReadableItem digits)
  good_from former (item ∷ items) was all =
      let good = good_like former item was (all 0 item (omega arith)) in
      All-cons (IsReadableItem digits) (item_of (like former item)) (map item_of (alike_from (like former item) items)) good
      (good_from (like former item) items good (rest IsGood item items all))

  goes_on : (former : MediaItem) (items : List MediaItem) → Rising former.section items
      → GoOn (item_of former) (map item_of (alike_from former items))
  goes_on former [] rising = tt
  goes_on former (item ∷ items) rising = elim (cases_Bool (ltb former.section item.section)) [
    | inl next ↦
        let less = ltb-true former.section item.section next in
        rw next (record { section = rising.0; map = λ same. absurd (omega (arith, less, same)) }, goes_on item items rising.1)
    | inr here ↦
        rw here (record { section = rising.0; map = λ same. refl }, goes_on (record item { map = former.map }) items rising.1)
  ]

  pub alike_readable : (items : List MediaItem) → digits ≤ 9 → All IsGood items → Rising 0 items
      → AreReadable digits (map item_of (alike items))
  alike_readable [] few all rising = record { few = few; each = All-nil (IsReadableItem digits); order = tt }
  alike_readable (item ∷ items) few all rising =
      let good = all 0 item (omega arith) in record {
        few = few;
        each = All-cons (IsReadableItem digits) (item_of item) (map item_of (alike_from item items)) good
            (good_from item items good (rest IsGood item items all));
        order = goes_on item items rising.1;
      }

-- ---- the same maps

same_from : (former : MediaItem) (items : List MediaItem) → maps_of (alike_from former items) ≡ maps_of items
    → alike_from former items ≡ items
same_from former [] same = refl
same_from former (item ∷ items) same = elim (cases_Bool (ltb former.section item.section)) [
  | inl next ↦
      let maps : item.map ∷ maps_of (alike_from item items) ≡ item.map ∷ maps_of items = rw next at same in
      let more : maps_of (alike_from item items) ≡ maps_of items = cc in rw next (ap (λ others. item ∷ others) (same_from item items more))
  | inr here ↦
      let one : MediaItem = record item { map = former.map } in
      let maps : former.map ∷ maps_of (alike_from one items) ≡ item.map ∷ maps_of items = rw here at same in
      let first : former.map ≡ item.map = cc in
      let more : maps_of (alike_from one items) ≡ maps_of items = cc in
      rw here (ap₂ (λ (m : Part) (others : List MediaItem). record item { map = m } ∷ others) first (same_from one items more))
]

pub same_maps : (items : List MediaItem) → maps_of (alike items) ≡ maps_of items → alike items ≡ items
same_maps [] same = refl
same_maps (item ∷ items) same =
    let more : maps_of (alike_from item items) ≡ maps_of items = cc in ap (λ others. item ∷ others) (same_from item items more)
