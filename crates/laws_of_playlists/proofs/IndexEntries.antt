-- What a track has is what the index of its file tells.
use Rattle.timeline.specs.declared.names.Names.TheVariants as names
use Rattle.presentation.specs.Meanings as presentation
use Rattle.index_parts.specs.Located as located
use Rattle.std.proofs.Common.{◌≡◌, ℕ, suc, ◌+◌, ◌-◌, ◌<◌, false, List, [], ◌∷◌, map, slice_get, take, drop, Option, None, Some, Ok, refl}
use Rattle.std.proofs.{Common.{sym, ◌∙◌, ap, arith}, lemmas.Bool.or_parts}
use Rattle.std.specs.{Prelude.{option_and_then, option_map}, List.list_any, Result.result_ok}
use Rattle.bridge_io.proofs.AndThen.{steps_of}
use Rattle.bridge_io.specs.Outside.{Files}
use Rattle.exact_time.specs.Time.{in_units}
use Rattle.meaning.specs.Meanings.{Segment}
use Rattle.mpd_levels.specs.declared.initialization.Initialization.{Initialization}
use Rattle.timeline.specs.{declared.fault.TimeFault.TheVariants.ZeroDuration, Expansions.{SegmentTimeline, Timing, numbered}}
use Rattle.timeline.specs.{Faults.{fault_if, lasts_no_time}, Listed.listed, Names.referred}
use Rattle.timeline.proofs.OpenEnds.{no_faults, unless}
use Rattle.url_parts.specs.{declared.address.Part.Part, declared.range.Range.Range}
use Rattle.presentation.specs.{Meanings.{part_meant, segment_of, part_with}, Presented.{listed_in, whole_window}}
use Rattle.presentation.proofs.{Meant.{chained, reached}, WholeWindow.{expanded, one_listed, part_at_place}}
use Rattle.segment_index.specs.{declared.reference.Reference.Reference, Index.{Index, index_of}}
use Rattle.index_parts.specs.Located.{part_before, track_parts}
use Rattle.index_parts.specs.Meanings.{entry_at, entry_by, entry_of, entry_with, index_among, initialization_by, segments_from}
use Rattle.index_parts.specs.{Meanings.segments_of, Presented.contents_in, Rows.{Row, told_in}}
use Rattle.index_parts.specs.Segments.{extents_from, extents_in, part_of, parts_from, parts_in, ticks_of}
use Rattle.index_parts.proofs.Tiles.{IsTold, fault_in, is_told, timeline_in}

-- what a Representation has
abbrev ItemOf : {X Y : Type 0} → (List X → Y) → Type 0
ItemOf {X} f = X

abbrev pub Listed : Type 0
Listed = ItemOf contents_in

-- ---- addresses

initialized : (address : List ℕ) (index : Range) (o : Option Initialization) (part : Part)
    → located.initialization_by address index o ≡ Ok part → part ≡ initialization_by address index o
initialized address index None part is = (let same : part_before address index ≡ part = cc in sym same)
initialized address index (Some initialization) part is =
    let own = steps_of (referred address initialization.reference) _ part is in
    let same : part_with initialization.range own.value ≡ part = (let h = own.then in cc) in
    sym same ∙ ap (part_with initialization.range) (reached address initialization.reference own.value own.first)

-- ---- all segments are listed

all_listed : (t start number : ℕ) (rs : List Reference) → list_any lasts_no_time (extents_from t start rs) ≡ false
    → listed whole_window (numbered number (extents_from t start rs)) ≡ numbered number (extents_from t start rs)
all_listed t start number [] is = refl
all_listed t start number (r ∷ rs) is =
    let parts = or_parts _ _ is in
    one_listed t start (start + r.duration) number _ parts.0 (all_listed t (start + r.duration) (number + 1) rs parts.1)

pub all_last : (address : List ℕ) (index : Index) → fault_in address index ≡ None → list_any lasts_no_time (extents_in index) ≡ false
all_last address index none =
    let first = no_faults (fault_if (list_any lasts_no_time (extents_in index)) ZeroDuration) _ none in
    unless (list_any lasts_no_time (extents_in index)) ZeroDuration first.0

-- ---- what they are

module _ (runs : SegmentTimeline) (parts : List Part) (named : runs.names ≡ names.Addresses parts) (first : runs.first_number ≡ 1)
    (address : List ℕ) (t : ℕ) where
  -- of which so many stand before those of some references
  segments_meant : (k from start : ℕ) (rs : List Reference) → ((j : ℕ) → slice_get parts (k + j) ≡ slice_get (parts_from address from rs) j)
      → map (segment_of runs) (numbered (1 + k) (extents_from t start rs)) ≡ segments_from address t from start rs
  segments_meant k from start [] at = refl
  segments_meant k from start (r ∷ rs) at =
      let end = start + r.duration in
      let x : Timing = record { start = in_units t start; end = in_units t end; number = 1 + k } in
      let one : Part → Segment = λ part. record { part = part; start = in_units t start; end = in_units t end } in
      let own = part_of address from r in
      let place : x.number - runs.first_number ≡ k + 0 = omega (arith, first) in
      let part : part_meant runs x ≡ own = part_at_place runs parts x own named (ap (slice_get parts) place ∙ at 0) in
      let moved : (1 + k) + 1 ≡ 1 + (k + 1) = omega arith in
      let next : (j : ℕ) → (k + 1) + j ≡ k + suc j = λ j. omega arith in
      ap (λ (q : Part). one q ∷ map (segment_of runs) (numbered ((1 + k) + 1) (extents_from t end rs))) part
      ∙ ap (λ n. one own ∷ map (segment_of runs) (numbered n (extents_from t end rs))) moved
      ∙ ap (λ later. one own ∷ later)
      (segments_meant (k + 1) (from + r.size) end rs (λ j. ap (slice_get parts) (next j) ∙ at (suc j)))

same_entry : (initialization : Part) (runs : SegmentTimeline) (xs : List Timing) (segments : List Segment)
    → map (segment_of runs) xs ≡ segments → presentation.entry_with initialization runs xs ≡ entry_with initialization segments
same_entry initialization runs [] segments is = ap (entry_with initialization) is
same_entry initialization runs (x ∷ xs) segments is = ap (entry_with initialization) is

module _ (address : List ℕ) (index : Index) (lasting : list_any lasts_no_time (extents_in index) ≡ false) where
  abbrev runs : SegmentTimeline
  runs = timeline_in address index

  all_shown : listed_in whole_window runs ≡ numbered 1 (extents_in index)
  all_shown = ap (λ xs. listed whole_window (numbered 1 xs)) (expanded (extents_in index))
      ∙ all_listed (ticks_of index) 0 1 index.references lasting

  all_meant : 0 < index.timescale → map (segment_of runs) (listed_in whole_window runs) ≡ segments_of address index
  all_meant scaled =
      let parts = parts_in address index in
      let plain : (j : ℕ) → 0 + j ≡ j = λ j. omega arith in
      let ticks : ticks_of index ≡ index.timescale = omega (arith, scaled) in
      ap (map (segment_of runs)) all_shown
      ∙ segments_meant runs parts refl refl address (ticks_of index) 0 index.first 0 index.references (λ j. ap (slice_get parts) (plain j))
      ∙ ap (λ t. segments_from address t index.first 0 index.references) ticks

-- ---- a track

module _ (url folder : List ℕ) (files : Files) (row : Row) (listed : Listed) (told : IsTold url folder files row listed) where
  abbrev address : List ℕ
  address = told.place.address

  abbrev index : Index
  index = told.index

  found : index_of (record {
    at = (told_in row).range.first;
    bytes = take (told_in row).range.count (drop (told_in row).range.first told.read.whole);
  }) ≡ Ok (Some index)
  found = rw (← told.located.range, told.read.part) told.found.first

  there : entry_at folder files address (told_in row) ≡ Some (entry_by address (told_in row) index)
  there =
      let entry = option_map (entry_by address (told_in row)) in
      ap (λ name. entry (option_and_then (index_among (told_in row).range) (option_and_then files name))) told.located.named
      ∙ ap (λ bytes. entry (option_and_then (index_among (told_in row).range) bytes)) told.read.there
      ∙ ap (λ r. entry (option_and_then (λ found. found) (result_ok r))) found

  same : entry_by address (told_in row) index ≡ presentation.entry_of whole_window listed.content
  same =
      let initialization = told.place.initialization in
      let segments = all_meant address index (all_last address index told.none) told.found.scaled in
      ap (λ part. entry_with part (segments_of address index))
      (sym (initialized address (told_in row).range (told_in row).initialization initialization told.located.initialized))
      ∙ sym (same_entry initialization (timeline_in address index) (listed_in whole_window (timeline_in address index))
      (segments_of address index) segments)
      ∙ ap (λ (listed : Listed). presentation.entry_of whole_window listed.content) told.same

-- a track has what the index of its file tells
pub track_meant : (url folder : List ℕ) (files : Files) (row : Row) (listed : Listed) → track_parts url folder files row ≡ Ok listed
    → entry_of url folder files row ≡ Some (presentation.entry_of whole_window listed.content)
unfolding entry_of
track_meant url folder files row listed is =
    let told = is_told url folder files row listed is in
    let deep = chained row.description.bases url told.place.address told.located.addressed in
    ap (λ address. entry_at folder files address (told_in row)) (sym deep) ∙ there url folder files row listed told
    ∙ ap Some (same url folder files row listed told)
