-- Segments are what the references of an index cover.
use Rattle.std.proofs.Common.{◌≡◌, ◌<◌, ℕ, zero, suc, ◌+◌, ◌==◌, List, [], ◌∷◌, ◌++◌, flat_map, length, map, take, drop, All, Option}
use Rattle.std.proofs.{Common.{Some, None, if◌then◌else◌, Ok, refl, sym, ◌∙◌, ap, subst, arith}, lemmas.List.Elements.{All-cons, All-nil}}
use Rattle.bridge_io.proofs.AndThen.{steps_of}
use Rattle.bridge_io.specs.{Outside.Files, Answer.told_as}
use Rattle.box_reader.specs.{Boxes.Left, Parts.part_of as part_read}
use Rattle.segment_index.specs.{declared.reference.Reference.Reference, Index.{Index, index_of}, Laws.{Tile, end_from, extents_from as covered_from}}
use Rattle.timeline.specs.{declared.fault.TimeFault.TimeFault, Expansions.SegmentTimeline}
use Rattle.timeline.proofs.OpenEnds.{no_fault}
use Rattle.url_parts.specs.{Addresses.{chain, local_name_of}, declared.address.Part.Part}
use Rattle.presentation.proofs.Filling.{ok_under}
use Rattle.layer_faults.specs.declared.index.FileFault.{FileFault}
use Rattle.layer_faults.specs.declared.index.FileFault.TheVariants.{Absent, Boxes, Scale}
use Rattle.index_parts.specs.{declared.fault.IndexFault.TheVariants.File, declared.located.Listed.Listed, declared.located.Located.Located}
use Rattle.index_parts.specs.Found.{empty_faults, found_in, if_there, index_faults, index_in, range_faults, reference_faults}
use Rattle.index_parts.specs.Laws.{IsIndexed, LastAs, SegmentsTile, bytes_of}
use Rattle.index_parts.specs.Located.{address_of, if_named, initialization_by, initialization_of, listed_at, listed_by, listed_in}
use Rattle.index_parts.specs.Located.{located_of, located_with, read_of, track_parts, unless_long}
use Rattle.index_parts.specs.{Refusals.{times_fault, unless_any, url_fault}, Rows.{Row, told_in}}
use Rattle.index_parts.specs.Segments.{extents_from, extents_in, fault_of, part_of, parts_from, parts_in, runs_of, ticks_of}
use Rattle.index_parts.specs.Segments.{timeline_with}
use Rattle.index_parts.proofs.Ends.{passed_value}

-- ---- one behind another

parts_tile : (address : List ℕ) (first : ℕ) (rs : List Reference)
    → Tile first (end_from first rs) (map bytes_of (parts_from address first rs))
parts_tile address first [] = refl
parts_tile address first (r ∷ rs) = (refl, parts_tile address (first + r.size) rs)

parts_cover : (address : List ℕ) (first : ℕ) (rs : List Reference)
    → map bytes_of (parts_from address first rs) ≡ covered_from first rs
parts_cover address first [] = refl
parts_cover address first (r ∷ rs) = ap (λ others. (first, first + r.size) ∷ others) (parts_cover address (first + r.size) rs)

parts_own : (address : List ℕ) (first : ℕ) (rs : List Reference)
    → All (λ (part : Part). part.address ≡ address) (parts_from address first rs)
parts_own address first [] = All-nil (λ (part : Part). part.address ≡ address)
parts_own address first (r ∷ rs) =
    All-cons (λ (part : Part). part.address ≡ address) (part_of address first r) (parts_from address (first + r.size) rs) refl
    (parts_own address (first + r.size) rs)

last_as : (timescale start : ℕ) (rs : List Reference) → LastAs timescale start rs (extents_from timescale start rs)
last_as timescale start [] = tt
last_as timescale start (r ∷ rs) = (refl, refl, last_as timescale (start + r.duration) rs)

-- ---- what the steps up to a Representation's segments say

named_so : (name : Option (List ℕ)) (file : List ℕ) → if_named name ≡ Ok file → name ≡ Some file
named_so None file is = absurd (cc)
named_so (Some name) file is = (let same : name ≡ file = cc in ap Some same)

pub record IsLocated (url folder : List ℕ) (row : Row) (l : Located) : Type 0 where
  pub addressed : chain url row.description.bases ≡ Ok l.address
  pub initialized : initialization_by l.address (told_in row).range (told_in row).initialization ≡ Ok l.initialization
  pub named : local_name_of folder l.address ≡ Some l.file
  pub range : l.index ≡ (told_in row).range

is_located : (url folder : List ℕ) (row : Row) (l : Located) → located_of url folder row ≡ Ok l → IsLocated url folder row l
unfolding located_of
is_located url folder row l is =
    let a = steps_of (address_of url row.description) _ l is in
    let i = steps_of (initialization_of row.description a.value (told_in row)) _ l a.then in
    let n = steps_of (if_named (local_name_of folder a.value)) _ l i.then in
    let r = steps_of (unless_long (told_in row).range) _ l n.then in
    let same : located_with row.description (told_in row) a.value i.value n.value ≡ l = (let h = r.then in cc) in
    subst (IsLocated url folder row) same (record {
      addressed = ok_under (url_fault row.description.place) (chain url row.description.bases) a.value a.first;
      initialized = ok_under (url_fault row.description.place)
          (initialization_by a.value (told_in row).range (told_in row).initialization) i.value i.first;
      named = named_so (local_name_of folder a.value) n.value n.first;
      range = refl;
    })

pub record IsRead (l : Located) (files : Files) (bytes : List ℕ) : Type 0 where
  pub whole : List ℕ
  pub there : files l.file ≡ Some whole
  pub part : take l.index.count (drop l.index.first whole) ≡ bytes

part_is : (l : Located) (files : Files) (o : Option (List ℕ)) (bytes : List ℕ) → files l.file ≡ o
    → part_read l.index.first l.index.count o ≡ Ok bytes → IsRead l files bytes
part_is l files None bytes there is = absurd (cc)
part_is l files (Some whole) bytes there is = record { whole = whole; there = there; part = cc }

is_read : (l : Located) (files : Files) (bytes : List ℕ) → read_of l files ≡ Ok bytes → IsRead l files bytes
unfolding read_of
is_read l files bytes is =
    part_is l files (files l.file) bytes refl (ok_under (λ fault. File l.file Absent)
    (part_read l.index.first l.index.count (files l.file)) bytes is)

there_so : (o : Option Index) (index : Index) → if_there o ≡ Ok index → o ≡ Some index
there_so None index is = absurd (cc)
there_so (Some found) index is = (let same : found ≡ index = cc in ap Some same)

has_scale : (timescale at : ℕ) (later : List FileFault) (x index : Index)
    → unless_any ((if timescale == 0 then Scale at ∷ [] else []) ++ later) x ≡ Ok index → 0 < timescale
has_scale zero at later x index is = absurd (cc)
has_scale (suc n) at later x index is = omega arith

none_of : {X : Type 0} (faults : List FileFault) (x y : X) → unless_any faults x ≡ Ok y → faults ≡ []
none_of [] x y is = refl
none_of (fault ∷ faults) x y is = absurd (cc)

pub record IsFound (left : Left) (index : Index) : Type 0 where
  pub first : index_of left ≡ Ok (Some index)
  pub faults : index_faults index ≡ []
  pub scaled : 0 < index.timescale

is_found : (left : Left) (index : Index) → index_in left ≡ Ok index → IsFound left index
unfolding index_in
is_found left index is =
    let f = steps_of (found_in left) _ index is in
    let o = steps_of (told_as Boxes (index_of left)) if_there f.value f.first in
    let same : f.value ≡ index = sym (passed_value (index_faults f.value) f.value index f.then) in
    subst (IsFound left) same (record {
      first = ok_under Boxes (index_of left) o.value o.first ∙ ap Ok (there_so o.value f.value o.then);
      faults = none_of (index_faults f.value) f.value index f.then;
      scaled = has_scale f.value.timescale f.value.at
          (empty_faults f.value ++ (flat_map reference_faults f.value.references ++ range_faults f.value)) f.value index f.then;
    })

abbrev pub timeline_in : (address : List ℕ) → Index → SegmentTimeline
timeline_in address index = timeline_with (ticks_of index) (parts_in address index) (extents_in index)

abbrev pub fault_in : (address : List ℕ) → Index → Option TimeFault
fault_in address index = fault_of (parts_in address index) (extents_in index)

runs_are : (address : List ℕ) (index : Index) (runs : SegmentTimeline) → runs_of address index ≡ Ok runs
    → (fault_in address index ≡ None) × (timeline_in address index ≡ runs)
unfolding runs_of
runs_are address index runs is = no_fault (fault_in address index) (timeline_in address index) runs is

abbrev pub listed_with : Located → Index → SegmentTimeline → Listed
listed_with l index runs = record {
  content = record { initialization = l.initialization; runs = runs };
  segments = length index.references;
}

record IsListed (l : Located) (index : Index) (listed : Listed) : Type 0 where
  none : fault_in l.address index ≡ None
  same : listed_with l index (timeline_in l.address index) ≡ listed

is_listed : (l : Located) (index : Index) (listed : Listed) → listed_by l index ≡ Ok listed → IsListed l index listed
unfolding listed_by
is_listed l index listed is =
    let s = steps_of (told_as (times_fault l.place) (runs_of l.address index)) _ listed is in
    let same : listed_with l index s.value ≡ listed = (let h = s.then in cc) in
    let timed = runs_are l.address index s.value (ok_under (times_fault l.place) (runs_of l.address index) s.value s.first) in
    record { none = timed.0; same = ap (listed_with l index) timed.1 ∙ same }

-- what tells a Representation's segments
pub record IsTold (url folder : List ℕ) (files : Files) (row : Row) (listed : Listed) : Type 0 where
  pub place : Located
  pub bytes : List ℕ
  pub index : Index
  pub located : IsLocated url folder row place
  pub read : IsRead place files bytes
  pub found : IsFound (record { at = place.index.first; bytes = bytes }) index
  pub none : fault_in place.address index ≡ None
  pub same : listed_with place index (timeline_in place.address index) ≡ listed

pub is_told : (url folder : List ℕ) (files : Files) (row : Row) (listed : Listed) → track_parts url folder files row ≡ Ok listed
    → IsTold url folder files row listed
unfolding track_parts listed_at listed_in
is_told url folder files row listed is =
    let l = steps_of (located_of url folder row) _ listed is in
    let b = steps_of (read_of l.value files) _ listed l.then in
    let i = steps_of (told_as (File l.value.file) (index_in (record { at = l.value.index.first; bytes = b.value }))) _ listed b.then in
    let made = is_listed l.value i.value listed i.then in
    record {
      place = l.value;
      bytes = b.value;
      index = i.value;
      located = is_located url folder row l.value l.first;
      read = is_read l.value files b.value b.first;
      found = is_found (record { at = l.value.index.first; bytes = b.value }) i.value
          (ok_under (File l.value.file) (index_in (record { at = l.value.index.first; bytes = b.value })) i.value i.first);
      none = made.none;
      same = made.same;
    }

indexed : (url folder : List ℕ) (files : Files) (row : Row) (l : Located) (bytes : List ℕ) (index : Index) → IsLocated url folder row l
    → IsRead l files bytes
    → IsFound (record { at = l.index.first; bytes = bytes }) index
    → IsIndexed url folder files row (listed_with l index (timeline_in l.address index))
indexed url folder files row l bytes index located read found =
    let ticks : ticks_of index ≡ index.timescale = (let some = found.scaled in omega arith) in
    record {
      address = l.address;
      file = l.file;
      bytes = read.whole;
      index = index;
      parts = parts_in l.address index;
      extents = extents_in index;
      addressed = located.addressed;
      named = located.named;
      there = read.there;
      found = rw (← located.range, read.part) found.first;
      names = refl;
      members = refl;
      many = refl;
      own = parts_own l.address index.first index.references;
      each = parts_cover l.address index.first index.references;
      tile = parts_tile l.address index.first index.references;
      lasting = subst (λ timescale. LastAs timescale 0 index.references (extents_in index)) ticks
          (last_as (ticks_of index) 0 index.references);
    }

pub tiled : SegmentsTile
tiled url folder files row listed is =
    let told = is_told url folder files row listed is in
    subst (IsIndexed url folder files row) told.same
    (indexed url folder files row told.place told.bytes told.index told.located told.read told.found)
