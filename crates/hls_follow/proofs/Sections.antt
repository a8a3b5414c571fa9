-- The segments of a track, section by section.
use Rattle.std.proofs.Common.{◌≡◌, ℕ, zero, suc, Bool, true, false, ◌&&◌, cond, eqb, List, [], ◌∷◌, ◌++◌, map, length, All, slice_get}
use Rattle.std.proofs.{Common.{Option, Some, None, Ok, Err, refl, sym, ◌∙◌, ap, ap₂, subst, bytes_eq}, lemmas.Bool.eqb-true}
use Rattle.std.proofs.{lemmas.List.Elements.{All-nil, All-cons}, lemmas.Slice.Eq.bytes_eq-Decides}
use Rattle.std.specs.{List.list_all, Option.option_eq}
use Rattle.bridge_io.proofs.AndThen.{steps_of}
use Rattle.bridge_io.specs.Firsts.{first_fault}
use Rattle.url_parts.specs.{declared.address.Part.Part, declared.range.Range.Range}
use Rattle.hls_media.specs.{declared.media.Media.Media, declared.media.MediaSegment.MediaSegment}
use Rattle.hls_presentation.specs.Presenting.{flattened}
use Rattle.layer_faults.specs.declared.hls.HlsFault.TheVariants.{MapChanged, NoMap, ZeroDuration}
use Rattle.hls_presentation.specs.Tracks.{Source, changes_map, fault_if, has_empty, lacks_maps, map_changes, map_changes_behind, same_part}
use Rattle.hls_presentation.specs.Tracks.{same_range}
use Rattle.hls_follow.specs.Times.{TimedSegment}
use Rattle.layer_faults.specs.declared.live.LiveFault.TheVariants.{NoTracks, SectionsDiffer}
use Rattle.hls_follow.specs.{Groups.{groups_of, put_before}, Rules.{common_sections, fault_of_track, has_sections, judged_segments}}
use Rattle.hls_follow.specs.Rules.{judged_segments_of, sections_behind, sections_in, sections_of}

-- ---- maps

pub same_ranges : (a b : Range) → same_range a b ≡ true → a ≡ b
same_ranges a b is = by (eqb a.first b.first) (eqb a.count b.count) refl refl is
  where
    by : (f c : Bool) → eqb a.first b.first ≡ f → eqb a.count b.count ≡ c → (f && c) ≡ true → a ≡ b
    by true true f c all = ap₂ (λ (f c : ℕ). record { first = f; count = c }) (eqb-true a.first b.first f) (eqb-true a.count b.count c)
    by true false f c all = absurd (cc)
    by false c f d all = absurd (cc)

pub same_options : {X : Type 0} (same : X → X → Bool) → ((a b : X) → same a b ≡ true → a ≡ b) → (a b : Option X)
    → option_eq same a b ≡ true → a ≡ b
same_options same one None None is = refl
same_options same one None (Some b) is = absurd (cc)
same_options same one (Some a) None is = absurd (cc)
same_options same one (Some a) (Some b) is = ap Some (one a b is)

pub same_parts : (a b : Part) → same_part a b ≡ true → a ≡ b
same_parts a b is = by (bytes_eq a.address b.address) (option_eq same_range a.range b.range) refl refl is
  where
    by : (f c : Bool) → bytes_eq a.address b.address ≡ f → option_eq same_range a.range b.range ≡ c → (f && c) ≡ true → a ≡ b
    by true true f c all =
        ap₂ (λ (text : List ℕ) (range : Option Range). record { address = text; range = range })
        ((bytes_eq-Decides a.address b.address).0 f) (same_options same_range same_ranges a.range b.range c)
    by true false f c all = absurd (cc)
    by false c f d all = absurd (cc)

-- ---- one section after another

abbrev pub segments_in : List TimedSegment → List MediaSegment
segments_in timed = map (λ (t : TimedSegment). t.segment) timed

-- Segments of a section, all with one map.
pub record AreOf (section : ℕ) (group : List TimedSegment) : Type 0 where
  pub map : Option Part
  pub sections : All (λ (t : TimedSegment). t.segment.section ≡ section) group
  pub maps : All (λ (t : TimedSegment). t.segment.map ≡ map) group

-- groups of segments that are of these sections
abbrev pub AreCut : List (List TimedSegment) → (sections : List ℕ) → Type 0
AreCut [] [] = Unit {0}
AreCut [] (n ∷ sections) = ⊥
AreCut (group ∷ groups) [] = ⊥
AreCut (group ∷ groups) (n ∷ sections) = AreOf n group × AreCut groups sections

-- the group of a segment, and those behind it
record Front (s : TimedSegment) (rest : List TimedSegment) : Type 0 where
  group : List TimedSegment
  groups : List (List TimedSegment)
  is : groups_of (s ∷ rest) ≡ (s ∷ group) ∷ groups
  sections : All (λ (t : TimedSegment). t.segment.section ≡ s.segment.section) (s ∷ group)
  maps : All (λ (t : TimedSegment). t.segment.map ≡ s.segment.map) (s ∷ group)
  cut : AreCut groups (sections_behind (Some s.segment.section) (segments_in rest))

abbrev IsSection : TimedSegment → TimedSegment → Type 0
IsSection s t = t.segment.section ≡ s.segment.section

abbrev HasMap : TimedSegment → TimedSegment → Type 0
HasMap s t = t.segment.map ≡ s.segment.map

same_map : (s next : TimedSegment) → eqb s.segment.section next.segment.section ≡ true → changes_map s.segment next.segment ≡ false
    → next.segment.map ≡ s.segment.map
same_map s next section kept = by (option_eq same_part s.segment.map next.segment.map) refl
  where
    by : (b : Bool) → option_eq same_part s.segment.map next.segment.map ≡ b → next.segment.map ≡ s.segment.map
    by true b = sym (same_options same_part same_parts s.segment.map next.segment.map b)
    by false b = absurd (let changed : changes_map s.segment next.segment ≡ true = rw (section, b) refl in cc)

front_by : (s next : TimedSegment) (later : List TimedSegment) (b : Bool) → eqb s.segment.section next.segment.section ≡ b
    → changes_map s.segment next.segment ≡ false → Front next later → Front s (next ∷ later)
front_by s next later true is kept f =
    let section : next.segment.section ≡ s.segment.section = sym (eqb-true s.segment.section next.segment.section is) in
    let of = same_map s next is kept in
    let behind : sections_behind (Some s.segment.section) (segments_in (next ∷ later))
    ≡ sections_behind (Some next.segment.section) (segments_in later) =
    ap (λ b. cond b (sections_behind (Some s.segment.section) (segments_in later)) (next.segment.section ∷ sections_behind
    (Some next.segment.section) (segments_in later))) is
    ∙ ap (λ (n : ℕ). sections_behind (Some n) (segments_in later)) (sym section) in
    record {
      group = next ∷ f.group;
      groups = f.groups;
      is = ap (put_before s) f.is ∙ ap (λ b. cond b ((s ∷ next ∷ f.group) ∷ f.groups) ((s ∷ []) ∷ (next ∷ f.group) ∷ f.groups)) is;
      sections = All-cons (IsSection s) s (next ∷ f.group) refl (λ i d within. f.sections i d within ∙ section);
      maps = All-cons (HasMap s) s (next ∷ f.group) refl (λ i d within. f.maps i d within ∙ of);
      cut = subst (AreCut f.groups) (sym behind) f.cut;
    }
front_by s next later false is kept f =
    let behind : sections_behind (Some s.segment.section) (segments_in (next ∷ later))
    ≡ next.segment.section ∷ sections_behind (Some next.segment.section) (segments_in later) =
    ap (λ b. cond b (sections_behind (Some s.segment.section) (segments_in later)) (next.segment.section ∷ sections_behind
    (Some next.segment.section) (segments_in later))) is in
    record {
      group = [];
      groups = (next ∷ f.group) ∷ f.groups;
      is = ap (put_before s) f.is ∙ ap (λ b. cond b ((s ∷ next ∷ f.group) ∷ f.groups) ((s ∷ []) ∷ (next ∷ f.group) ∷ f.groups)) is;
      sections = All-cons (IsSection s) s [] refl (All-nil (IsSection s));
      maps = All-cons (HasMap s) s [] refl (All-nil (HasMap s));
      cut = subst (AreCut ((next ∷ f.group) ∷ f.groups)) (sym behind)
          (record { map = next.segment.map; sections = f.sections; maps = f.maps }, f.cut);
    }

-- no map changes in a section
record Keeps (s : MediaSegment) (next : MediaSegment) (rest : List MediaSegment) : Type 0 where
  here : changes_map s next ≡ false
  later : map_changes_behind next rest ≡ false

keeps : (s next : MediaSegment) (rest : List MediaSegment) (b : Bool) → changes_map s next ≡ b
    → map_changes_behind s (next ∷ rest) ≡ false → Keeps s next rest
keeps s next rest true is none = absurd (let h : map_changes_behind s (next ∷ rest) ≡ true = rw is refl in cc)
keeps s next rest false is none =
    record { here = is; later = (let h : map_changes_behind s (next ∷ rest) ≡ map_changes_behind next rest = rw is refl in sym h ∙ none) }

front : (s : TimedSegment) (rest : List TimedSegment) → map_changes_behind s.segment (segments_in rest) ≡ false → Front s rest
front s [] none = record {
  group = [];
  groups = [];
  is = refl;
  sections = All-cons (IsSection s) s [] refl (All-nil (IsSection s));
  maps = All-cons (HasMap s) s [] refl (All-nil (HasMap s));
  cut = tt;
}
front s (next ∷ later) none =
    let k = keeps s.segment next.segment (segments_in later) (changes_map s.segment next.segment) refl none in
    front_by s next later (eqb s.segment.section next.segment.section) refl k.here (front next later k.later)

-- the groups are those of the sections, in order
pub cut : (timed : List TimedSegment) → map_changes (segments_in timed) ≡ false
    → AreCut (groups_of timed) (sections_behind None (segments_in timed))
cut [] none = tt
cut (s ∷ rest) none =
    let f = front s rest none in
    subst (λ (groups : List (List TimedSegment)). AreCut groups (sections_behind None (segments_in (s ∷ rest)))) (sym f.is)
    (record { map = s.segment.map; sections = f.sections; maps = f.maps }, f.cut)

-- and all segments stand in them
put_flat : (t : TimedSegment) (groups : List (List TimedSegment)) → flattened (put_before t groups) ≡ t ∷ flattened groups
put_flat t [] = refl
put_flat t ([] ∷ groups) = refl
put_flat t ((next ∷ rest) ∷ groups) = by (eqb t.segment.section next.segment.section)
  where
    by : (b : Bool) → flattened (cond b ((t ∷ next ∷ rest) ∷ groups) ((t ∷ []) ∷ (next ∷ rest) ∷ groups))
        ≡ t ∷ flattened ((next ∷ rest) ∷ groups)
    by true = refl
    by false = refl

pub flat : (timed : List TimedSegment) → flattened (groups_of timed) ≡ timed
flat [] = refl
flat (t ∷ rest) = put_flat t (groups_of rest) ∙ ap (λ (ts : List TimedSegment). t ∷ ts) (flat rest)

-- ---- what is judged of one track

pub no_change : (media : Media) → judged_segments_of media ≡ Ok tt → map_changes media.segments ≡ false
no_change media is = by (lacks_maps media) (map_changes media.segments) (has_empty media.segments) is
  where
    by : (l m e : Bool) → first_fault (map fault_of_track (fault_if l NoMap ++ (fault_if m MapChanged ++ fault_if e ZeroDuration))) ≡ Ok tt
        → m ≡ false
    by true m e is = absurd (cc)
    by false true e is = absurd (cc)
    by false false e is = refl

pub unchanged_at : (kept : List Source) (place : ℕ) (s : Source) → judged_segments kept ≡ Ok tt → slice_get kept place ≡ Some s
    → map_changes s.media.segments ≡ false
unchanged_at [] place s judged is = absurd (cc)
unchanged_at (k ∷ kept) zero s judged is =
    let j = steps_of (judged_segments_of k.media) _ tt judged in
    let same : k ≡ s = cc in
    subst (λ (s : Source). map_changes s.media.segments ≡ false) same (no_change k.media j.first)
unchanged_at (k ∷ kept) (suc place) s judged is =
    let j = steps_of (judged_segments_of k.media) _ tt judged in
    unchanged_at kept place s j.then is

both : (a b : Bool) → (a && b) ≡ true → (a ≡ true) × (b ≡ true)
both true true is = (refl, refl)
both true false is = absurd (cc)
both false b is = absurd (cc)

all_at : (p : Source → Bool) (kept : List Source) (place : ℕ) (s : Source) → list_all p kept ≡ true → slice_get kept place ≡ Some s
    → p s ≡ true
all_at p [] place s all is = absurd (cc)
all_at p (k ∷ kept) zero s all is = (let same : k ≡ s = cc in ap p (sym same) ∙ (both (p k) (list_all p kept) all).0)
all_at p (k ∷ kept) (suc place) s all is = all_at p kept place s (both (p k) (list_all p kept) all).1 is

-- what is common is what the first track has, and so each one
record AreCommon (kept : List Source) (sections : List ℕ) : Type 0 where
  first : sections_in kept ≡ sections
  all : list_all (has_sections (sections_in kept)) kept ≡ true

common : (kept : List Source) (sections : List ℕ) → common_sections kept ≡ Ok sections → AreCommon kept sections
common kept sections is = by (list_all (has_sections (sections_in kept)) kept) (eqb (length (sections_in kept)) 0) refl refl
  where
    by : (all none : Bool) → list_all (has_sections (sections_in kept)) kept ≡ all → eqb (length (sections_in kept)) 0 ≡ none
        → AreCommon kept sections
    by true false all none =
        (let told : common_sections kept ≡ Ok (sections_in kept) = rw (all, none) refl in
        let same : sections_in kept ≡ sections = cc in
        record { first = same; all = all })
    by true true all none = absurd (let told : common_sections kept ≡ Err NoTracks = rw (all, none) refl in cc)
    by false none all e = absurd (let told : common_sections kept ≡ Err SectionsDiffer = rw all refl in cc)

pub first_sections : (kept : List Source) (sections : List ℕ) → common_sections kept ≡ Ok sections → sections_in kept ≡ sections
first_sections kept sections is = (common kept sections is).first

pub sections_at : (kept : List Source) (sections : List ℕ) (place : ℕ) (s : Source) → common_sections kept ≡ Ok sections
    → slice_get kept place ≡ Some s → sections ≡ sections_of s.media
sections_at kept sections place s is at =
    let c = common kept sections is in
    sym c.first ∙ (bytes_eq-Decides (sections_in kept) (sections_of s.media)).0
    (all_at (has_sections (sections_in kept)) kept place s c.all at)
