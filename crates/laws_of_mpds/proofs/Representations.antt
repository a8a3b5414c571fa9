-- Representations of one set are read as they were written.
use Rattle.mpd_profile.specs.declared.listed.Listed.TheVariants as listed
use Rattle.std.proofs.Common.{◌≡◌, ℕ, ◌+◌, ◌<◌, ◌≤◌, false, List, [], ◌∷◌, ◌++◌, length, map, filter, codes, Option, Some, None}
use Rattle.std.proofs.Common.{unwrap_or, refl, sym, ◌∙◌, ap, ap₂, subst, arith, ◌⊎◌, inl, inr, ⊎_elim}
use Rattle.std.specs.List.{AllByRecursion}
use Rattle.bridge_io.specs.{declared.place.Place.Place, declared.media.Kind.Kind, declared.media.Kind.TheVariants.{Video, Audio, Text}}
use Rattle.url_parts.specs.declared.address.Part.{Part}
use Rattle.mpd_values.specs.MediaTypes.{kind_of}
use Rattle.mpd_tree.specs.{Trees.Element, Views.side_by_side, Placed.{past, placed}, Markup.{Tag, opening}}
use Rattle.mpd_profile.specs.{Heads.{has_child, value_named}, LeftOut.{type_of, is_representation_left_out}}
use Rattle.mpd_levels.specs.Segments.{Segments, segments_of}
use Rattle.mpd_rules.specs.{Kept.{Path, is_kept, levels_of, path_in}, Readings.base_reference, Typed.track_of}
use Rattle.presentation.specs.declared.track.Track.{Track}
use Rattle.segment_forms.specs.{declared.form.Form.Form, declared.form.Form.TheVariants.{Plain, Players}, declared.pattern.Pattern.Pattern}
use Rattle.dash_writer.specs.{Elements.{Element as Written, in_order, tag_of}, Forms.{pattern_in, players_by, segments_with}}
use Rattle.dash_writer.specs.Outline.{mime_type, representation_attributes, track_element, track_elements}
use Rattle.laws_of_mpds.specs.{Told.{AreNamed, AreReadableTimes, read_at, segments_told}, Shown.{shown_row, shown_tracks}}
use Rattle.laws_of_mpds.proofs.{Lists.timed_lists, Views.{behind, has_none, no_base, value_read}}

-- ---- what a row says by what its levels say

pub kind_read : (kind : Kind) → kind_of (mime_type kind) ≡ Some kind
unfolding kind_of
kind_read Video = refl
kind_read Audio = refl
kind_read Text = refl

-- a set that says a kind and a language
pub record OfSet (set : Element) (kind : Kind) (language : Option (List ℕ)) : Type 0 where
  pub type : type_of set.head ≡ Some (mime_type kind)
  pub tongue : value_named (codes "lang") set.head ≡ language

-- no level has a BaseURL, and the Representation no media type of its own
pub record IsBare (path : Path) : Type 0 where
  pub mpd : base_reference path.mpd ≡ None
  pub period : base_reference path.period ≡ None
  pub set : base_reference path.set ≡ None
  pub representation : base_reference path.representation ≡ None
  pub type : type_of path.representation.head ≡ None

row_shown : (path : Path) (kind : Kind) (language : Option (List ℕ)) (s : Segments) → OfSet path.set kind language → IsBare path
    → segments_of (levels_of path) ≡ Some s
    → shown_row (track_of segments_of path) ≡ record { kind = kind; language = language; bases = []; segments = Some s }
row_shown path kind language s of_set bare segments =
    let d = (track_of segments_of path).description in
    let bases : d.bases ≡ [] = rw (bare.mpd, bare.period, bare.set, bare.representation) refl in
    let kind_is : d.kind ≡ kind = rw (bare.type, of_set.type, kind_read kind) refl in
    ap₂ (λ k l. record { kind = k; language = l; bases = d.bases; segments = segments_of (levels_of path) }) kind_is of_set.tongue
    ∙ ap₂ (λ b t. record { kind = kind; language = language; bases = b; segments = t }) bases segments

-- ---- a Representation in its set

-- a Period with what its tracks have in it, and what stands round it
pub record Around : Type 0 where
  pub lists : ℕ → List Written
  pub told : ℕ → Option Segments
  pub mpd : Element
  pub tag : Tag
  pub sets : List Written
  pub at : Place
  pub bare : base_reference mpd ≡ None
  pub named : AreNamed (codes "AdaptationSet") sets

abbrev pub period_in : Around → Element
period_in r = read_at r.at (r.tag, in_order r.sets)

-- the track at a place has one list or template that can be read, which tells its segments
pub record Has (form : Form) (lists : ℕ → List Written) (told : ℕ → Option Segments) (place : ℕ) : Type 0 where
  pub ticks : ℕ
  pub offset : Option ℕ
  pub first : ℕ
  pub initialization : Part
  pub durations : List ℕ
  pub parts : List Part
  pub is : lists place ≡ segments_with form ticks offset first initialization durations parts ∷ []
  pub readable : AreReadableTimes ticks offset first initialization durations parts
  pub tells : told place ≡ Some (segments_told form ticks (unwrap_or offset 0) first initialization durations parts)

-- so have tracks from a place on
abbrev pub HasAll : Form → (lists : ℕ → List Written) → (told : ℕ → Option Segments) → (place count : ℕ) → Type 0
HasAll form lists told place count = (i : ℕ) → place ≤ i → i < place + count → Has form lists told i

abbrev tag_at : ℕ → Track → Tag
tag_at k track = tag_of (codes "Representation") (representation_attributes k track)

-- it says no media type
no_type : (here : Place) (lists : ℕ → List Written) (k : ℕ) (track : Track)
    → type_of (read_at here (track_element lists k track)).head ≡ None
no_type here lists k track = value_read (codes "mimeType") (representation_attributes k track) (past here (codes "<"
    ++ codes "Representation"))

-- all have the name of a list or of a template
abbrev AreSegments : List Written → Type 0
AreSegments xs = AreNamed (codes "SegmentList") xs ⊎ AreNamed (codes "SegmentTemplate") xs

players_named : (found : Option Pattern) (ticks : ℕ) (offset : Option ℕ) (first : ℕ) (part : Part) (ds : List ℕ) (parts : List Part)
    → AreSegments (players_by found ticks offset first part ds parts ∷ [])
players_named None ticks offset first part ds parts = inl refl
players_named (Some p) ticks offset first part ds parts = inr refl

form_named : (form : Form) (ticks : ℕ) (offset : Option ℕ) (first : ℕ) (part : Part) (ds : List ℕ) (parts : List Part)
    → AreSegments (segments_with form ticks offset first part ds parts ∷ [])
form_named Plain ticks offset first part ds parts = inl refl
form_named Players ticks offset first part ds parts = players_named (pattern_in part parts) ticks offset first part ds parts

lists_named : (form : Form) (lists : ℕ → List Written) (told : ℕ → Option Segments) (k : ℕ) → Has form lists told k
    → AreSegments (lists k)
lists_named form lists told k has = subst AreSegments (sym has.is)
    (form_named form has.ticks has.offset has.first has.initialization has.durations has.parts)

-- none of them is a BaseURL or an EssentialProperty
no_own_base : (here : Place) (tag : Tag) (xs : List Written) → AreSegments xs → base_reference (read_at here (tag, in_order xs)) ≡ None
no_own_base here tag xs named = ⊎_elim
    (λ list. no_base (codes "SegmentList") refl here tag xs list) (λ template. no_base (codes "SegmentTemplate") refl here tag xs template)
    named

no_property : (here : Place) (xs : List Written) → AreSegments xs → has_child (codes "EssentialProperty") (placed here (in_order xs))
    ≡ false
no_property here xs named = ⊎_elim
    (λ list. has_none (codes "SegmentList") (codes "EssentialProperty") refl here xs list)
    (λ template. has_none (codes "SegmentTemplate") (codes "EssentialProperty") refl here xs template) named

one_shown : (form : Form) (r : Around) (k place : ℕ) (track : Track) (kind : Kind) (language : Option (List ℕ)) (set : Tag)
    (reps : List Written)
    (a b : Place)
    → Has form r.lists r.told k → AreNamed (codes "Representation") reps → OfSet (read_at b (set, in_order reps)) kind language
    → shown_row (track_of segments_of
    (path_in r.mpd (period_in r) (read_at b (set, in_order reps)) place (read_at a (track_element r.lists k track))))
    ≡ record { kind = kind; language = language; bases = []; segments = r.told k }
one_shown form r k place track kind language set reps a b has named of_set =
    let path : Path = path_in r.mpd (period_in r) (read_at b (set, in_order reps)) place (read_at a (track_element r.lists k track)) in
    let bare : IsBare path = record {
      mpd = r.bare;
      period = no_base (codes "AdaptationSet") refl r.at r.tag r.sets r.named;
      set = no_base (codes "Representation") refl b set reps named;
      representation = no_own_base a (tag_at k track) (r.lists k) (lists_named form r.lists r.told k has);
      type = no_type a r.lists k track;
    } in
    let told = segments_told form has.ticks (unwrap_or has.offset 0) has.first has.initialization has.durations has.parts in
    let segments : segments_of (levels_of path) ≡ Some told =
    subst (λ l. segments_of (read_at a (tag_at k track, in_order l) ∷ read_at b (set, in_order reps) ∷ period_in r ∷ [])
    ≡ Some told) (sym has.is)
    (timed_lists form has.ticks has.offset has.first has.initialization has.durations has.parts
    (tag_at k track) set r.tag reps r.sets a b r.at
    has.readable named r.named) in
    row_shown path kind language told of_set bare segments
    ∙ ap (λ t. record { kind = kind; language = language; bases = []; segments = t }) (sym has.tells)

-- ---- Representations in order

pub not_left : (form : Form) (lists : ℕ → List Written) (told : ℕ → Option Segments) (k : ℕ) (track : Track) (kind : Kind)
    (type : Option (List ℕ))
    (here : Place)
    → Has form lists told k → type ≡ Some (mime_type kind) → is_representation_left_out type (read_at here (track_element lists k track))
    ≡ false
unfolding is_representation_left_out
not_left form lists told k track kind type here has is =
    rw (
      no_property (past here (opening (tag_at k track) ++ codes ">")) (lists k) (lists_named form lists told k has),
      no_type here lists k track,
      is,
      kind_read kind,
    ) refl

pub representations_named : (lists : ℕ → List Written) (k : ℕ) (tracks : List Track)
    → AreNamed (codes "Representation") (track_elements lists k tracks)
representations_named lists k [] = refl
representations_named lists k (track ∷ tracks) = representations_named lists (k + 1) tracks

-- tracks of one kind in one language
abbrev pub AreOf : Kind → Option (List ℕ) → List Track → Type 0
AreOf kind language tracks = AllByRecursion (λ (track : Track). (track.kind ≡ kind) × (track.language ≡ language)) tracks

pub representations_shown : (form : Form) (r : Around) (k place : ℕ) (tracks : List Track) (kind : Kind) (language : Option (List ℕ))
    (set : Tag)
    (reps : List Written)
    (here b : Place)
    → HasAll form r.lists r.told k (length tracks) → AreNamed (codes "Representation") reps
    → OfSet (read_at b (set, in_order reps)) kind language
    → AreOf kind language tracks
    → map shown_row (map (track_of segments_of) (map (path_in r.mpd (period_in r) (read_at b (set, in_order reps)) place)
    (filter (is_kept listed.Representation (codes "Representation") (read_at b (set, in_order reps)).head)
    (side_by_side (placed here (in_order (track_elements r.lists k tracks)))))))
    ≡ shown_tracks r.told k tracks
representations_shown form r k place [] kind language set reps here b has named of_set alike = refl
representations_shown form r k place (track ∷ tracks) kind language set reps here b has named of_set alike =
    let first : Has form r.lists r.told k = has k (omega arith) (omega arith) in
    let later : HasAll form r.lists r.told (k + 1) (length tracks) = λ i from below. has i (omega (arith, from)) (omega (arith, below)) in
    let from = past here (codes "\n") in
    rw (not_left form r.lists r.told k track kind (type_of (read_at b (set, in_order reps)).head) from first of_set.type)
    (ap₂ (λ one more. one ∷ more)
    (one_shown form r k place track kind language set reps from b first named of_set
    ∙ ap₂ (λ x y. record { kind = x; language = y; bases = []; segments = r.told k }) (sym alike.0.0) (sym alike.0.1))
    (representations_shown form r (k + 1) place tracks kind language set reps (behind here
    (track_element r.lists k track)) b later named of_set alike.1))
