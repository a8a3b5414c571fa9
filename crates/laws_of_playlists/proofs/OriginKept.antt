-- What is kept in an MPD of which nothing is refused.
use Rattle.mpd_rules.specs.Rules as rules
use Rattle.std.proofs.Common.{◌≡◌, ℕ, suc, ◌+◌, ◌&&◌, not, Bool, true, false, List, [], ◌∷◌, ◌++◌, All, map, flat_map, slice_get, Option}
use Rattle.std.proofs.{Common.{Some, Ok, refl, sym, ◌∙◌, ap, subst, inl, inr, arith}, lemmas.Bool.cases_Bool}
use Rattle.std.proofs.lemmas.List.Concat.{flat_map-append}
use Rattle.std.proofs.lemmas.List.Elements.{All-append, All-cons, All-head, All-map, All-nil, All-tail}
use Rattle.std.specs.Prelude.{codes, filter, if◌then◌else◌}
use Rattle.bridge_io.proofs.Texts.{same_bytes}
use Rattle.bridge_io.specs.declared.place.Place.{Place}
use Rattle.mpd_tree.specs.{Trees.{Head, Forest, nothing, element, Element}, Views.side_by_side}
use Rattle.mpd_profile.specs.{declared.fault.RuleFault.RuleFault, declared.listed.Addressing.Addressing}
use Rattle.mpd_profile.specs.{declared.listed.Addressing.TheVariants.{Index, Segments as OneByOne}, declared.listed.Listed.Listed}
use Rattle.mpd_profile.specs.{declared.listed.Listed.TheVariants.{Mpd, Period, AdaptationSet, Representation}, Elements.child_of}
use Rattle.mpd_profile.specs.{Features.features_at, Heads.{is_dynamic, is_named}, LeftOut.is_left_out}
use Rattle.mpd_profile.specs.Refusals.{feature_refusals, refusals_of, root_refusals, value_refusals}
use Rattle.mpd_profile.specs.Sound.{IsSound, IsSoundAs, IsSoundChild, parent_of}
use Rattle.mpd_profile.specs.Visits.{Parent, Visit, inside, parent_in, root_parent, root_visit, visits_in}
use Rattle.mpd_profile.proofs.Sound.{sound_children, sound_root}
use Rattle.mpd_levels.specs.{declared.indexed.IndexRow.IndexRow, Indexed.index_of, Segments.{Segments, segments_of}}
use Rattle.mpd_rules.specs.Kept.{Path, is_kept, kept_children, path_in, paths_in, paths_of, periods_of, representations_of, sets_of}
use Rattle.mpd_rules.specs.Periods.{period_refusals}
use Rattle.mpd_rules.specs.Rules.{all_index_refusals, all_refusals, dash_values, index_refused, index_values, indexed_mpd_of}
use Rattle.mpd_rules.specs.Rules.{refusals_behind, segments_refused, silence_in, typed_mpd_of, unless_refused}
use Rattle.mpd_rules.specs.Typed.{TypedMpd, values_with}
use Rattle.mpd_rules.proofs.Refusing.{none_told}
use Rattle.presentation.proofs.Reached.{none_first, none_later}

-- ---- no feature is refused in what is kept

module _ (parent : Parent) where
  abbrev visit_as : List Head → Element → Option Listed → Visit
  visit_as before c o = record { parent = Some parent; before = before; listed = o; head = c.head; dynamic = parent.dynamic }

  -- in an element that is read as `l`, and in what stands in it
  pub record IsPlain (l : Listed) (c : Element) : Type 0 where
    pub before : List Head
    pub here : features_at (visit_as before c (Some l)) ≡ []
    pub below : flat_map features_at (visits_in OneByOne (parent_in parent l c.head) [] c.children) ≡ []

  abbrev IsPlainChild : Element → Type 0
  IsPlainChild c = (l : Listed) → child_of OneByOne parent.listed c.head.name ≡ Some l → is_left_out parent.head (Some l) c ≡ false
      → IsPlain l c

  abbrev visits_as : List Head → Element → Option Listed → List Visit
  visits_as before c o = visit_as before c o ∷ inside o (λ l. visits_in OneByOne (parent_in parent l c.head) [] c.children)

  unless : (b : Bool) (visits : List Visit) → flat_map features_at (if b then [] else visits) ≡ [] → b ≡ false
      → flat_map features_at visits ≡ []
  unless true visits none kept = absurd (cc)
  unless false visits none kept = none

  child_plain : (before : List Head) (c : Element) (o : Option Listed)
      → flat_map features_at (if is_left_out parent.head o c then [] else visits_as before c o) ≡ []
      → (l : Listed) → o ≡ Some l → is_left_out parent.head (Some l) c ≡ false → IsPlain l c
  child_plain before c o none l is kept =
      let here = unless (is_left_out parent.head (Some l) c) (visits_as before c (Some l))
      (subst (λ o. flat_map features_at (if is_left_out parent.head o c then [] else visits_as before c o) ≡ []) is none) kept in
      let rest = flat_map features_at (visits_in OneByOne (parent_in parent l c.head) [] c.children) in
      record {
        before = before;
        here = none_first (features_at (visit_as before c (Some l))) rest here;
        below = none_later (features_at (visit_as before c (Some l))) rest here;
      }

  children_plain : (before : List Head) (children : Forest) → flat_map features_at (visits_in OneByOne parent before children) ≡ []
      → All IsPlainChild (side_by_side children)
  unfolding visits_in
  children_plain before nothing none = All-nil IsPlainChild
  children_plain before (element head children others) none =
      let c : Element = record { head = head; children = children } in
      let o = child_of OneByOne parent.listed head.name in
      let first = if is_left_out parent.head o c then [] else visits_as before c o in
      let rest = visits_in OneByOne parent (before ++ head ∷ []) others in
      let both = sym (flat_map-append features_at first rest) ∙ none in
      All-cons IsPlainChild c (side_by_side others)
      (child_plain before c o (none_first (flat_map features_at first) (flat_map features_at rest) both))
      (children_plain (before ++ head ∷ []) others (none_later (flat_map features_at first) (flat_map features_at rest) both))

  -- nothing is refused of a child, which is kept
  pub record IsFine (addressing : Addressing) (l : Listed) (c : Element) : Type 0 where
    pub kept : is_left_out parent.head (Some l) c ≡ false
    pub sound : IsSoundAs addressing parent l c
    pub plain : IsPlain l c

  both : (a b : Bool) → (a && not b) ≡ true → (a ≡ true) × (b ≡ false)
  both true true is = absurd (cc is)
  both true false is = (refl, refl)
  both false b is = absurd (cc is)

  module _ (addressing : Addressing) (l : Listed) (name : List ℕ) (plain_is : child_of OneByOne parent.listed name ≡ Some l)
      (is : child_of addressing parent.listed name ≡ Some l) where
    abbrev IsRead : Element → Type 0
    IsRead c = IsSoundChild addressing parent c × IsPlainChild c

    one_fine : (c : Element) → IsRead c → is_kept l name parent.head c ≡ true → IsFine addressing l c
    one_fine c read kept =
        let parts = both (is_named name c) (is_left_out parent.head (Some l) c) kept in
        let same : c.head.name ≡ name = same_bytes c.head.name name parts.0 in
        record {
          kept = parts.1;
          sound = read.0 l (ap (child_of addressing parent.listed) same ∙ is) parts.1;
          plain = read.1 l
              (ap (child_of OneByOne parent.listed) same ∙ plain_is) parts.1;
        }

    pub all_fine : (cs : List Element) → All IsRead cs → All (IsFine addressing l) (filter (is_kept l name parent.head) cs)
    all_fine [] all = All-nil (IsFine addressing l)
    all_fine (c ∷ cs) all = elim (cases_Bool (is_kept l name parent.head c)) [
      | inl kept ↦ rw kept (All-cons (IsFine addressing l) c (filter (is_kept l name parent.head) cs)
          (one_fine c (All-head IsRead c cs all) kept) (all_fine cs (All-tail IsRead c cs all)))
      | inr other ↦ rw other (all_fine cs (All-tail IsRead c cs all))
    ]

pub children_fine : (addressing : Addressing) (dynamic : Bool) (listed l : Listed) (name : List ℕ) (e : Element)
    → child_of OneByOne listed name ≡ Some l → child_of addressing listed name ≡ Some l
    → IsSound addressing dynamic listed e → flat_map features_at (visits_in OneByOne (parent_of listed dynamic e) [] e.children) ≡ []
    → All (IsFine (parent_of listed dynamic e) addressing l) (kept_children l name e)
children_fine addressing dynamic listed l name e plain_is is sound plain =
    let parent = parent_of listed dynamic e in
    let all = sound_children addressing dynamic listed e sound in
    let features = children_plain parent [] e.children plain in
    all_fine parent addressing l name plain_is is (side_by_side e.children) (λ k d within. (all k d within, features k d within))

-- ---- Representations where they stand

-- what holds at each set holds at each Representation of a Period
pub paths_hold : (P : Path → Type 0) (mpd period : Element) (place : ℕ) (sets : List Element)
    → All (λ set. (k : ℕ) → All (λ e. P (path_in mpd period set k e)) (representations_of set)) sets
    → All P (paths_in mpd period place sets)
paths_hold P mpd period place [] all = All-nil P
paths_hold P mpd period place (set ∷ sets) all =
    let Here = λ (set : Element). (k : ℕ) → All (λ e. P (path_in mpd period set k e)) (representations_of set) in
    All-append P (map (path_in mpd period set place) (representations_of set)) (paths_in mpd period (place + 1) sets)
    (All-map P (path_in mpd period set place) (representations_of set) (All-head Here set sets all place))
    (paths_hold P mpd period (place + 1) sets (All-tail Here set sets all))

-- its set is the one at its place
pub record IsPlaced (sets : List Element) (place : ℕ) (path : Path) : Type 0 where
  pub behind : ℕ
  pub place_is : path.place ≡ place + behind
  pub set_is : slice_get sets behind ≡ Some path.set

one_behind : (set : Element) (sets : List Element) (place : ℕ) (path : Path) → IsPlaced sets (place + 1) path
    → IsPlaced (set ∷ sets) place path
one_behind set sets place path is = record { behind = suc is.behind; place_is = omega (arith, is.place_is); set_is = is.set_is }

pub paths_placed : (mpd period : Element) (place : ℕ) (sets : List Element) → All (IsPlaced sets place) (paths_in mpd period place sets)
paths_placed mpd period place [] = All-nil (IsPlaced [] place)
paths_placed mpd period place (set ∷ sets) =
    All-append (IsPlaced (set ∷ sets) place) (map (path_in mpd period set place) (representations_of set))
    (paths_in mpd period (place + 1) sets)
    (All-map (IsPlaced (set ∷ sets) place) (path_in mpd period set place) (representations_of set)
    (λ k d within. record { behind = 0; place_is = omega arith; set_is = refl }))
    (λ k d within. one_behind set sets place _ (paths_placed mpd period (place + 1) sets k d within))

-- nothing is refused of its set and of itself
pub record IsFinePath (addressing : Addressing) (dynamic : Bool) (path : Path) : Type 0 where
  pub set : IsFine (parent_of Period dynamic path.period) addressing AdaptationSet path.set
  pub representation : IsFine (parent_of AdaptationSet dynamic path.set) addressing Representation path.representation

module _ (addressing : Addressing) (dynamic : Bool) (mpd : Element) where
  abbrev IsFineHere : Path → Type 0
  IsFineHere path = IsFinePath addressing dynamic path

  set_fine : (period set : Element) → IsFine (parent_of Period dynamic period) addressing AdaptationSet set → (k : ℕ)
      → All (λ e. IsFineHere (path_in mpd period set k e)) (representations_of set)
  set_fine period set fine k =
      let all = children_fine addressing dynamic AdaptationSet Representation
      (codes "Representation") set refl refl fine.sound.sound fine.plain.below in
      λ j d within. record { set = fine; representation = all j d within }

  period_fine : (period : Element) → IsFine (parent_of Mpd dynamic mpd) addressing Period period → All IsFineHere (paths_of mpd period)
  period_fine period fine =
      let all = children_fine addressing dynamic Period AdaptationSet
      (codes "AdaptationSet") period refl refl fine.sound.sound fine.plain.below in
      paths_hold IsFineHere mpd period 0 (sets_of period) (λ k d within. set_fine period _ (all k d within))

  pub paths_fine : IsSound addressing dynamic Mpd mpd → flat_map features_at
      (visits_in OneByOne (parent_of Mpd dynamic mpd) [] mpd.children) ≡ []
      → All (λ period. All IsFineHere (paths_of mpd period)) (periods_of mpd)
  paths_fine sound plain =
      let all = children_fine addressing dynamic Mpd Period (codes "Period") mpd refl refl sound plain in
      λ k d within. period_fine _ (all k d within)

-- ---- an MPD of which nothing is refused

module _ {X : Type 0} (addressing : Addressing) (told : List Element → X) where
  pub record IsClean (tree : Element) (mpd : TypedMpd X) : Type 0 where
    pub values : mpd ≡ values_with told tree
    pub paths : All (λ period. All (IsFinePath addressing (is_dynamic tree.head)) (paths_of tree period)) (periods_of tree)
    pub playing : silence_in tree.head.place mpd.periods ≡ []

no_values : (addressing : Addressing) (tree : Element) → refusals_of addressing tree ≡ [] → value_refusals addressing tree ≡ []
unfolding refusals_of
no_values addressing tree none = none_later (root_refusals tree ++ feature_refusals tree) (value_refusals addressing tree) none

no_features : (addressing : Addressing) (tree : Element) → refusals_of addressing tree ≡ []
    → flat_map features_at (visits_in OneByOne (root_parent tree.head) [] tree.children) ≡ []
unfolding refusals_of feature_refusals
no_features addressing tree none =
    let features = none_later (root_refusals tree) (feature_refusals tree)
    (none_first (root_refusals tree ++ feature_refusals tree) (value_refusals addressing tree) none) in
    none_later (features_at (root_visit tree.head)) (flat_map features_at (visits_in OneByOne (root_parent tree.head) [] tree.children))
    features

-- of which Representations are refused so, and told so
module _ {X : Type 0} (addressing : Addressing) (many : Bool) (refused : Place → Option X → List RuleFault) (told : List Element → Option X)
    (tree : Element) (mpd : TypedMpd (Option X)) where
  abbrev behind : List RuleFault
  behind = refusals_behind many refused told tree

  abbrev paths : List RuleFault
  paths = rules.paths_told many (rules.refused_at refused told) tree 0 (periods_of tree)

  pub record AreUntold : Type 0 where
    pub values : mpd ≡ values_with told tree
    pub profile : refusals_of addressing tree ≡ []
    pub representations : paths ≡ []
    pub playing : silence_in tree.head.place (values_with told tree).periods ≡ []

  pub are_untold : unless_refused (refusals_of addressing tree ++ behind) (values_with told tree) ≡ Ok mpd → AreUntold
  are_untold is =
      let none = none_told (refusals_of addressing tree ++ behind) (values_with told tree) mpd (sym is) in
      let silent = silence_in tree.head.place (values_with told tree).periods in
      let first = none_later (refusals_of addressing tree) behind none.0 in
      let second = none_later (period_refusals tree) (rules.static_told many tree ++ (paths ++ silent)) first in
      let last = none_later (rules.static_told many tree) (paths ++ silent) second in
      record {
        values = none.1;
        profile = none_first (refusals_of addressing tree) behind none.0;
        representations = none_first paths silent last;
        playing = none_later paths silent last;
      }

  pub cleaned : AreUntold → IsClean addressing told tree mpd
  cleaned are = record {
    values = are.values;
    paths = paths_fine addressing (is_dynamic tree.head) tree (sound_root addressing tree (no_values addressing tree are.profile))
        (no_features addressing tree are.profile);
    playing = ap (λ (m : TypedMpd (Option X)). silence_in tree.head.place m.periods) are.values ∙ are.playing;
  }

pub clean : (tree : Element) (mpd : TypedMpd (Option Segments)) → typed_mpd_of tree ≡ Ok mpd → IsClean OneByOne segments_of tree mpd
unfolding typed_mpd_of all_refusals dash_values
clean tree mpd is = cleaned OneByOne true segments_refused segments_of tree mpd
    (are_untold OneByOne true segments_refused segments_of tree mpd is)

pub index_untold : (tree : Element) (mpd : TypedMpd (Option IndexRow)) → indexed_mpd_of tree ≡ Ok mpd
    → AreUntold Index false index_refused index_of tree mpd
unfolding indexed_mpd_of all_index_refusals index_values
index_untold tree mpd is = are_untold Index false index_refused index_of tree mpd is

pub clean_index : (tree : Element) (mpd : TypedMpd (Option IndexRow)) → indexed_mpd_of tree ≡ Ok mpd → IsClean Index index_of tree mpd
clean_index tree mpd is = cleaned Index false index_refused index_of tree mpd (index_untold tree mpd is)
