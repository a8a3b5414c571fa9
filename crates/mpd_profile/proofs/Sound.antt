-- Where no value is refused.
use Rattle.std.proofs.Common.{◌≡◌, ℕ, ◌||◌, not, Bool, true, false, List, [], ◌∷◌, ◌++◌, Option, Some, Ok, refl, sym, ◌∙◌, ap, bytes_eq}
use Rattle.std.proofs.{Common.subst, lemmas.List.Concat.flat_map-append, lemmas.List.Elements.{All-cons, All-contains, All-nil}}
use Rattle.std.specs.{Prelude.{flat_map, if◌then◌else◌, option_map}, List.{All, Contains, list_any}}
use Rattle.bridge_io.proofs.Texts.{same_bytes}
use Rattle.bridge_io.specs.Firsts.{first_fault}
use Rattle.mpd_tree.specs.{Trees.{Attribute, Head, Forest, nothing, element, Element}, Views.{attribute_named, side_by_side}}
use Rattle.mpd_profile.specs.{declared.fault.RuleFault.RuleFault, declared.fault.RuleFault.TheVariants.{Missing, Value}}
use Rattle.mpd_profile.specs.{declared.listed.Listed.Listed, declared.listed.Listed.TheVariants.Mpd, declared.listed.Addressing.Addressing}
use Rattle.mpd_profile.specs.{declared.value.Value.Value as Kind, Elements.{child_of, value_of}, Heads.{is_dynamic, value_named}}
use Rattle.mpd_profile.specs.LeftOut.{is_left_out}
use Rattle.mpd_profile.specs.Refusals.{attribute_told, feature_refusals, has_no_type, is_other, is_other_value, is_repeated_id, lacks}
use Rattle.mpd_profile.specs.Refusals.{refusals_of, required_of, root_refusals, value_refusals, values_at}
use Rattle.mpd_profile.specs.{Sound.{AreSoundChildren, IsSound, IsSoundAs, IsSoundChild, parent_of}, Values.is_value}
use Rattle.mpd_profile.specs.Visits.{Parent, Visit, inside, parent_in, root_parent, root_visit, visits_in}

none_before : {X : Type 0} (xs ys : List X) → xs ++ ys ≡ [] → xs ≡ []
none_before [] ys none = refl
none_before (x ∷ xs) ys none = absurd (cc)

none_behind : {X : Type 0} (xs ys : List X) → xs ++ ys ≡ [] → ys ≡ []
none_behind [] ys none = none
none_behind (x ∷ xs) ys none = absurd (cc)

-- one refusal that isn't told
untold : {X : Type 0} (b : Bool) (x : X) → (if b then x ∷ [] else []) ≡ [] → b ≡ false
untold true x none = absurd (cc)
untold false x none = refl

pub neither : (a b : Bool) → (a || b) ≡ false → (a ≡ false) × (b ≡ false)
neither true b some = absurd (cc)
neither false b none = (refl, none)

not_no : (b : Bool) → not b ≡ false → b ≡ true
not_no true none = refl
not_no false none = absurd (cc)

by_bool : {A : Type 0} (b : Bool) → (b ≡ true → A) → (b ≡ false → A) → A
by_bool true at_true at_false = at_true refl
by_bool false at_true at_false = at_false refl

-- ---- an element itself

module _ (addressing : Addressing) (visit : Visit) (listed : Listed) where
  abbrev NoneTold : List Attribute → Type 0
  NoneTold attributes = flat_map (attribute_told addressing visit listed) attributes ≡ []

  one_sound : (a : Attribute) (attributes : List Attribute) (name text : List ℕ) (value : Kind) → NoneTold (a ∷ attributes)
      → value_of addressing listed name ≡ Some value
      → (NoneTold attributes → option_map (λ (b : Attribute). b.value) (attribute_named name attributes) ≡ Some text
      → is_value value text ≡ true)
      → option_map (λ (b : Attribute). b.value) (attribute_named name (a ∷ attributes)) ≡ Some text → is_value value text ≡ true
  one_sound a attributes name text value none is rest there = by_bool (bytes_eq a.name name) here behind
    where
      here : bytes_eq a.name name ≡ true → is_value value text ≡ true
      here same =
          let named : a.name ≡ name = same_bytes a.name name same in
          let found : Some a.value ≡ Some text = rw same at there in
          let told = untold (is_other_value addressing listed a || is_repeated_id visit listed a) (Value a.place)
          (none_before (attribute_told addressing visit listed a)
          (flat_map (attribute_told addressing visit listed) attributes) none) in
          let fits = (neither (is_other_value addressing listed a) (is_repeated_id visit listed a) told).0 in
          let valued : value_of addressing listed a.name ≡ Some value = ap (value_of addressing listed) named ∙ is in
          let text_is : a.value ≡ text = cc in
          not_no (is_value value text) (sym (ap (λ v. is_other v text) valued)
          ∙ sym (ap (λ t. is_other (value_of addressing listed a.name) t) text_is) ∙ fits)

      behind : bytes_eq a.name name ≡ false → is_value value text ≡ true
      behind other = rest (none_behind (attribute_told addressing visit listed a)
          (flat_map (attribute_told addressing visit listed) attributes) none) (rw other at there)

  values_sound : (attributes : List Attribute) (name text : List ℕ) (value : Kind) → NoneTold attributes
      → value_of addressing listed name ≡ Some value
      → option_map (λ (a : Attribute). a.value) (attribute_named name attributes) ≡ Some text → is_value value text ≡ true
  values_sound [] name text value none is there = absurd (cc)
  values_sound (a ∷ attributes) name text value none is there =
      one_sound a attributes name text value none is (λ untold found. values_sound attributes name text value untold is found) there

-- what is known of an element of which nothing is told
record IsUntold (addressing : Addressing) (visit : Visit) (listed : Listed) : Type 0 where
  values : (name text : List ℕ) (value : Kind) → value_of addressing listed name ≡ Some value → value_named name visit.head ≡ Some text
      → is_value value text ≡ true
  required : list_any (lacks visit.head) (required_of (Some listed) visit.dynamic) ≡ false
  typed : has_no_type (Some listed) visit.parent visit.head ≡ false

untold_of : (addressing : Addressing) (visit : Visit) (listed : Listed) → visit.listed ≡ Some listed → values_at addressing visit ≡ []
    → IsUntold addressing visit listed
untold_of addressing visit listed is none =
    let lacking = list_any (lacks visit.head) (required_of (Some listed) visit.dynamic) || has_no_type
    (Some listed) visit.parent visit.head in
    let told : (if lacking then Missing visit.head.place ∷ [] else []) ++ flat_map
    (attribute_told addressing visit listed) visit.head.attributes ≡ [] = rw is at none in
    let whole = neither (list_any (lacks visit.head) (required_of (Some listed) visit.dynamic))
    (has_no_type (Some listed) visit.parent visit.head)
    (untold lacking (Missing visit.head.place) (none_before (if lacking then Missing visit.head.place ∷ [] else [])
    (flat_map (attribute_told addressing visit listed) visit.head.attributes) told)) in
    record {
      values = λ name text value named there. values_sound addressing visit listed visit.head.attributes name text value
          (none_behind (if lacking then Missing visit.head.place ∷ [] else [])
          (flat_map (attribute_told addressing visit listed) visit.head.attributes) told) named there;
      required = whole.0;
      typed = whole.1;
    }

-- ---- what stands in it

module _ (addressing : Addressing) (parent : Parent) where
  -- the visits to one element that is read as `o`, and to what stands in it
  abbrev visits_as : List Head → Element → Option Listed → List Visit
  visits_as before e o =
      record { parent = Some parent; before = before; listed = o; head = e.head; dynamic = parent.dynamic }
      ∷ inside o (λ listed. visits_in addressing (parent_in parent listed e.head) [] e.children)

  unless : (b : Bool) (visits : List Visit) → flat_map (values_at addressing) (if b then [] else visits) ≡ [] → b ≡ false
      → flat_map (values_at addressing) visits ≡ []
  unless true visits none kept = absurd (cc)
  unless false visits none kept = none

  child_sound : (before : List Head) (e : Element) (o : Option Listed)
      → flat_map (values_at addressing) (if is_left_out parent.head o e then [] else visits_as before e o) ≡ []
      → (l : Listed) → o ≡ Some l → is_left_out parent.head (Some l) e ≡ false → IsSoundAs addressing parent l e
  child_sound before e o none l is kept =
      let here = unless (is_left_out parent.head (Some l) e) (visits_as before e (Some l))
      (subst (λ o. flat_map (values_at addressing) (if is_left_out parent.head o e then [] else visits_as before e o) ≡ []) is none) kept in
      let visit : Visit = record { parent = Some parent; before = before; listed = Some l; head = e.head; dynamic = parent.dynamic } in
      let rest = flat_map (values_at addressing) (visits_in addressing (parent_in parent l e.head) [] e.children) in
      let known = untold_of addressing visit l refl (none_before (values_at addressing visit) rest here) in
      record {
        sound = record { values = known.values; required = known.required; inside = none_behind (values_at addressing visit) rest here };
        typed = known.typed;
      }

  children_sound : (before : List Head) (children : Forest) → flat_map (values_at addressing) (visits_in addressing parent before children)
      ≡ [] → All (IsSoundChild addressing parent) (side_by_side children)
  unfolding visits_in
  children_sound before nothing none = All-nil (IsSoundChild addressing parent)
  children_sound before (element head children others) none =
      let e : Element = record { head = head; children = children } in
      let o = child_of addressing parent.listed head.name in
      let first = if is_left_out parent.head o e then [] else visits_as before e o in
      let rest = visits_in addressing parent (before ++ head ∷ []) others in
      let both = sym (flat_map-append (values_at addressing) first rest) ∙ none in
      All-cons (IsSoundChild addressing parent) e (side_by_side others)
      (child_sound before e o (none_before (flat_map (values_at addressing) first) (flat_map (values_at addressing) rest) both))
      (children_sound (before ++ head ∷ []) others (none_behind (flat_map (values_at addressing) first)
      (flat_map (values_at addressing) rest) both))

-- each element directly in a sound one is sound, as far as it is read and isn't left out
pub sound_children : (addressing : Addressing) (dynamic : Bool) (listed : Listed) (e : Element) → IsSound addressing dynamic listed e
    → AreSoundChildren addressing dynamic listed e
sound_children addressing dynamic listed e sound = children_sound addressing (parent_of listed dynamic e) [] e.children sound.inside

-- one of them
pub sound_child : (addressing : Addressing) (dynamic : Bool) (listed l : Listed) (e c : Element) → IsSound addressing dynamic listed e
    → Contains (side_by_side e.children) c
    → child_of addressing listed c.head.name ≡ Some l → is_left_out e.head (Some l) c ≡ false → IsSound addressing dynamic l c
sound_child addressing dynamic listed l e c sound there is kept =
    let all = sound_children addressing dynamic listed e sound in
    let here : IsSoundAs addressing (parent_of listed dynamic e) l c = All-contains (IsSoundChild addressing (parent_of listed dynamic e))
    (side_by_side e.children) c all there l is kept in
    here.sound

-- ---- an MPD

pub sound_root : (addressing : Addressing) (root : Element) → value_refusals addressing root ≡ []
    → IsSound addressing (is_dynamic root.head) Mpd root
unfolding value_refusals
sound_root addressing root none =
    let rest = flat_map (values_at addressing) (visits_in addressing (root_parent root.head) [] root.children) in
    let known = untold_of addressing (root_visit root.head) Mpd refl
    (none_before (values_at addressing (root_visit root.head)) rest none) in
    record {
      values = known.values;
      required = known.required;
      inside = none_behind (values_at addressing (root_visit root.head)) rest none;
    }

none_first : (faults : List RuleFault) → first_fault faults ≡ Ok tt → faults ≡ []
none_first [] none = refl
none_first (fault ∷ faults) none = absurd (cc)

-- an MPD in which nothing is refused
pub sound_checked : (addressing : Addressing) (root : Element) → first_fault (refusals_of addressing root) ≡ Ok tt
    → IsSound addressing (is_dynamic root.head) Mpd root
unfolding refusals_of
sound_checked addressing root none =
    sound_root addressing root (none_behind (root_refusals root ++ feature_refusals root) (value_refusals addressing root)
    (none_first (root_refusals root ++ feature_refusals root ++ value_refusals addressing root) none))
