-- What holds of an element in which every value is valid.
use Rattle.std.specs.{Prelude.{◌≡◌, ℕ, Bool, true, false, List, [], flat_map, Some}, List.{All, list_any}}
use Rattle.mpd_tree.specs.{Trees.Element, Views.side_by_side}
use Rattle.mpd_profile.specs.{declared.listed.Listed.Listed, declared.listed.Addressing.Addressing, declared.value.Value.Value}
use Rattle.mpd_profile.specs.{Elements.{child_of, value_of}, Heads.value_named, LeftOut.is_left_out}
use Rattle.mpd_profile.specs.{Refusals.{has_no_type, lacks, required_of, values_at}, Values.is_value, Visits.{Parent, visits_in}}

-- an element as the parent of its children
abbrev pub parent_of : Listed → (dynamic : Bool) → Element → Parent
parent_of listed dynamic e = record { listed = listed; head = e.head; dynamic = dynamic }

-- An element of this kind has only valid values, in itself and in what is checked of its content.
pub record IsSound (addressing : Addressing) (dynamic : Bool) (listed : Listed) (e : Element) : Type 0 where
  pub values : (name text : List ℕ) (value : Value) → value_of addressing listed name ≡ Some value → value_named name e.head ≡ Some text
      → is_value value text ≡ true
  pub required : list_any (lacks e.head) (required_of (Some listed) dynamic) ≡ false
  pub inside : flat_map (values_at addressing) (visits_in addressing (parent_of listed dynamic e) [] e.children) ≡ []

-- A child of kind `l` that isn't dropped: it has only valid values, and a Representation has a media type, its own or its
-- AdaptationSet's.
pub record IsSoundAs (addressing : Addressing) (parent : Parent) (l : Listed) (c : Element) : Type 0 where
  pub sound : IsSound addressing parent.dynamic l c
  pub typed : has_no_type (Some l) (Some parent) c.head ≡ false

abbrev pub IsSoundChild : Addressing → Parent → Element → Type 0
IsSoundChild addressing parent c =
    (l : Listed) → child_of addressing parent.listed c.head.name ≡ Some l → is_left_out parent.head (Some l) c ≡ false
    → IsSoundAs addressing parent l c

-- each child of an element that is read and isn't dropped
abbrev pub AreSoundChildren : Addressing → Bool → Listed → Element → Type 0
AreSoundChildren addressing dynamic listed e = All (IsSoundChild addressing (parent_of listed dynamic e)) (side_by_side e.children)
