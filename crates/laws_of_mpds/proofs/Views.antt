-- What elements that are written say when they are read.
use Rattle.mpd_tree.specs.Trees as tree
use Rattle.std.proofs.Common.{◌≡◌, ℕ, Bool, true, false, List, [], ◌∷◌, ◌++◌, codes, find, bytes_eq, Option, Some, None, option_map}
use Rattle.std.proofs.{Common.{if◌then◌else◌, refl, ◌∙◌, ap}, lemmas.Bool.and_parts}
use Rattle.std.specs.List.{list_all}
use Rattle.bridge_io.proofs.Texts.{same_bytes}
use Rattle.bridge_io.specs.declared.place.Place.{Place}
use Rattle.mpd_tree.specs.{Views.side_by_side, Placed.{past, attributes_at, placed}}
use Rattle.mpd_tree.specs.Markup.{Tag, opening, enclosed, printed, attribute_text}
use Rattle.mpd_profile.specs.Heads.{is_named, or_else, has_child}
use Rattle.mpd_rules.specs.Readings.{base_reference}
use Rattle.dash_writer.specs.Elements.{Attribute, Element as Written, in_order, attributes_of}
use Rattle.laws_of_mpds.specs.Told.{AreNamed, is_named as named_so, read_at}

-- where the next element stands
abbrev pub behind : Place → Written → Place
behind here x = past here (codes "\n" ++ enclosed x.0 x.1 (printed x.1))

-- ---- attributes

abbrev pub value_in : List ℕ → List Attribute → Option (List ℕ)
value_in name [] = None
value_in name (a ∷ more) = if bytes_eq a.0 name then or_else a.1 (value_in name more) else value_in name more

pub nothing_above : {X : Type 0} (value : Option X) → or_else value None ≡ value
nothing_above None = refl
nothing_above (Some x) = refl

either_way : {X : Type 0} (b : Bool) (x : X) → x ≡ (if b then x else x)
either_way true x = refl
either_way false x = refl

abbrev value_at : List ℕ → List tree.Attribute → Option (List ℕ)
value_at name attributes = option_map (λ (a : tree.Attribute). a.value) (find (λ (a : tree.Attribute). bytes_eq a.name name) attributes)

-- an attribute before others that are read
one_more : (name n : List ℕ) (value : Option (List ℕ)) (more : List Attribute)
    → ((here : Place) → value_at name (attributes_at here (attributes_of more)) ≡ value_in name more)
    → (here : Place) → value_at name (attributes_at here (attributes_of ((n, value) ∷ more))) ≡ value_in name ((n, value) ∷ more)
one_more name n None more behind here = behind here ∙ either_way (bytes_eq n name) (value_in name more)
one_more name n (Some value) more behind here = by_name (bytes_eq n name) where
  by_name : (b : Bool) → option_map (λ (a : tree.Attribute). a.value) (if b then Some (record {
    name = n;
    value = value;
    place = past here (codes " ");
  })
      else find (λ (a : tree.Attribute). bytes_eq a.name name) (attributes_at (past here (attribute_text (n, value))) (attributes_of more)))
      ≡ (if b then or_else (Some value) (value_in name more) else value_in name more)
  by_name true = refl
  by_name false = behind (past here (attribute_text (n, value)))

pub value_read : (name : List ℕ) (attributes : List Attribute) (here : Place)
    → value_at name (attributes_at here (attributes_of attributes)) ≡ value_in name attributes
value_read name [] here = refl
value_read name (a ∷ more) here = one_more name a.0 a.1 more (value_read name more) here

-- ---- children

-- elements of one name have no child of another
pub none_named : (name other : List ℕ) → bytes_eq name other ≡ false → (here : Place) (xs : List Written) → AreNamed name xs
    → find (is_named other) (side_by_side (placed here (in_order xs))) ≡ None
none_named name other differ here [] all = refl
none_named name other differ here (x ∷ xs) all =
    let parts = and_parts (bytes_eq x.0.name name) (list_all (named_so name) xs) all in
    let not_this : bytes_eq x.0.name other ≡ false = ap (λ n. bytes_eq n other) (same_bytes x.0.name name parts.0) ∙ differ in
    rw not_this (none_named name other differ (behind here x) xs parts.1)

pub has_none : (name other : List ℕ) → bytes_eq name other ≡ false → (here : Place) (xs : List Written) → AreNamed name xs
    → has_child other (placed here (in_order xs)) ≡ false
has_none name other differ here [] all = refl
has_none name other differ here (x ∷ xs) all =
    let parts = and_parts (bytes_eq x.0.name name) (list_all (named_so name) xs) all in
    let not_this : bytes_eq x.0.name other ≡ false = ap (λ n. bytes_eq n other) (same_bytes x.0.name name parts.0) ∙ differ in
    rw not_this (has_none name other differ (behind here x) xs parts.1)

pub no_base : (name : List ℕ) → bytes_eq name (codes "BaseURL") ≡ false → (here : Place) (tag : Tag) (xs : List Written) → AreNamed name xs
    → base_reference (read_at here (tag, in_order xs)) ≡ None
no_base name differ here tag xs all = rw (none_named name (codes "BaseURL") differ (past here (opening tag ++ codes ">")) xs all) refl
