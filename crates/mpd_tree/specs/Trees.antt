-- Elements as callers see them.
use Rattle.std.specs.Prelude.{ℕ, suc, max, List, map}
use Rattle.bridge_io.specs.declared.place.Place.{Place}

-- an attribute; its position is that of its name
pub record Attribute : Type 0 where
  pub name : List ℕ
  pub value : List ℕ
  pub place : Place

abbrev pub names_of : List Attribute → List (List ℕ)
names_of attributes = map (λ attribute. attribute.name) attributes

-- an element without its children; its position is that of its `<`, and its text the character data directly inside it
pub record Head : Type 0 where
  pub name : List ℕ
  pub place : Place
  pub attributes : List Attribute
  pub text : List ℕ

-- sibling elements from one of them on
pub data Forest : Type 0 where
  nothing : Forest
  -- an element, its children, and the siblings after it
  element : Head → Forest → Forest → Forest

pub record Element : Type 0 where
  pub head : Head
  pub children : Forest

-- the greatest nesting depth
abbrev pub depth : Forest → ℕ
depth nothing = 0
depth (element head children others) = max (suc (depth children)) (depth others)
