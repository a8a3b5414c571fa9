-- Written elements.
use Rattle.std.specs.Prelude.{ℕ, List, [], ◌∷◌, Option, Some, None}
use Rattle.mpd_tree.specs.Markup.{Tag, Markup, nothing, element}

-- an element with its content
abbrev pub Element : Type 0
Element = Tag × Markup

-- elements one after another
abbrev pub in_order : List Element → Markup
in_order [] = nothing
in_order (x ∷ xs) = element x.0 x.1 (in_order xs)

-- an attribute by name, and its value where it has one
abbrev pub Attribute : Type 0
Attribute = List ℕ × Option (List ℕ)

-- the attribute, where it has a value, before others
abbrev pub with_attribute : List ℕ → Option (List ℕ) → List (List ℕ × List ℕ) → List (List ℕ × List ℕ)
with_attribute name None others = others
with_attribute name (Some value) others = (name, value) ∷ others

-- those that have values
abbrev pub attributes_of : List Attribute → List (List ℕ × List ℕ)
attributes_of [] = []
attributes_of (x ∷ xs) = with_attribute x.0 x.1 (attributes_of xs)

abbrev pub tag_of : (name : List ℕ) → List Attribute → Tag
tag_of name attributes = record { name = name; attributes = attributes_of attributes }

-- an element without children
abbrev pub leaf : (name : List ℕ) → List Attribute → Element
leaf name attributes = (tag_of name attributes, nothing)

-- an element with children
abbrev pub node : (name : List ℕ) → List Attribute → List Element → Element
node name attributes children = (tag_of name attributes, in_order children)
