-- The tree of rows.
pub use Rattle.mpd_tree.specs.Heads.{attribute_of, bytes_of, head_of}
pub use Rattle.mpd_tree.specs.Roots.{first_of, forest_of, no_element, root_shown, rows_shown}
use Rattle.std.specs.{Prelude.{ℕ, List, [], ◌∷◌, ◌++◌, slice_index_or, Option, bytes_eq, find}, String.string_bytes}
use Rattle.bridge_io.specs.Places.{place_of}
use Rattle.mpd_tree.specs.{declared.attr.Attr.Attr, Trees.{Attribute, Forest, nothing, element, Element}}

-- sibling elements, without those inside them
abbrev pub side_by_side : Forest → List Element
side_by_side nothing = []
side_by_side (element head children others) = record { head = head; children = children } ∷ side_by_side others

-- all elements in document order
abbrev pub in_order : Forest → List Element
in_order nothing = []
in_order (element head children others) = record { head = head; children = children } ∷ in_order children ++ in_order others

-- the elements of a tree in document order
abbrev pub elements_of : Element → List Element
elements_of root = root ∷ in_order root.children

-- the attribute of that name
abbrev pub attribute_named : List ℕ → List Attribute → Option Attribute
attribute_named name attributes = find (λ attribute. bytes_eq attribute.name name) attributes

-- an attribute, by the values of its texts
abbrev pub attribute_shown : Attr → Attribute
attribute_shown attr = record { name = attr.name.now; value = attr.value.now; place = place_of (string_bytes attr.tree.now.source) attr.at }

-- the element at an index in document order
abbrev pub element_at : Element → ℕ → Element
element_at root index = slice_index_or (elements_of root) index no_element
