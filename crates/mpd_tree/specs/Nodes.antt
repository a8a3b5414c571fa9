-- Elements by the trees, nodes and iterators that hold them.
use Rattle.std.specs.{Prelude.{ℕ, suc, List, ◌++◌, map}, String.string_bytes}
use Rattle.mpd_tree.specs.{declared.node.Node.Node, declared.node.AttrWalk.AttrWalk, declared.node.NodeWalk.NodeWalk}
use Rattle.mpd_tree.specs.{declared.tree.Tree.Tree, declared.tree.Rows.Rows, declared.tree.ElementRow.ElementRow}
use Rattle.mpd_tree.specs.{declared.tree.AttributeRow.AttributeRow, Trees.{Attribute, Head, Element}, Forests.Shown}
use Rattle.mpd_tree.specs.Views.{attribute_of, element_at, forest_of, head_of, root_shown, rows_shown, side_by_side}

-- the root by the rows of a text, with all its content
abbrev pub root_in : List ℕ → Rows → Element
root_in source rows = root_shown source (string_bytes rows.read) rows.elements rows.attributes.items

-- the root of a tree, with all its content
abbrev pub root_of : Tree → Element
root_of tree = root_shown (string_bytes tree.source) (string_bytes tree.read) tree.elements tree.attributes.items

-- the element of a node
abbrev pub element_of : Node → Element
element_of node = element_at (root_of node.tree.now) node.index

-- the text that a tree stores
abbrev pub kept_of : Tree → List ℕ
kept_of tree = string_bytes tree.source ++ string_bytes tree.read

abbrev pub attribute_in : Tree → AttributeRow → Attribute
attribute_in tree row = attribute_of (string_bytes tree.source) (kept_of tree) row

abbrev pub head_in : Tree → ElementRow → Head
head_in tree row = head_of (string_bytes tree.source) (kept_of tree) tree.attributes.items row

abbrev pub shown_in : Tree → List Shown
shown_in tree = rows_shown (string_bytes tree.source) (string_bytes tree.read) tree.elements tree.attributes.items

-- the element of a row, with its content
abbrev pub element_of_row : Tree → ℕ → ElementRow → Element
element_of_row tree k row = record { head = head_in tree row; children = forest_of (shown_in tree) 0 (suc k) row.next }

-- the attributes that an iterator has left
abbrev pub attributes_left : AttrWalk → List Attribute
attributes_left walk = map (attribute_in walk.tree.now) walk.rest.now

-- the elements that an iterator has left
abbrev pub elements_left : NodeWalk → List Element
elements_left walk = side_by_side (forest_of (shown_in walk.tree.now) 0 walk.at walk.end)
