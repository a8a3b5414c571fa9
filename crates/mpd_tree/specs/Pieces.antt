-- What is inside an element.
use Rattle.std.specs.Prelude.{ℕ, Bool, true, false, List, []}
use Rattle.mpd_tree.specs.Trees.{Head, Forest, nothing, element}

-- what follows some character data; an element without its content
pub data Piece : Type 0 where
  ended : Piece
  comment : Piece
  empty : Head → Piece
  begun : Head → Piece

abbrev pub tag_piece : Bool → Head → Piece
tag_piece true head = empty head
tag_piece false head = begun head

-- what is inside an element: its children, and the character data directly inside it
pub record Inside : Type 0 where
  pub children : Forest
  pub text : List ℕ

abbrev pub nothing_inside : Inside
nothing_inside = record { children = nothing; text = [] }

-- sibling elements, and more after them
abbrev pub followed_by : Forest → Forest → Forest
followed_by nothing more = more
followed_by (element head children others) more = element head children (followed_by others more)

abbrev pub with_child : Forest → Head → Inside → Forest
with_child children head i = followed_by children (element (record head { text = i.text }) i.children nothing)
