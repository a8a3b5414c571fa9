-- What printed elements are read as.
use Rattle.mpd_tree.specs.Trees as tree
use Rattle.std.specs.Prelude.{◌≡◌, ◌≤◌, ℕ, suc, ◌+◌, ◌==◌, max, nat_le, IsTrue, not, ⊤, List, [], ◌∷◌, ◌++◌, map, length, count_by, codes}
use Rattle.std.specs.{Prelude.Ok, List.list_all}
use Rattle.bridge_io.specs.{declared.place.Place.Place, Texts.is_among}
use Rattle.mpd_tree.specs.{Characters.is_name, Trees.{Attribute, Head, Forest, Element}, Grammar.IsClean, Meaning.reading_of}
use Rattle.mpd_tree.specs.Markup.{Tag, Markup, nothing, element, attribute_text, opening, enclosed, printed, declaration, document}

-- ---- positions, and names that differ

-- the file's first byte
abbrev pub first_place : Place
first_place = record { at = 0; line = 1 }

-- the position after some bytes
abbrev pub past : Place → List ℕ → Place
past place bytes = record { at = place.at + length bytes; line = place.line + count_by (λ b. b == 10) bytes }

abbrev pub AllDiffer : List (List ℕ) → Type 0
AllDiffer [] = ⊤
AllDiffer (name ∷ names) = IsTrue (not (is_among name names)) × AllDiffer names

-- the deepest element is nested inside 31 others
abbrev pub deepest : ℕ
deepest = 32

-- ---- what is read

-- attributes from a position on; each one's position is after its space
abbrev pub attributes_at : Place → List (List ℕ × List ℕ) → List Attribute
attributes_at here [] = []
attributes_at here (attribute ∷ attributes) =
    record { name = attribute.0; value = attribute.1; place = past here (codes " ") } ∷ attributes_at
    (past here (attribute_text attribute)) attributes

-- the line feeds after elements
abbrev pub line_feeds : Markup → List ℕ
line_feeds nothing = []
line_feeds (element tag children others) = 10 ∷ line_feeds others

-- the text of an element with these children: one line feed before them and one after each
abbrev pub text_round : Markup → List ℕ
text_round nothing = []
text_round (element tag children others) = 10 ∷ line_feeds (element tag children others)

abbrev pub head_at : Place → Tag → Markup → Head
head_at here tag children = record {
  name = tag.name;
  place = here;
  attributes = attributes_at (past here (codes "<" ++ tag.name)) tag.attributes;
  text = text_round children;
}

-- elements after a line feed at the position
abbrev pub placed : Place → Markup → Forest
placed here nothing = tree.nothing
placed here (element tag children others) =
    let from = past here (codes "\n") in
    tree.element (head_at from tag children)
    (placed (past from (opening tag ++ codes ">")) children)
    (placed (past here (codes "\n" ++ enclosed tag children (printed children))) others)

abbrev pub root_place : Place
root_place = past first_place declaration

-- the root of the text
abbrev pub root_read : Tag → Markup → Element
root_read tag children = record {
  head = head_at root_place tag children;
  children = placed (past root_place (opening tag ++ codes ">")) children;
}

-- ---- elements that can be written

-- a name, of characters that are allowed
pub record IsLegalName (name : List ℕ) : Type 0 where
  pub named : IsTrue (is_name name)
  pub clean : IsClean name

-- A value has only characters that are allowed, without tab, LF and CR, which would be read as spaces.
pub record IsLegalAttribute (attribute : List ℕ × List ℕ) : Type 0 where
  pub name : IsLegalName attribute.0
  pub value : IsClean attribute.1
  pub no_controls : IsTrue (list_all (λ b. nat_le 32 b) attribute.1)

abbrev pub AllLegal : List (List ℕ × List ℕ) → Type 0
AllLegal [] = ⊤
AllLegal (attribute ∷ attributes) = IsLegalAttribute attribute × AllLegal attributes

pub record IsLegalTag (tag : Tag) : Type 0 where
  pub name : IsLegalName tag.name
  pub attributes : AllLegal tag.attributes
  pub differ : AllDiffer (map (λ attribute. attribute.0) tag.attributes)

abbrev pub AreLegal : Markup → Type 0
AreLegal nothing = ⊤
AreLegal (element tag children others) = IsLegalTag tag × AreLegal children × AreLegal others

-- the greatest nesting depth
abbrev pub levels : Markup → ℕ
levels nothing = 0
levels (element tag children others) = max (suc (levels children)) (levels others)

pub record IsLegal (tag : Tag) (children : Markup) : Type 0 where
  pub root : IsLegalTag tag
  pub inside : AreLegal children
  pub shallow : suc (levels children) ≤ deepest

-- printed elements are read as these elements
abbrev pub PrintedAreRead : Type 0
PrintedAreRead = (tag : Tag) (children : Markup) → IsLegal tag children → reading_of (document tag children) ≡ Ok (root_read tag children)
