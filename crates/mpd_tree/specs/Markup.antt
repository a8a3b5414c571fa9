-- Elements as they are written: XML 1.0 with each tag on its own line; an element without children is an empty tag (2.1 and
-- 3.1).
use Rattle.std.specs.Prelude.{ℕ, List, [], ◌++◌, codes, flat_map}
use Rattle.mpd_tree.specs.Escapes.{escape_all}

-- an element as it is written, without the elements in it and after it: its name, and its attributes by name with their
-- unescaped values
pub record Tag : Type 0 where
  pub name : List ℕ
  pub attributes : List (List ℕ × List ℕ)

-- sibling elements from one of them on
pub data Markup : Type 0 where
  nothing : Markup
  -- the element, its children, the siblings after it
  element : Tag → Markup → Markup → Markup

-- a space, the name, and the escaped value, as ` name="value"`
abbrev pub attribute_text : List ℕ × List ℕ → List ℕ
attribute_text attribute = codes " " ++ attribute.0 ++ codes "=\"" ++ escape_all attribute.1 ++ codes "\""

-- a tag up to its end
abbrev pub opening : Tag → List ℕ
opening tag = codes "<" ++ tag.name ++ flat_map attribute_text tag.attributes

-- an element, given its printed children
abbrev pub enclosed : Tag → Markup → List ℕ → List ℕ
enclosed tag nothing inside = opening tag ++ codes "/>"
enclosed tag (element first within after) inside = opening tag ++ codes ">" ++ (codes "\n" ++ inside)
    ++ (codes "</" ++ tag.name ++ codes ">")

abbrev pub printed : Markup → List ℕ
printed nothing = []
printed (element tag children others) = enclosed tag children (printed children) ++ (codes "\n" ++ printed others)

abbrev pub declaration : List ℕ
declaration = codes "<?xml version=\"1.0\" encoding=\"UTF-8\"?>\n"

-- the text whose root has these children
abbrev pub document : Tag → Markup → List ℕ
document tag children = declaration ++ printed (element tag children nothing)
