-- Attributes and elements as they are written.
use Rattle.dash_writer.specs.declared.attribute.Value.TheVariants as value
use Rattle.std.specs.Prelude.{ℕ, Bool, true, false, List, [], ◌∷◌, ◌++◌, map, codes, decimal, Option, option_map, flat_map, if◌then◌else◌}
use Rattle.std.specs.Borrow.{Bor}
use Rattle.iso_time.specs.Duration.{duration_text}
use Rattle.mpd_tree.specs.Markup.{Tag, attribute_text, enclosed, opening, printed}
use Rattle.dash_writer.specs.Elements.{Attribute, Element, in_order, with_attribute}
use Rattle.dash_writer.specs.{Values.{id_text, range_text, rate_text, seconds_text}, declared.attribute.Value.Value}

-- the text of a value
abbrev pub value_text : Value → List ℕ
value_text (value.Text text) = text.now
value_text (value.Number number) = decimal number
value_text (value.Wide number) = decimal number
value_text (value.Duration nanos) = duration_text nanos
value_text (value.Seconds number) = seconds_text number
value_text (value.Instant text) = text.now
value_text (value.Id place) = id_text place
value_text (value.Rate ratio) = rate_text ratio
value_text (value.Range range) = range_text range

-- an attribute with the text of its value
abbrev pub told : Bor (List ℕ) × Option Value → Attribute
told a = (a.0.now, option_map value_text a.1)

abbrev pub all_told : List (Bor (List ℕ) × Option Value) → List Attribute
all_told attributes = map told attributes

-- the text of some attributes
abbrev pub attributes_text : List (List ℕ × List ℕ) → List ℕ
attributes_text attributes = flat_map attribute_text attributes

-- the text of an attribute, if it has a value
abbrev pub known_text : Attribute → List ℕ
known_text a = attributes_text (with_attribute a.0 a.1 [])

-- the text of an element, and of several in order
abbrev pub element_text : Element → List ℕ
element_text x = enclosed x.0 x.1 (printed x.1) ++ codes "\n"

abbrev pub elements_text : List Element → List ℕ
elements_text xs = printed (in_order xs)

-- ---- an element in parts: its start, its content, its end

abbrev pub is_childless : List Element → Bool
is_childless [] = true
is_childless (x ∷ xs) = false

abbrev pub start_text : Tag → (childless : Bool) → List ℕ
start_text tag childless = opening tag ++ (if childless then codes "/>\n" else codes ">\n")

abbrev pub end_text : (name : List ℕ) → (childless : Bool) → List ℕ
end_text name childless = if childless then [] else codes "</" ++ name ++ codes ">\n"
