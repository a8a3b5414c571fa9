-- Values of attributes, without bounds on numbers; and the children of a name.
use Rattle.std.specs.Prelude.{ℕ, ℤ, List, bytes_eq, filter, find, if◌then◌else◌, Option, Some, None, option_and_then}
use Rattle.url_parts.specs.{Ranges.range_of, declared.range.Range.Range}
use Rattle.mpd_values.specs.{declared.blank.Blank.TheVariants.Space, Blanks.trimmed, Numbers.{number_of, signed_of}}
use Rattle.mpd_tree.specs.{Trees.{Attribute, Head, Element}, Views.side_by_side}
use Rattle.mpd_profile.specs.Heads.{is_named, value_named}

abbrev pub number_named : List ℕ → Head → Option ℕ
number_named name head = option_and_then number_of (value_named name head)

abbrev pub signed_named : List ℕ → Head → Option ℤ
signed_named name head = option_and_then signed_of (value_named name head)

abbrev pub range_in : List ℕ → Option Range
range_in text = range_of (trimmed Space text)

abbrev pub range_named : List ℕ → Head → Option Range
range_named name head = option_and_then range_in (value_named name head)

-- the value of an attribute that has this name
abbrev pub value_if : List ℕ → Attribute → Option (List ℕ)
value_if name attribute = if bytes_eq attribute.name name then Some attribute.value else None

-- the first child of that name
abbrev pub child_named : List ℕ → Element → Option Element
child_named name e = find (is_named name) (side_by_side e.children)

-- all children of that name
abbrev pub children_named : List ℕ → Element → List Element
children_named name e = filter (is_named name) (side_by_side e.children)
