-- Attribute lists (RFC 8216 4.2).
use Rattle.std.specs.Prelude.{ℕ, zero, suc, ◌==◌, ◌||◌, ◌&&◌, not, Bool, false, List, [], ◌∷◌, ◌++◌, length, take, drop, map, position}
use Rattle.std.specs.Prelude.{unwrap_or, bytes_eq, if◌then◌else◌, Option, Some, None, option_and_then, option_map, Result, Ok, Err}
use Rattle.std.specs.{List.list_all, Char.is_ascii_alphanumeric}
use Rattle.bridge_io.specs.{Texts.is_among, declared.place.Place.Place}
use Rattle.hls_lines.specs.{Marks.{after_mark, parts_at, without_spaces}, declared.fault.LineFault.LineFault}
use Rattle.hls_lines.specs.declared.fault.LineFault.TheVariants.{Attribute, DoubleAttribute}

-- a name and its value without quotes
abbrev pub NameValue : Type 0
NameValue = List ℕ × List ℕ

abbrev pub is_equals : ℕ → Bool
is_equals b = b == 61

abbrev pub is_quote : ℕ → Bool
is_quote b = b == 34

-- an ASCII letter, a digit, `-`, `.` or `_`
abbrev pub is_name_byte : ℕ → Bool
is_name_byte b = is_ascii_alphanumeric b || b == 45 || b == 46 || b == 95

-- what a value without quotes can't have: `"`, `,`, space, tab, LF and CR
abbrev pub ends_value : ℕ → Bool
ends_value b = b == 34 || b == 44 || b == 32 || b == 9 || b == 10 || b == 13

abbrev pub is_name : List ℕ → Bool
is_name name = not (length name == 0) && list_all is_name_byte name

-- the leading unquoted value of a text, and what follows it
abbrev pub plain_value : List ℕ → Option (List ℕ × List ℕ)
plain_value text = let size = unwrap_or (position ends_value text) (length text) in
    if size == 0 then None else Some (take size text, drop size text)

-- a value after its leading quote, or else an unquoted one
abbrev pub value_behind : Option (List ℕ) → List ℕ → Option (List ℕ × List ℕ)
value_behind (Some quoted) text = parts_at is_quote quoted
value_behind None text = plain_value text

-- the leading value of a text, and what follows it
abbrev pub value_at : List ℕ → Option (List ℕ × List ℕ)
value_at text = value_behind (after_mark 34 text) text

-- the leading attribute of a text, and what follows it, by its name and what follows its `=`
abbrev pub attribute_with : List ℕ × List ℕ → Option (NameValue × List ℕ)
attribute_with parts = if is_name parts.0 then option_map (λ found. ((parts.0, found.0), found.1)) (value_at parts.1) else None

unfoldable pub attribute_at : List ℕ → Option (NameValue × List ℕ)
attribute_at text = option_and_then attribute_with (parts_at is_equals text)

-- what follows a comma with spaces around it
unfoldable pub after_comma : List ℕ → Option (List ℕ)
after_comma text = option_map without_spaces (after_mark 44 (without_spaces text))

-- the end, or a comma and more
abbrev pub more_by : (List ℕ → Option (List NameValue)) → List ℕ → Option (List NameValue)
more_by read [] = Some []
more_by read (b ∷ bs) = option_and_then read (after_comma (b ∷ bs))

-- one or more attributes, joined by commas, at most a number of them
abbrev pub attributes_in : ℕ → List ℕ → Option (List NameValue)
attributes_in zero text = None
attributes_in (suc most) text =
    option_and_then (λ first. option_map (λ others. first.0 ∷ others) (more_by (attributes_in most) first.1)) (attribute_at text)

-- the attributes of a whole text, fewer than its bytes
unfoldable pub attributes_at : List ℕ → Option (List NameValue)
attributes_at text = attributes_in (length text) text

-- a name is repeated
abbrev pub repeats_after : List (List ℕ) → List (List ℕ) → Bool
repeats_after before [] = false
repeats_after before (name ∷ names) = is_among name before || repeats_after (before ++ name ∷ []) names

abbrev pub names_of : List NameValue → List (List ℕ)
names_of attributes = map (λ attribute. attribute.0) attributes

abbrev pub unless_double : Place → Option (List NameValue) → Result (List NameValue) LineFault
unless_double place None = Err (Attribute place)
unless_double place (Some attributes) =
    if repeats_after [] (names_of attributes) then Err (DoubleAttribute place) else Ok attributes

-- The attributes of a text, or its fault, which is reported at a position.
unfoldable pub attributes_of : List ℕ → Place → Result (List NameValue) LineFault
attributes_of text place = unless_double place (attributes_at text)

-- the value of a name
abbrev pub value_of : List ℕ → List NameValue → Option (List ℕ)
value_of name [] = None
value_of name (attribute ∷ attributes) = if bytes_eq attribute.0 name then Some attribute.1 else value_of name attributes
