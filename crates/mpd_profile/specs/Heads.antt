-- The attributes of elements.
use Rattle.std.specs.{Prelude.{ℕ, Bool, false, List, codes, bytes_eq, length, nat_lt, Option, Some, None, option_map}, List.list_any}
use Rattle.mpd_tree.specs.{Trees.{Head, Forest, Element}, Views.{attribute_named, side_by_side}}

-- the value of the attribute of that name
abbrev pub value_named : List ℕ → Head → Option (List ℕ)
value_named name head = option_map (λ attribute. attribute.value) (attribute_named name head.attributes)

abbrev pub or_else : {X : Type 0} → Option X → Option X → Option X
or_else (Some x) other = Some x
or_else None other = other

-- The effective value for a Representation: its own, otherwise that of its AdaptationSet (ISO/IEC 23009-1, 5.3.7.1).
abbrev pub value_over : List ℕ → (set representation : Head) → Option (List ℕ)
value_over name set representation = or_else (value_named name representation) (value_named name set)

-- the element has this name
abbrev pub is_named : List ℕ → Element → Bool
is_named name e = bytes_eq e.head.name name

-- one of these elements has this name
abbrev pub has_child : List ℕ → Forest → Bool
has_child name children = list_any (is_named name) (side_by_side children)

-- shorter than "Subset" and "Period", the shortest names of elements that are rejected or may occur only once
abbrev pub is_short : List ℕ → Bool
is_short name = nat_lt (length name) 6

-- the text is present, and is this word
abbrev pub is_word : List ℕ → Option (List ℕ) → Bool
is_word word None = false
is_word word (Some text) = bytes_eq text word

-- an MPD is dynamic exactly where its type is `dynamic`
abbrev pub is_dynamic : Head → Bool
is_dynamic mpd = is_word (codes "dynamic") (value_named (codes "type") mpd)
