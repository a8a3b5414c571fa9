-- The grammar of the text of an MPD: XML 1.0 in UTF-8 without document types, CDATA sections and processing instructions. A
-- position is given by the number of bytes left from it to the end of the whole. A run (white space, a name, plain text) is
-- as long as possible, and where one of several things may follow, its first byte decides which.
--
-- It accepts these constructs that XML 1.0 forbids: `]]>` in content (2.4), a comment that ends in `--->` (2.5), names with
-- any character from U+0080 on at any position (2.3), and any declaration (2.8): its content isn't read, and an encoding that
-- is declared there has no effect.
use Rattle.mpd_tree.specs.Pieces as pieces
use Rattle.std.specs.Prelude.{◌≡◌, ◌<◌, ◌≤◌, ℕ, zero, suc, ◌==◌, ◌||◌, ◌&&◌, Bool, true, false, IsTrue, not, ◌⊎◌, List, [], ◌∷◌, ◌++◌}
use Rattle.std.specs.Prelude.{length, codes, drop, encode_utf8, Some, None, IsUtf8, nat_eq, nat_lt, bytes_eq, if◌then◌else◌}
use Rattle.std.specs.List.{starts_with}
use Rattle.bridge_io.specs.Texts.{is_among}
use Rattle.mpd_tree.specs.{Characters.{is_white, starts_name, has_byte, first_bad_character}, Trees.{names_of, Attribute, Element, nothing}}
use Rattle.mpd_tree.specs.{References.{referred_to, front_len, reference_at}, Marked.{marked_in_content, marked_in_value}}
use Rattle.mpd_tree.specs.Runs.{after_white, name_at, plain_at, after_line_feed, after_mark, common, begins}
use Rattle.mpd_tree.specs.Positions.{Position, anywhere, behind_less_than, behind_exclamation, in_instruction, behind_repeated}
use Rattle.mpd_tree.specs.Positions.{behind_other_name, in_reference, here, place_before}
use Rattle.mpd_tree.specs.Pieces.{Piece, tag_piece, Inside, with_child, nothing_inside}
use Rattle.mpd_tree.specs.Productions.{Production, none, just, refused, from, first, behind_run, choose, ◌>>◌, as_read, many}

unfoldable pub greater_than : List ℕ → Production (List ℕ)
greater_than bytes = first anywhere 0 bytes λ b bs otherwise. choose (b == 62) (just bs) otherwise

-- ---- comments and declarations

-- after the `--` at a comment's end: `>`, or `->`
unfoldable pub behind_dashes : List ℕ → Production (List ℕ)
behind_dashes bytes = first anywhere 0 bytes λ b bs otherwise. choose (b == 45) (greater_than bs) (greater_than bytes)

-- after the first occurrence of these two bytes next to each other
unfoldable pub behind_two : ℕ → ℕ → List ℕ → Production (List ℕ)
behind_two one other [] = refused (here [])
behind_two one other (b ∷ bs) =
    from (here (b ∷ bs)) (choose (b == one && begins other bs) (from (here bs) (just (drop 1 bs))) (behind_two one other bs))

-- after `<!-`: a comment ends at the first `--`
unfoldable pub second_dash : List ℕ → Production (List ℕ)
second_dash bytes = first anywhere 0 bytes λ b bs otherwise. choose (b == 45) (behind_two 45 45 bs >> behind_dashes) otherwise

-- a comment after its `<!`, where `left` bytes are left from its `<`
unfoldable pub comment : ℕ → List ℕ → Production (List ℕ)
comment left bytes = first behind_exclamation left bytes λ b bs otherwise. choose (b == 45) (second_dash bs) otherwise

-- after `<?xml`: up to the first `?>`
unfoldable pub declared : ℕ → List ℕ → Production (List ℕ)
declared left bytes = first in_instruction left bytes λ b bs otherwise. choose (is_white b) (behind_two 63 62 bs) otherwise

abbrev pub word : List ℕ
word = codes "xml"

-- within that word
pub record IsInWord (left : ℕ) (bytes : List ℕ) (p : Position) : Type 0 where
  pub count : ℕ
  pub is_word : count < common word bytes
  pub is_there : p ≡ record { kind = in_instruction; start = left; rest = drop count bytes }

abbrev pub behind_word : ℕ → List ℕ → Production (List ℕ)
behind_word left bytes =
    choose (common word bytes == 3) (declared left (drop 3 bytes))
    (refused (record { kind = in_instruction; start = left; rest = drop (common word bytes) bytes }))

-- a declaration after its `<?`, where `left` bytes are left from its `<`
unfoldable pub declaration : ℕ → List ℕ → Production (List ℕ)
declaration left bytes =
    let behind = behind_word left bytes in record behind { is_open = λ p. IsInWord left bytes p ⊎ behind.is_open p }

-- ---- values and character data

-- a reference after its `&`: the character that its name stands for
pub record IsReference (bytes : List ℕ) (x : ℕ × List ℕ) : Type 0 where
  pub name : List ℕ
  pub bytes_are : bytes ≡ name ++ 59 ∷ x.1
  pub is_first : IsTrue (not (has_byte 59 name))
  pub refers : referred_to name ≡ Some x.0

-- within a prefix of some valid reference
pub record IsInReference (left : ℕ) (bytes : List ℕ) (p : Position) : Type 0 where
  pub count : ℕ
  pub goes_on : count ≤ front_len bytes
  pub is_there : p ≡ record { kind = in_reference; start = left; rest = drop count bytes }

unfoldable pub reference : ℕ → List ℕ → Production (ℕ × List ℕ)
reference left bytes = record { spells = IsReference bytes; is_open = IsInReference left bytes; read = reference_at left bytes }

-- what a line end is read as
abbrev pub line_end : ℕ → ℕ
line_end stop = if stop == 60 then 10 else 32

-- after CR, and between it and an LF
abbrev pub behind_return : List ℕ → List ℕ → Production (List ℕ × Bool × List ℕ)
behind_return read bytes =
    record (just (read, false, after_line_feed bytes)) { is_open = λ p. (more : List ℕ) × (bytes ≡ 10 ∷ more) × (p ≡ here bytes) }

-- after plain text: its end before the stop; a reference; a line end; or the white space of a value, which reads as a space
unfoldable pub marked : ℕ → List ℕ → List ℕ → Production (List ℕ × Bool × List ℕ)
marked stop read [] = refused (here [])
marked stop read (b ∷ bs) =
    choose (b == stop) (just (read, true, b ∷ bs))
    (from (here (b ∷ bs))
    (choose (b == 38) (as_read (reference (length (b ∷ bs)) bs) (λ x. (read ++ encode_utf8 x.0, false, x.1)))
    (choose (b == 13) (behind_return (read ++ line_end stop ∷ []) bs)
    (choose (b == 60) (refused (here (b ∷ bs))) (just (read ++ 32 ∷ [], false, bs))))))

abbrev pub part : List ℕ → ℕ → List ℕ → List ℕ → Production (List ℕ × Bool × List ℕ)
part marks stop read bytes =
    behind_run bytes (plain_at marks bytes).1 (marked stop (read ++ (plain_at marks bytes).0) (plain_at marks bytes).1)

-- text up to a stop, after what is read of it: a value's quote, or the `<` after character data
abbrev pub text : List ℕ → List ℕ → ℕ → List ℕ → Production (List ℕ × List ℕ)
text read marks stop bytes = many (part marks stop) read bytes

abbrev pub closed : List ℕ × List ℕ → Production (List ℕ × List ℕ)
closed (value, []) = refused (here [])
closed (value, quote ∷ rest) = from (here (quote ∷ rest)) (just (value, rest))

-- a value, and the quote at its end
unfoldable pub value : ℕ → List ℕ → Production (List ℕ × List ℕ)
value quote bytes = text [] (marked_in_value quote) quote bytes >> closed

-- ---- tags

-- a name that none of those before has
unfoldable pub new_name : List (List ℕ) → List ℕ → Production (List ℕ × List ℕ)
new_name before bytes = behind_run bytes (name_at bytes).1 (choose (is_among (name_at bytes).0 before)
    (refused (record { kind = behind_repeated; start = length bytes; rest = (name_at bytes).1 })) (just (name_at bytes)))

abbrev pub equals_sign : List ℕ → Production (List ℕ)
equals_sign bytes = first anywhere 0 bytes λ b bs otherwise.
    choose (b == 61) (behind_run bs (after_white bs) (just (after_white bs))) otherwise

-- `=` with white space on either side
unfoldable pub equals : List ℕ → Production (List ℕ)
equals bytes = behind_run bytes (after_white bytes) (equals_sign (after_white bytes))

unfoldable pub quote_mark : List ℕ → Production (ℕ × List ℕ)
quote_mark bytes = first anywhere 0 bytes λ b bs otherwise. choose (b == 34 || b == 39) (just (b, bs)) otherwise

-- an attribute from its name on, after those before it
unfoldable pub attribute : List ℕ → List Attribute → List ℕ → Production (List Attribute × List ℕ)
attribute whole before bytes =
    new_name (names_of before) bytes >> λ name.
    equals name.1 >> λ behind.
    quote_mark behind >> λ quote.
    as_read (value quote.0 quote.1) λ found.
    (before ++ record { name = name.0; value = found.0; place = place_before whole (length bytes) } ∷ [], found.1)

-- an attribute after white space, or the tag's end: `>` or `/`
abbrev pub behind_white : List ℕ → List Attribute → Bool → List ℕ → Production (List Attribute × Bool × List ℕ)
behind_white whole before white [] = refused (here [])
behind_white whole before white (b ∷ bs) =
    choose (b == 62 || b == 47) (just (before, true, b ∷ bs))
    (from (here (b ∷ bs)) (choose (starts_name b && white) (as_read (attribute whole before (b ∷ bs)) (λ x. (x.0, false, x.1)))
    (refused (here (b ∷ bs)))))

unfoldable pub next_attribute : List ℕ → List Attribute → List ℕ → Production (List Attribute × Bool × List ℕ)
next_attribute whole before bytes = behind_run bytes (after_white bytes)
    (behind_white whole before (nat_lt (length (after_white bytes)) (length bytes)) (after_white bytes))

abbrev pub attributes : List ℕ → List ℕ → Production (List Attribute × List ℕ)
attributes whole bytes = many (next_attribute whole) [] bytes

-- `>` or `/>`, and whether it ends an empty element
unfoldable pub tag_end : List ℕ → Production (Bool × List ℕ)
tag_end bytes = first anywhere 0 bytes λ b bs otherwise.
    choose (b == 47) (as_read (greater_than bs) (λ rest. (true, rest))) (as_read (greater_than bytes) (λ rest. (false, rest)))

-- a start tag or an empty one from its name on; `left` bytes are left from its `<`
unfoldable pub tag : List ℕ → ℕ → List ℕ → Production (Piece × List ℕ)
tag whole left bytes = behind_run bytes (name_at bytes).1 (
    attributes whole (name_at bytes).1 >> λ found.
    as_read (tag_end found.1) λ end.
    (tag_piece end.0 (record { name = (name_at bytes).0; place = place_before whole left; attributes = found.0; text = [] }), end.1))

unfoldable pub end_name : List ℕ → ℕ → List ℕ → Production (List ℕ)
end_name name left bytes = behind_run bytes (name_at bytes).1 (choose (bytes_eq (name_at bytes).0 name) (just (name_at bytes).1)
    (refused (record { kind = behind_other_name; start = left; rest = (name_at bytes).1 })))

-- an end tag after its `</`
unfoldable pub end_tag : List ℕ → ℕ → List ℕ → Production (List ℕ)
end_tag name left bytes = first anywhere 0 bytes λ b bs otherwise. choose (starts_name b)
    (end_name name left bytes >> λ rest. behind_run rest (after_white rest) (greater_than (after_white rest))) otherwise

-- ---- elements

-- what follows a `<` inside an element of that name, with room for a number of nesting levels
unfoldable pub piece : List ℕ → ℕ → List ℕ → ℕ → List ℕ → Production (Piece × List ℕ)
piece whole room name left bytes = first (behind_less_than (room == 0)) left bytes λ b bs otherwise.
    choose (b == 47) (as_read (end_tag name left bs) (λ rest. (pieces.ended, rest)))
    (choose (b == 33) (as_read (comment left bs) (λ rest. (pieces.comment, rest)))
    (choose (b == 63) otherwise (choose (starts_name b) (choose (room == 0) otherwise (tag whole left bytes)) otherwise)))

-- what a piece adds to what is before it, and whether the element ends
abbrev pub added : (List ℕ → List ℕ → Production (Inside × List ℕ)) → Inside → Piece × List ℕ → Production (Inside × Bool × List ℕ)
added inner before (pieces.ended, rest) = just (before, true, rest)
added inner before (pieces.comment, rest) = just (before, false, rest)
added inner before (pieces.empty head, rest) =
    just (record before { children = with_child before.children head nothing_inside }, false, rest)
added inner before (pieces.begun head, rest) =
    as_read (inner head.name rest) (λ i. (record before { children = with_child before.children head i.0 }, false, i.1))

-- character data, a `<`, and a piece
unfoldable pub next_inside : (List ℕ → List ℕ → Production (Inside × List ℕ)) → List ℕ → ℕ → List ℕ → Inside → List ℕ
    → Production (Inside × Bool × List ℕ)
next_inside inner whole room name before bytes =
    text before.text marked_in_content 60 bytes >> λ found.
    from (here found.1) (piece whole room name (length found.1) (drop 1 found.1) >> added inner (record before { text = found.0 }))

-- the content of an element of that name, and its end tag, with room for a number of nesting levels, including this one
unfoldable pub inside : ℕ → List ℕ → List ℕ → List ℕ → Production (Inside × List ℕ)
inside zero whole name bytes = refused (here [])
inside (suc room) whole name bytes = many (next_inside (inside room whole) whole room name) nothing_inside bytes

-- the element of a tag
abbrev pub element : List ℕ → Piece × List ℕ → Production (Element × List ℕ)
element whole (pieces.ended, rest) = none
element whole (pieces.comment, rest) = none
element whole (pieces.empty head, rest) = just (record { head = head; children = nothing }, rest)
element whole (pieces.begun head, rest) = as_read (inside 32 whole head.name rest)
    (λ i. (record { head = record head { text = i.0.text }; children = i.0.children }, i.1))

-- the root after its `<`
unfoldable pub behind_root_start : List ℕ → ℕ → List ℕ → Production (Element × List ℕ)
behind_root_start whole left bytes = first (behind_less_than false) left bytes λ b bs otherwise.
    choose (b == 63) otherwise (choose (starts_name b) (tag whole left bytes >> element whole) otherwise)

unfoldable pub root : List ℕ → List ℕ → Production (Element × List ℕ)
root whole bytes = first anywhere 0 bytes λ b bs otherwise. choose (b == 60) (behind_root_start whole (length bytes) bs) otherwise

-- ---- around the root

-- a byte order mark, or none, and a declaration, or none
unfoldable pub beginning : List ℕ → Production (List ℕ)
beginning bytes = choose (starts_with nat_eq (after_mark bytes) (codes "<?"))
    (declaration (length (after_mark bytes)) (drop 2 (after_mark bytes))) (just (after_mark bytes))

-- a comment and the white space after it, or no further one
unfoldable pub next_comment : Unit {0} → List ℕ → Production (Unit {0} × Bool × List ℕ)
next_comment _ bytes = choose (starts_with nat_eq bytes (codes "<!"))
    (comment (length bytes) (drop 2 bytes) >> λ behind. behind_run behind (after_white behind) (just (tt, false, after_white behind)))
    (just (tt, true, bytes))

-- white space and comments
unfoldable pub misc : List ℕ → Production (List ℕ)
misc bytes = behind_run bytes (after_white bytes) (as_read (many next_comment tt (after_white bytes)) (λ x. x.1))

-- nothing is left
abbrev pub at_end : List ℕ → Production (Unit {0})
at_end [] = from (here []) (just tt)
at_end (b ∷ bs) = from (here (b ∷ bs))
    (choose (b == 60) (refused (record { kind = behind_less_than false; start = length (b ∷ bs); rest = bs })) (refused (here (b ∷ bs))))

unfoldable pub ending : List ℕ → Production (Unit {0})
ending bytes = misc bytes >> at_end

-- the root, with only white space and comments around it
unfoldable pub document : List ℕ → Production Element
document whole =
    beginning whole >> λ behind.
    misc behind >> λ front.
    root whole front >> λ found.
    as_read (ending found.1) (λ _. found.0)

abbrev pub IsDocument : Element → List ℕ → Type 0
IsDocument tree bytes = (document bytes).spells tree

-- UTF-8 without a character that is never allowed
pub record IsClean (bytes : List ℕ) : Type 0 where
  pub utf8 : IsUtf8 bytes
  pub no_bad_character : first_bad_character bytes ≡ None

-- the bytes spell the tree
pub record Spells (root : Element) (bytes : List ℕ) : Type 0 where
  pub clean : IsClean bytes
  pub document : IsDocument root bytes
