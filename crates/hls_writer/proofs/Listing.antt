-- Attributes, renditions and variants one after another.
use Rattle.std.proofs.Common.{◌≡◌, ℕ, List, [], ◌∷◌, ◌++◌, map, flat_map, get_or, Option, None, Some, option_map, option_to_list, refl, sym}
use Rattle.std.proofs.{Common.{ap, ◌∙◌}, lemmas.List.append-nil, lemmas.List.Concat.flat_map-append}
use Rattle.std.specs.Borrow.{Bor}
use Rattle.hls_writer.specs.{Attributes.{attribute_bytes, further_bytes}, AttributeRows.{told, all_told, texts_of}, Lines.WrittenLine}
use Rattle.hls_writer.specs.{Lines.{line_text, lines_text}, declared.attribute.Attribute.Attribute}

abbrev pub code_after : Bor (List ℕ) → List ℕ
code_after code = 44 ∷ code.now

abbrev pub codes_after : List (Bor (List ℕ)) → List ℕ
codes_after codes = flat_map code_after codes

pub further_codes : (codes : List (Bor (List ℕ))) → codes_after codes ≡ flat_map (λ code. 44 ∷ code) (texts_of codes)
further_codes [] = refl
further_codes (code ∷ codes) = ap (λ t. code_after code ++ t) (further_codes codes)

-- the text of an attribute behind a `,`, if it is there
abbrev pub there_bytes : Option Attribute → List ℕ
there_bytes attribute = further_bytes (option_to_list (option_map told attribute))

pub further_all_told : (attributes : List (Option Attribute)) → further_bytes (all_told attributes) ≡ flat_map there_bytes attributes
further_all_told [] = refl
further_all_told (attribute ∷ attributes) =
    flat_map-append (λ a. 44 ∷ attribute_bytes a) (option_to_list (option_map told attribute)) (all_told attributes)
    ∙ ap (λ t. there_bytes attribute ++ t) (further_all_told attributes)

-- an attribute that is there, as it was read from a list, and a missing one
pub there_bytes-some : (attributes : List (Option Attribute)) (i : ℕ) (d : Option Attribute) (attribute : Attribute)
    → get_or attributes i d ≡ Some attribute
    → 44 ∷ attribute_bytes (told attribute) ≡ there_bytes (get_or attributes i d)
there_bytes-some attributes i d attribute is = sym (ap there_bytes is ∙ append-nil (44 ∷ attribute_bytes (told attribute)))

pub there_bytes-none : (attributes : List (Option Attribute)) (i : ℕ) (d : Option Attribute) → get_or attributes i d ≡ None
    → [] ≡ there_bytes (get_or attributes i d)
there_bytes-none attributes i d is = sym (ap there_bytes is)

-- the three parts of a text
pub three_parts : (one two three : List WrittenLine) → (lines_text one ++ lines_text two) ++ lines_text three
    ≡ lines_text (one ++ two ++ three)
three_parts one two three = sym (flat_map-append line_text (one ++ two) three
    ∙ ap (λ t. t ++ lines_text three) (flat_map-append line_text one two))

-- the texts of some things that each have one line, or some
pub text_of_each : {X : Type 0} (line : X → WrittenLine) (xs : List X) → flat_map (λ x. line_text (line x)) xs ≡ lines_text (map line xs)
text_of_each line [] = refl
text_of_each line (x ∷ xs) = ap (λ t. line_text (line x) ++ t) (text_of_each line xs)

pub text_of_all : {X : Type 0} (lines : X → List WrittenLine) (xs : List X) → flat_map (λ x. lines_text (lines x)) xs
    ≡ lines_text (flat_map lines xs)
text_of_all lines [] = refl
text_of_all lines (x ∷ xs) = ap (λ t. lines_text (lines x) ++ t) (text_of_all lines xs)
    ∙ sym (flat_map-append line_text (lines x) (flat_map lines xs))

-- a code behind a `,`, as it was read from a list
pub code_at : (codes : List (Bor (List ℕ))) (i : ℕ) (d : Bor (List ℕ)) (bytes : List ℕ) → bytes ≡ (get_or codes i d).now
    → 44 ∷ (bytes ++ []) ≡ code_after (get_or codes i d)
code_at codes i d bytes is = ap (λ t. 44 ∷ t) (append-nil bytes ∙ is)
