-- Escaping of texts for values and content.
use Rattle.std.specs.{Prelude.{ℕ, ◌==◌, IsTrue, nat_le, List, [], ◌∷◌, ◌++◌, codes, if◌then◌else◌, flat_map}, List.list_all}
use Rattle.mpd_tree.specs.Grammar.{value}

abbrev pub escape_of : ℕ → List ℕ
escape_of b =
    if b == 38 then codes "&amp;"
    else if b == 60 then codes "&lt;"
    else if b == 62 then codes "&gt;"
    else if b == 34 then codes "&quot;"
    else b ∷ []

unfoldable pub escape_all : List ℕ → List ℕ
escape_all text = flat_map escape_of text

-- the escaped form of a text without characters below U+0020, before a `"`, reads back as the text
abbrev pub IsReadBack : List ℕ → Type 0
IsReadBack text = IsTrue (list_all (λ b. nat_le 32 b) text) → (rest : List ℕ)
    → (value 34 (escape_all text ++ 34 ∷ rest)).spells (text, rest)
