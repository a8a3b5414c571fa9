-- The bytes that end plain text.
use Rattle.std.specs.Prelude.{ℕ, List, [], ◌∷◌, ◌++◌, codes}

-- in content, and in a value between such quotes
abbrev pub marked_in_content : List ℕ
marked_in_content = codes "<&" ++ 13 ∷ codes "<<<<<"

abbrev pub marked_in_value : ℕ → List ℕ
marked_in_value quote = quote ∷ codes "<&" ++ 9 ∷ 10 ∷ 13 ∷ quote ∷ quote ∷ []
