-- Whether a command line asks for explanations.
use Rattle.std.specs.Prelude.{ℕ, ◌+◌, ◌==◌, List, [], ◌∷◌, codes, bytes_eq, if◌then◌else◌, Option, Some, None, option_map}

-- the place of the first `--explain` among the words before `--`, given that of the first word
abbrev pub explain_place : (place : ℕ) → List (List ℕ) → Option ℕ
explain_place place [] = None
explain_place place (word ∷ words) = if bytes_eq word (codes "--") then None
    else (if bytes_eq word (codes "--explain") then Some place else explain_place (place + 1) words)

-- the words without the one at a place, given the place of the first word
abbrev pub without : (place index : ℕ) → List (List ℕ) → List (List ℕ)
without place index [] = []
without place index (word ∷ words) = if index == place then without place (index + 1) words else word ∷ without place (index + 1) words

-- the words without the first `--explain`, where there is one
abbrev pub plain_words : List (List ℕ) → Option (List (List ℕ))
plain_words words = option_map (λ place. without place 0 words) (explain_place 0 words)
