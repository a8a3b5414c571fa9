-- Texts cut at single bytes.
use Rattle.std.specs.Prelude.{ℕ, ◌+◌, ◌==◌, Bool, List, [], ◌∷◌, take, drop, position, if◌then◌else◌, Option, Some, None, option_map}

-- the byte that a text is cut at
abbrev pub is_mark : ℕ → ℕ → Bool
is_mark mark b = b == mark

-- what is before and after the first such byte
abbrev pub parts_at : (ℕ → Bool) → List ℕ → Option (List ℕ × List ℕ)
parts_at test text = option_map (λ at. (take at text, drop (at + 1) text)) (position test text)

-- what follows a leading byte
abbrev pub after_mark : ℕ → List ℕ → Option (List ℕ)
after_mark mark [] = None
after_mark mark (b ∷ bs) = if b == mark then Some bs else None

abbrev pub without_spaces : List ℕ → List ℕ
without_spaces [] = []
without_spaces (b ∷ bs) = if b == 32 then without_spaces bs else b ∷ bs
