-- Texts in a list.
use Rattle.std.specs.{Prelude.{ℕ, Bool, List, bytes_eq}, List.list_any}

abbrev pub is_among : List ℕ → List (List ℕ) → Bool
is_among text texts = list_any (bytes_eq text) texts
