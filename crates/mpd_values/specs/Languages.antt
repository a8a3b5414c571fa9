-- Languages: ISO/IEC 23009-1, 5.3.3.2, of the characters that a playlist can contain.
use Rattle.std.specs.{Prelude.{ℕ, ◌==◌, ◌&&◌, nat_lt, nat_le, not, Bool, List, length}, List.list_all}

-- a printable ASCII character, except `"`
abbrev pub is_language_char : ℕ → Bool
is_language_char b = nat_le 33 b && (nat_le b 126 && not (b == 34))

-- 1 to 64 of them
abbrev pub is_language : List ℕ → Bool
is_language text = list_all is_language_char text && (nat_lt 0 (length text) && nat_le (length text) 64)
