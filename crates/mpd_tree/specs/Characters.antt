-- The bytes of an XML text by their role in the grammar. All bytes from 128 on have the same role, so a non-ASCII character
-- is taken as its bytes.
use Rattle.std.specs.Prelude.{◌≡◌, ◌<◌, length, drop, ℕ, Bool, true, false, ◌==◌, ◌&&◌, ◌||◌, nat_le, List, [], ◌∷◌, if◌then◌else◌}
use Rattle.std.specs.{Prelude.{Option, Some, None, option_map, min, suc, nat_eq}, List.{list_all, list_any, starts_with}}
use Rattle.byte_scan.specs.Class.{is_low_control}

-- space, tab, LF, CR
unfoldable pub is_white : ℕ → Bool
is_white b = b == 32 || b == 9 || b == 10 || b == 13

abbrev pub is_digit : ℕ → Bool
is_digit b = nat_le 48 b && nat_le b 57

abbrev pub is_letter : ℕ → Bool
is_letter b = (nat_le 65 b && nat_le b 90) || (nat_le 97 b && nat_le b 122)

-- an ASCII letter, `_`, `:`, or a byte of a character at or above U+0080
unfoldable pub starts_name : ℕ → Bool
starts_name b = is_letter b || b == 95 || b == 58 || nat_le 128 b

-- such a byte, a digit, `-` or `.`
unfoldable pub goes_on_name : ℕ → Bool
goes_on_name b = starts_name b || is_digit b || b == 45 || b == 46

abbrev pub is_name : List ℕ → Bool
is_name [] = false
is_name (b ∷ bs) = starts_name b && list_all goes_on_name bs

-- the bytes contain these
abbrev pub has : List ℕ → List ℕ → Bool
has part [] = starts_with nat_eq [] part
has part (b ∷ bs) = starts_with nat_eq (b ∷ bs) part || has part bs

-- the bytes contain this byte
abbrev pub has_byte : ℕ → List ℕ → Bool
has_byte b bytes = list_any (λ c. c == b) bytes

-- the bytes begin with U+FFFE or U+FFFF
unfoldable pub begins_with_noncharacter : List ℕ → Bool
begins_with_noncharacter bytes = starts_with nat_eq bytes (239 ∷ 191 ∷ 190 ∷ []) || starts_with nat_eq bytes (239 ∷ 191 ∷ 191 ∷ [])

-- the bytes begin with a character that is never allowed: below 0x20 except tab, LF and CR, or one of those two
unfoldable pub begins_with_bad_character : List ℕ → Bool
begins_with_bad_character [] = false
begins_with_bad_character (b ∷ bs) = is_low_control b || begins_with_noncharacter (b ∷ bs)

-- where the first such character begins
abbrev pub first_bad_character : List ℕ → Option ℕ
first_bad_character [] = None
first_bad_character (b ∷ bs) = if begins_with_bad_character (b ∷ bs) then Some 0 else option_map suc (first_bad_character bs)

-- where the first noncharacter begins, or `None`
abbrev pub IsFirstNoncharacter : List ℕ → Option ℕ → Type 0
IsFirstNoncharacter bytes None = (j : ℕ) → begins_with_noncharacter (drop j bytes) ≡ false
IsFirstNoncharacter bytes (Some k) = (k < length bytes) × (begins_with_noncharacter (drop k bytes) ≡ true)
    × ((j : ℕ) → j < k → begins_with_noncharacter (drop j bytes) ≡ false)

-- the lesser of two optional offsets
abbrev pub lesser : Option ℕ → Option ℕ → Option ℕ
lesser None other = other
lesser (Some k) None = Some k
lesser (Some k) (Some o) = Some (min k o)
