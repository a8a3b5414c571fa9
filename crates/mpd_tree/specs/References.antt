-- The characters that references stand for (XML 1.0, 4.1 and 4.6), and how they are read.
use Rattle.std.specs.Prelude.{ℕ, ◌+◌, ◌*◌, ◌-◌, Bool, ◌==◌, ◌&&◌, ◌||◌, nat_le, nat_lt, List, [], ◌∷◌, length, codes, if◌then◌else◌}
use Rattle.std.specs.{Prelude.{Option, Some, None, Result, Ok, Err, fold, bytes_eq, min, max, take, drop}, List.{list_all, prefix_len}}
use Rattle.mpd_tree.specs.{declared.stop.Fault.Fault, declared.stop.Wrong.TheVariants.Entity, Characters.is_digit, Positions.fault}
use Rattle.mpd_tree.specs.Runs.{up_to, common}

abbrev pub is_hex_digit : ℕ → Bool
is_hex_digit b = is_digit b || (nat_le 65 b && nat_le b 70) || (nat_le 97 b && nat_le b 102)

abbrev pub value_of_digit : ℕ → ℕ
value_of_digit b = if nat_le 97 b then b - 87 else if nat_le 65 b then b - 55 else b - 48

abbrev pub number_of : ℕ → List ℕ → ℕ
number_of base digits = fold (λ number digit. base * number + value_of_digit digit) 0 digits

-- tab, LF, CR, or at or above U+0020 and not a surrogate, U+FFFE, U+FFFF or above U+10FFFF
abbrev pub is_allowed_character : ℕ → Bool
is_allowed_character c = c == 9 || c == 10 || c == 13 || (nat_le 32 c && nat_lt c 55296) || (nat_le 57344 c && nat_lt c 65534)
    || (nat_le 65536 c && nat_le c 1114111)

-- the character of a number, where there is at least one digit and the character is allowed
abbrev pub named_by_number : ℕ → (ℕ → Bool) → List ℕ → Option ℕ
named_by_number base is_digit_of [] = None
named_by_number base is_digit_of (d ∷ ds) =
    if list_all is_digit_of (d ∷ ds) && is_allowed_character (number_of base (d ∷ ds)) then Some (number_of base (d ∷ ds)) else None

-- after `#`: digits, or `x` and hexadecimal digits
abbrev pub named_by_digits : List ℕ → Option ℕ
named_by_digits [] = None
named_by_digits (b ∷ bs) = if b == 120 then named_by_number 16 is_hex_digit bs else named_by_number 10 is_digit (b ∷ bs)

-- the character that the text between `&` and `;` refers to
abbrev pub referred_to : List ℕ → Option ℕ
referred_to [] = None
referred_to (b ∷ bs) =
    if b == 35 then named_by_digits bs
    else if bytes_eq (b ∷ bs) (codes "amp") then Some 38
    else if bytes_eq (b ∷ bs) (codes "lt") then Some 60
    else if bytes_eq (b ∷ bs) (codes "gt") then Some 62
    else if bytes_eq (b ∷ bs) (codes "quot") then Some 34
    else if bytes_eq (b ∷ bs) (codes "apos") then Some 39
    else None

-- ---- reading

-- each number above all characters is capped at one past them
abbrev pub with_digit : ℕ → ℕ → ℕ → ℕ
with_digit base number digit = min 1114112 (base * number + value_of_digit digit)

abbrev pub capped_number : ℕ → List ℕ → ℕ
capped_number base digits = fold (with_digit base) 0 digits

abbrev pub allowed : ℕ → Option ℕ
allowed c = if is_allowed_character c then Some c else None

-- the same, where all of the bytes are digits
abbrev pub named_if_all : ℕ → ℕ → List ℕ → Option ℕ
named_if_all base len digits = if len == length digits then allowed (capped_number base digits) else None

abbrev pub front_of_digits : List ℕ → ℕ
front_of_digits [] = 0
front_of_digits (b ∷ bs) = if b == 120 then prefix_len is_hex_digit bs + 1 else prefix_len is_digit (b ∷ bs)

abbrev pub front_of_name : List ℕ → ℕ
front_of_name bytes =
    max (max (max (max (common (codes "amp") bytes) (common (codes "lt") bytes)) (common (codes "gt") bytes))
    (common (codes "quot") bytes)) (common (codes "apos") bytes)

-- how many bytes after a `&` are a prefix of some valid reference
abbrev pub front_len : List ℕ → ℕ
front_len [] = 0
front_len (b ∷ bs) = if b == 35 then front_of_digits bs + 1 else front_of_name (b ∷ bs)

-- the fault is decided by the first byte that no valid reference has there
abbrev pub entity : ℕ → List ℕ → Fault
entity left bytes = fault Entity left (drop (front_len bytes) bytes)

abbrev pub is_semicolon : ℕ → Bool
is_semicolon b = b == 59

abbrev pub character_or : Fault → List ℕ → Option ℕ → Result (ℕ × List ℕ) Fault
character_or otherwise rest None = Err otherwise
character_or otherwise rest (Some c) = Ok (c, rest)

abbrev pub named_in : Fault → List ℕ → List ℕ → Result (ℕ × List ℕ) Fault
named_in otherwise name [] = Err otherwise
named_in otherwise name (b ∷ bs) = character_or otherwise bs (referred_to name)

-- after a `&`, where so many bytes are left from it: up to the first `;`
unfoldable pub reference_at : ℕ → List ℕ → Result (ℕ × List ℕ) Fault
reference_at left bytes = let n = up_to is_semicolon bytes in named_in (entity left bytes) (take n bytes) (drop n bytes)
