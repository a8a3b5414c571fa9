-- Numbers as an MPD writes them: xs:unsignedInt, xs:unsignedLong and xs:integer of XML Schema part 2.
use Rattle.std.specs.Prelude.{ℕ, ℤ, pos, ◌-ℤ◌, ◌+◌, ◌^◌, ◌&&◌, ◌==◌, nat_lt, nat_le, Bool, true, List, length, drop, slice_index}
use Rattle.std.specs.{Prelude.{if◌then◌else◌, Option, Some, None, option_map}, List.list_all, Char.is_ascii_digit, Str.Parse.digits_value}
use Rattle.mpd_values.specs.{declared.blank.Blank.TheVariants.Space, Blanks.trimmed}

-- one ASCII digit or more
abbrev pub is_numeral : List ℕ → Bool
is_numeral text = list_all is_ascii_digit text && nat_lt 0 (length text)

-- the number that digits write
abbrev pub numeral_of : List ℕ → Option ℕ
numeral_of text = if is_numeral text then Some (digits_value 10 text) else None

-- a value that passes a test
abbrev pub kept_if : {X : Type 0} → (X → Bool) → Option X → Option X
kept_if test (Some x) = if test x then Some x else None
kept_if test None = None

-- at least `least`, and below `bound`
abbrev pub is_between : (least bound n : ℕ) → Bool
is_between least bound n = nat_le least n && nat_lt n bound

-- the number that a value writes, spaces around it dropped
unfoldable pub number_of : List ℕ → Option ℕ
number_of text = numeral_of (trimmed Space text)

-- the same, where it is at least `least` and below `bound`
abbrev pub number_between : (least bound : ℕ) → List ℕ → Option ℕ
number_between least bound text = kept_if (is_between least bound) (number_of text)

-- the text begins with a `-`
abbrev pub has_minus : List ℕ → Bool
has_minus text = slice_index text 0 == 45

abbrev pub negated : ℕ → ℤ
negated n = pos 0 -ℤ pos n

-- a number that may have a `-` before it, where what follows passes a test of its own
abbrev pub signed_numeral : (of_negative of_positive : ℕ → Bool) → List ℕ → Option ℤ
signed_numeral of_negative of_positive text = if has_minus text
    then option_map negated (kept_if of_negative (numeral_of (drop 1 text)))
    else option_map pos (kept_if of_positive (numeral_of text))

-- the number that a value writes, spaces around it dropped
unfoldable pub signed_of : List ℕ → Option ℤ
signed_of text = signed_numeral (λ n. true) (λ n. true) (trimmed Space text)

-- the same, where it fits 64 signed bits
unfoldable pub signed_64_of : List ℕ → Option ℤ
signed_64_of text = signed_numeral (is_between 0 (2 ^ 63 + 1)) (is_between 0 (2 ^ 63)) (trimmed Space text)
