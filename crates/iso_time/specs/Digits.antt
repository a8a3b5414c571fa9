-- Runs of ASCII digits, and how a text begins with one.
use Rattle.std.specs.Prelude.{ℕ, zero, suc, ◌+◌, ◌-◌, ◌*◌, ◌/◌, ◌%◌, ◌^◌, ◌≤◌, ◌==◌, ◌&&◌, nat_le, Bool, IsTrue, List, [], ◌∷◌, length}
use Rattle.std.specs.{Prelude.{take, drop, Option, Some, None, option_and_then, option_map, if◌then◌else◌}, List.prefix_len}
use Rattle.std.specs.{Char.is_ascii_digit, Str.all_ascii_digits, Str.Parse.digits_value}

-- ASCII digits, from `least` to `most` of them
pub record AreDigits (least most : ℕ) (digits : List ℕ) : Type 0 where
  pub ascii : IsTrue (all_ascii_digits digits)
  pub enough : least ≤ length digits
  pub few : length digits ≤ most

-- the number that decimal digits write
abbrev pub number_of : List ℕ → ℕ
number_of digits = digits_value 10 digits

-- the nanoseconds that the digits after a decimal point write: the first nine count, and a missing one is 0
abbrev pub fraction_nanos : List ℕ → ℕ
fraction_nanos digits = number_of (take 9 digits) * 10 ^ (9 - length digits)

-- the last decimal digits of a number, with leading zeros
unfoldable pub padded_digits : ℕ → ℕ → List ℕ
padded_digits zero n = []
padded_digits (suc width) n = (48 + n / 10 ^ width % 10) ∷ padded_digits width n

-- an optional piece of a text
abbrev pub optional_text : {A : Type 0} → (A → List ℕ) → Option A → List ℕ
optional_text text None = []
optional_text text (Some piece) = text piece

-- a decimal point and the digits after it
abbrev pub fraction_text : List ℕ → List ℕ
fraction_text digits = 46 ∷ digits

-- A reader returns what it found at the start of a text and the rest, or `None`.
abbrev pub Found : Type 0 → Type 0
Found A = Option (A × List ℕ)

infixl 10 ◌>>=◌
abbrev pub ◌>>=◌ : {A B : Type 0} → Option A → (A → Option B) → Option B
found >>= next = option_and_then next found

-- the value, where the test holds of it
abbrev pub value_if : {A : Type 0} → (A → Bool) → A → Option A
value_if test value = if test value then Some value else None

-- the value, where no text follows it
abbrev pub value_at_end : {A : Type 0} → A → List ℕ → Option A
value_at_end value [] = Some value
value_at_end value (c ∷ rest) = None

-- what the rest of a text is read as; an empty rest is valid
abbrev pub optional_rest : {A : Type 0} → (List ℕ → Option A) → List ℕ → Option (Option A)
optional_rest read [] = Some None
optional_rest read (c ∷ rest) = option_map Some (read (c ∷ rest))

-- what was found and the rest, or `None` and the whole text
abbrev pub found_or_text : {A : Type 0} → Found A → List ℕ → Option A × List ℕ
found_or_text None text = (None, text)
found_or_text (Some found) text = (Some found.0, found.1)

-- the text after its first byte, where that is the mark
unfoldable pub after_mark : ℕ → List ℕ → Option (List ℕ)
after_mark mark [] = None
after_mark mark (c ∷ rest) = if c == mark then Some rest else None

-- the first `width` digits
unfoldable pub digits_at : ℕ → List ℕ → Found (List ℕ)
digits_at width text =
    if nat_le width (length text) && all_ascii_digits (take width text)
    then Some (take width text, drop width text) else None

-- what a reader found, as the number that its digits write
abbrev pub number_found : Found (List ℕ) → Found ℕ
number_found found = option_map (λ p. (number_of p.0, p.1)) found

-- all the digits that the text begins with, where there are from `least` to `most`
unfoldable pub leading_digits : ℕ → ℕ → List ℕ → Found (List ℕ)
leading_digits least most text =
    let len = prefix_len is_ascii_digit text in
    if nat_le least len && nat_le len most then Some (take len text, drop len text) else None

-- what was found, where a mark follows it
abbrev pub before_mark : ℕ → Found (List ℕ) → Found (List ℕ)
before_mark mark found = do
  digits ← found
  rest ← after_mark mark digits.1
  Some (digits.0, rest)

-- a decimal point and one to thirty digits, where the text begins with those
unfoldable pub fraction_at : List ℕ → Option (List ℕ) × List ℕ
fraction_at text = found_or_text (after_mark 46 text >>= leading_digits 1 30) text
