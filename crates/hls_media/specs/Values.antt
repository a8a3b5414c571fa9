-- The values of a media playlist's tags (RFC 8216 4.3.2 and 4.3.3).
use Rattle.std.specs.Prelude.{ℕ, ◌+◌, ◌-◌, ◌*◌, ◌^◌, ◌==◌, ◌&&◌, not, nat_lt, nat_le, Bool, false, List, [], length, take, if◌then◌else◌}
use Rattle.std.specs.{Prelude.{unwrap_or, is_some, Option, Some, None}, Str.all_ascii_digits, Str.Parse.digits_value}
use Rattle.hls_lines.specs.Marks.{parts_at}
use Rattle.url_parts.specs.declared.range.Range.{Range}

abbrev pub is_comma : ℕ → Bool
is_comma b = b == 44

abbrev pub is_point : ℕ → Bool
is_point b = b == 46

abbrev pub is_at : ℕ → Bool
is_at b = b == 64

-- ---- numbers

-- one decimal digit or more
abbrev pub is_number : List ℕ → Bool
is_number text = all_ascii_digits text && nat_lt 0 (length text)

unfoldable pub number_of : List ℕ → Option ℕ
number_of text = if is_number text then Some (digits_value 10 text) else None

-- a number below a bound
abbrev pub below : ℕ → Option ℕ → Option ℕ
below bound None = None
below bound (Some n) = if nat_lt n bound then Some n else None

-- ---- durations of EXTINF

-- decimal digits, between a least and a greatest number of them
abbrev pub is_run : ℕ → ℕ → List ℕ → Bool
is_run least most digits = all_ascii_digits digits && nat_le least (length digits) && nat_le (length digits) most

-- the nanoseconds of the digits after a point: the first nine count
unfoldable pub fraction_nanos : List ℕ → ℕ
fraction_nanos digits = digits_value 10 (take 9 digits) * 10 ^ (9 - length digits)

abbrev pub nanos_of : List ℕ × List ℕ → Option ℕ
nanos_of parts = if is_run 1 20 parts.0 && is_run 0 30 parts.1
    then Some (digits_value 10 parts.0 * 10 ^ 9 + fraction_nanos parts.1) else None

-- a number before and after its decimal point
abbrev pub decimal_parts : List ℕ → List ℕ × List ℕ
decimal_parts text = unwrap_or (parts_at is_point text) (text, [])

-- a text up to its first comma, which a title follows
abbrev pub before_title : List ℕ → List ℕ
before_title text = (unwrap_or (parts_at is_comma text) (text, [])).0

-- the nanoseconds of `n`, `n.` or `n.f` and a title
unfoldable pub duration_of : List ℕ → Option ℕ
duration_of text = nanos_of (decimal_parts (before_title text))

-- ---- ranges

-- the count of `n` or `n@o`, and the offset where there is one
abbrev pub range_parts : Option (List ℕ × List ℕ) → List ℕ → List ℕ × Option (List ℕ)
range_parts None text = (text, None)
range_parts (Some parts) text = (parts.0, Some parts.1)

-- where a byte range begins: at its offset, or else at the default
abbrev pub first_byte : Option ℕ → Option (List ℕ) → Option ℕ
first_byte otherwise None = otherwise
first_byte otherwise (Some offset) = number_of offset

abbrev pub range_with : Option ℕ → Option ℕ → Option Range
range_with (Some count) (Some first) = if count == 0 then None else Some (record { first = first; count = count })
range_with (Some count) None = None
range_with None first = None

-- the byte range of `n[@o]`; without offset it begins at the default, if there is one
unfoldable pub range_from : Option ℕ → List ℕ → Option Range
range_from otherwise text = let parts = range_parts (parts_at is_at text) text in
    range_with (number_of parts.0) (first_byte otherwise parts.1)

abbrev pub end_of : Range → ℕ
end_of range = range.first + range.count

-- a byte range that ends below 2^63
abbrev pub fitting : Option Range → Option Range
fitting None = None
fitting (Some range) = if nat_lt (end_of range) (2 ^ 63) then Some range else None

-- a number that isn't 0
abbrev pub is_positive : Option ℕ → Bool
is_positive None = false
is_positive (Some n) = not (n == 0)

abbrev pub has_range_form : Option (List ℕ × List ℕ) → List ℕ → Bool
has_range_form (Some parts) text = is_some (fitting (range_from None text))
has_range_form None text = is_positive (number_of text)

-- `n@o` that ends below 2^63, or `n`
unfoldable pub is_range : List ℕ → Bool
is_range text = has_range_form (parts_at is_at text) text
