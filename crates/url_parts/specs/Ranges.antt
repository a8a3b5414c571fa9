-- Byte ranges as an MPD writes them: ISO/IEC 23009-1, 5.3.9.2.2 and RFC 7233, 2.1.
use Rattle.std.specs.Prelude.{ℕ, ◌+◌, ◌-◌, ◌^◌, ◌==◌, ◌&&◌, nat_lt, nat_le, List, length, take, drop, position, if◌then◌else◌, Option, Some}
use Rattle.std.specs.{Prelude.None, List.list_all, Char.is_ascii_digit, Str.Parse.digits_value}
use Rattle.url_parts.specs.declared.range.Range.{Range}

-- the offset of a byte: one digit or more, with a value below 2^63
abbrev pub place_of : List ℕ → Option ℕ
place_of digits = if list_all is_ascii_digit digits && nat_lt 0 (length digits) && nat_lt (digits_value 10 digits) (2 ^ 63)
    then Some (digits_value 10 digits) else None

-- the bytes from the first offset to the last one, inclusive
abbrev pub range_between : Option ℕ → Option ℕ → Option Range
range_between (Some first) (Some last) = if nat_le first last then Some (record { first = first; count = last - first + 1 }) else None
range_between (Some first) None = None
range_between None last = None

-- the same, given the index of the first `-`
abbrev pub range_at : List ℕ → Option ℕ → Option Range
range_at text (Some hyphen) = range_between (place_of (take hyphen text)) (place_of (drop (hyphen + 1) text))
range_at text None = None

-- the range of `first-last`
abbrev pub range_of : List ℕ → Option Range
range_of text = range_at text (position (λ b. b == 45) text)
