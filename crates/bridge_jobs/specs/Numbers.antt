-- Decimal numbers of a few digits.
use Rattle.std.specs.{Prelude.{ℕ, ◌^◌, ◌&&◌, nat_lt, nat_le, List, length, if◌then◌else◌, Option, Some, None}, List.list_all}
use Rattle.std.specs.{Char.is_ascii_digit, Str.Parse.digits_value}

-- the number of one digit or more, up to a limit, where it is below 2^32
abbrev pub decimal_of : ℕ → List ℕ → Option ℕ
decimal_of most digits =
    if nat_le (length digits) most && list_all is_ascii_digit digits && nat_lt 0 (length digits) && nat_lt (digits_value 10 digits) (2 ^ 32)
    then Some (digits_value 10 digits) else None
