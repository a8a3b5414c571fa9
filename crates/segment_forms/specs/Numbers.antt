-- Numbers in addresses.
use Rattle.std.specs.Prelude.{ℕ, ◌^◌, ◌==◌, ◌&&◌, nat_le, nat_lt, Bool, List, length, slice_index, if◌then◌else◌, Option, Some, None}
use Rattle.std.specs.{Str.all_ascii_digits, Str.Parse.digits_value}

-- two digits or more, the first of them a zero
abbrev pub has_spare_zero : List ℕ → Bool
has_spare_zero digits = nat_le 2 (length digits) && slice_index digits 0 == 48

-- as many digits as the width, or more of them and no spare zero
abbrev pub has_width : ℕ → List ℕ → Bool
has_width width digits =
    if has_spare_zero digits then length digits == width else nat_le 1 (length digits) && nat_le width (length digits)

-- the value of digits, where it is below 2^32
abbrev pub value_of : List ℕ → Option ℕ
value_of digits =
    if all_ascii_digits digits && nat_lt (digits_value 10 digits) (2 ^ 32) then Some (digits_value 10 digits) else None
