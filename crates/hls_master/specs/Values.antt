-- The values of attributes: numbers, resolutions and frame rates (RFC 8216 4.2 and 4.3.4.2).
use Rattle.std.specs.{Prelude.{ℕ, ◌+◌, ◌-◌, ◌*◌, ◌^◌, ◌==◌, Bool, List, slice_index, if◌then◌else◌, Option, Some, None}, List.list_all}
use Rattle.std.specs.{List.{before_first, after_first}, Char.is_ascii_digit, Option.is_some}
use Rattle.bridge_io.specs.declared.media.Size.{Size}
use Rattle.mpd_values.specs.Numbers.{numeral_of, kept_if, is_between}

-- a decimal number below a bound
abbrev pub number_below : (bound : ℕ) → List ℕ → Option ℕ
number_below bound text = kept_if (is_between 0 bound) (numeral_of text)

-- bits per second: 1 to 2^32 - 1
abbrev pub is_bandwidth : List ℕ → Bool
is_bandwidth text = is_some (kept_if (is_between 1 (2 ^ 32)) (numeral_of text))

abbrev pub size_by : Option ℕ → Option ℕ → Option Size
size_by (Some width) (Some height) = Some (record { width = width; height = height })
size_by (Some width) None = None
size_by None height = None

abbrev pub is_x : ℕ → Bool
is_x b = b == 120

-- width, `x` and height
abbrev pub size_of : List ℕ → Option Size
size_of text = size_by (numeral_of (before_first is_x text)) (numeral_of (after_first is_x text))

-- the same, where both are below 2^32
abbrev pub size_within : List ℕ → Option Size
size_within text = size_by (number_below (2 ^ 32) (before_first is_x text)) (number_below (2 ^ 32) (after_first is_x text))

abbrev pub is_point : ℕ → Bool
is_point b = b == 46

-- the digit at an index, 0 after the last one
abbrev pub digit_at : List ℕ → ℕ → ℕ
digit_at digits place = slice_index digits place - 48

-- the thousandths of the digits after a decimal point; further digits are dropped
abbrev pub thousandths : List ℕ → ℕ
thousandths digits = 100 * digit_at digits 0 + 10 * digit_at digits 1 + digit_at digits 2

-- a fraction of a number of thousandths
abbrev pub rate_by : List ℕ → Option ℕ → Option (ℕ × ℕ)
rate_by digits None = None
rate_by digits (Some whole) = if list_all is_ascii_digit digits then Some (1000 * whole + thousandths digits, 1000) else None

-- a number, and an optional decimal point followed by digits
abbrev pub rate_of : List ℕ → Option (ℕ × ℕ)
rate_of text = rate_by (after_first is_point text) (numeral_of (before_first is_point text))

-- the same, below 2^20 frames per second
abbrev pub rate_within : List ℕ → Option (ℕ × ℕ)
rate_within text = rate_by (after_first is_point text) (number_below (2 ^ 20) (before_first is_point text))
