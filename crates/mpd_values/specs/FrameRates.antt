-- Frame rates: ISO/IEC 23009-1, 5.3.7.2, FrameRateType.
use Rattle.std.specs.Prelude.{ℕ, ◌+◌, ◌^◌, ◌==◌, ◌&&◌, List, take, drop, position, Bool, Option, Some, None}
use Rattle.mpd_values.specs.Numbers.{numeral_of, kept_if, is_between}

abbrev pub both_of : Option ℕ → Option ℕ → Option (ℕ × ℕ)
both_of (Some n) (Some m) = Some (n, m)
both_of (Some n) None = None
both_of None m = None

-- `n` or, given the index of a `/`, `n/m`
abbrev pub rate_at : List ℕ → Option ℕ → Option (ℕ × ℕ)
rate_at text (Some slash) = both_of (numeral_of (take slash text)) (numeral_of (drop (slash + 1) text))
rate_at text None = both_of (numeral_of text) (Some 1)

-- n and m of a rate of n/m frames a second
abbrev pub frame_rate_of : List ℕ → Option (ℕ × ℕ)
frame_rate_of text = rate_at text (position (λ b. b == 47) text)

abbrev pub is_read_rate : ℕ × ℕ → Bool
is_read_rate rate = is_between 1 (2 ^ 32) rate.0 && is_between 1 (2 ^ 32) rate.1

-- the same, where both are at least 1 and below 2^32
abbrev pub frame_rate_between : List ℕ → Option (ℕ × ℕ)
frame_rate_between text = kept_if is_read_rate (frame_rate_of text)
