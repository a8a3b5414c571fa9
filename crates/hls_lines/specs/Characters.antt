-- The characters that a playlist may not have (RFC 8216 4.1).
use Rattle.std.specs.Prelude.{ℕ, suc, ◌==◌, ◌&&◌, nat_le, min, Bool, false, List, [], ◌∷◌, position, if◌then◌else◌, Option, Some, None}
use Rattle.byte_scan.specs.{Class.is_outside, declared.class.Class.TheVariants.Playlist}

-- the bytes begin with a character U+0080 to U+009F
abbrev pub begins_with_high_control : List ℕ → Bool
begins_with_high_control [] = false
begins_with_high_control (lead ∷ []) = false
begins_with_high_control (lead ∷ next ∷ rest) = lead == 194 && nat_le 128 next && nat_le next 159

-- the offset of the first such character in bytes at an offset
abbrev pub high_control_from : ℕ → List ℕ → Option ℕ
high_control_from at [] = None
high_control_from at (b ∷ bs) = if begins_with_high_control (b ∷ bs) then Some at else high_control_from (suc at) bs

-- the first of two offsets
abbrev pub earlier_of : Option ℕ → Option ℕ → Option ℕ
earlier_of None other = other
earlier_of (Some one) None = Some one
earlier_of (Some one) (Some other) = Some (min one other)

-- the offset of the first control character other than tab, LF and CR
abbrev pub first_control : List ℕ → Option ℕ
first_control bytes = earlier_of (position (is_outside Playlist) bytes) (high_control_from 0 bytes)
