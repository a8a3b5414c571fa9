-- How far two times are apart.
use Rattle.std.specs.{Int.div_ceil, Prelude.{ℕ, ◌*◌, ◌||◌, ◌-ℤ◌, Bool, nat_le, unsigned_abs}}
use Rattle.exact_time.specs.Time.{Time, before, cross}
use Rattle.meaning.specs.Differences.{is_same_or_rounded}
use Rattle.presentation.specs.Counting.{capped}
use Rattle.differences.specs.declared.deviation.Apart.{Apart}

-- how far two times are apart, in nanoseconds, rounded up
unfoldable pub size_of : Time → Time → ℕ
size_of x y = div_ceil (unsigned_abs (cross x y -ℤ cross y x) * 1000000000) (x.scale * y.scale)

-- the second time less the first
abbrev pub apart : Time → Time → Apart
apart x y = record { later = before x y; nanoseconds = capped (size_of x y) }

-- the tolerance is in nanoseconds
abbrev pub is_near : (within : ℕ) → Time → Time → Bool
is_near within x y = nat_le (size_of x y) within

-- the second time is within the tolerance, or the first one rounded down
abbrev pub is_alike : (within unit : ℕ) → Time → Time → Bool
is_alike within unit x y = is_near within x y || is_same_or_rounded unit x y
