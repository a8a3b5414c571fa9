-- Times in whole nanoseconds, and what is left.
use Rattle.std.specs.Prelude.{ℕ, ◌+◌, ◌*◌, ◌-ℤ◌, ◌&&◌, ◌||◌, Bool, if◌then◌else◌, int_lt, nat_lt, unsigned_abs}
use Rattle.std.specs.Ordering.{int_eq}
use Rattle.differences.specs.declared.rounded.Rounded.{Rounded}

abbrev pub is_before : Rounded → Rounded → Bool
is_before x y = int_lt x.whole y.whole || int_eq x.whole y.whole && nat_lt (x.rest * y.scale) (y.rest * x.scale)

-- how far y is after x
abbrev pub until : Rounded → Rounded → ℕ
until x y = unsigned_abs (x.whole -ℤ y.whole) + (if nat_lt (x.rest * y.scale) (y.rest * x.scale) then 1 else 0)
