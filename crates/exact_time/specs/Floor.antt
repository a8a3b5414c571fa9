-- A time rounded down to a whole number of units.
use Rattle.std.specs.Prelude.{ℕ, zero, suc, ◌*◌, ◌≤◌, Bool, if◌then◌else◌, int_le, unsigned_abs}
use Rattle.exact_time.specs.Time.{Time, cross, IsAtMost, in_units}

-- m is the greatest whole number with m/u at most x
pub record IsFloorIn (u : ℕ) (x : Time) (m : ℕ) : Type 0 where
  pub at_most : IsAtMost (in_units u m) x
  pub greatest : (other : ℕ) → IsAtMost (in_units u other) x → other ≤ m

-- the greatest number up to the limit that passes the test, or 0
unfoldable pub greatest_of : (ℕ → Bool) → ℕ → ℕ
greatest_of test zero = zero
greatest_of test (suc k) = if test (suc k) then suc k else greatest_of test k

-- is m/u at most x?
abbrev pub fits_in : ℕ → Time → ℕ → Bool
fits_in u x m = int_le (cross (in_units u m) x) (cross x (in_units u m))

-- The greatest whole number m with m/u at most x, for a non-negative time: as its scale is at least 1, m is at most |ticks|
-- * u. It is the only number that `IsFloorIn` allows, as `each_time_has_one_floor` ensures.
unfoldable pub floor_in : ℕ → Time → ℕ
floor_in u x = greatest_of (fits_in u x) (unsigned_abs x.ticks * u)

-- k is the least whole number with k steps at least as long as the length
pub record IsCeiling (length step k : ℕ) : Type 0 where
  pub enough : length ≤ k * step
  pub least : (other : ℕ) → length ≤ other * step → k ≤ other
