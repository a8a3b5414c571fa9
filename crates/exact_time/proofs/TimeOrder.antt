-- The order of times, and the tests that tell it.
pub use Rattle.exact_time.specs.TickOrder.{
  share,
  share_le_out,
  share_le_in,
  IsAtMost-trans,
  before_or_at_most,
  IsAtMost-from_before,
  before_then_at_most,
  at_most_then_before,
  same_from_both,
  same_is_at_most,
  same_is_at_least,
}
use Rattle.std.specs.Prelude.{◌≡◌, true, false, not}
use Rattle.std.proofs.{Common.arith, lemmas.Int.ints, lemmas.Bool.Decides.nat_tests}
use Rattle.exact_time.specs.Time.{Time, IsBefore, IsAtMost, before, at_most}

pub IsAtMost_refl : (x : Time) → IsAtMost x x
IsAtMost_refl x = share_le_in x x (omega arith)

pub before_excludes : (x y : Time) → IsBefore x y → ¬ IsAtMost y x
before_excludes x y h k = omega (arith, ints)

-- ---- tests

pub at_most-true : (x y : Time) → at_most x y ≡ true → IsAtMost x y
at_most-true x y h = grind (arith, ints, nat_tests)

pub at_most-false : (x y : Time) → at_most x y ≡ false → IsBefore y x
at_most-false x y h = grind (arith, ints, nat_tests)

pub at_most-from : (x y : Time) → IsAtMost x y → at_most x y ≡ true
at_most-from x y h = grind (arith, ints, nat_tests)

pub not_at_most-from : (x y : Time) → IsBefore y x → at_most x y ≡ false
not_at_most-from x y h = grind (arith, ints, nat_tests)

pub before-is : (x y : Time) → before x y ≡ not (at_most y x)
before-is x y = grind (arith, ints, nat_tests)

pub before-true : (x y : Time) → before x y ≡ true → IsBefore x y
before-true x y h = grind (arith, ints, nat_tests)

pub before-false : (x y : Time) → before x y ≡ false → IsAtMost y x
before-false x y h = grind (arith, ints, nat_tests)

pub not_before-from : (x y : Time) → IsAtMost y x → before x y ≡ false
not_before-from x y h = grind (arith, ints, nat_tests)

pub before-from : (x y : Time) → IsBefore x y → before x y ≡ true
before-from x y h = grind (arith, ints, nat_tests)
