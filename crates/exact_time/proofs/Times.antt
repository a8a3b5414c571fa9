-- Differences of times, over the natural numbers.
use Rattle.std.proofs.{Common.{◌≡◌, ℕ, ◌+◌, ◌*◌, ◌<◌, ◌≤◌, ◌≤ℤ◌, ap, subst, arith}, lemmas.Int.ints, Math.Nat.mul-le-mul_left}
use Rattle.std.proofs.Math.Nat.{le_of_mul-le-mul_left, one-le-mul}
use borrow.Author.Differences.{up, down}
use Rattle.exact_time.specs.Time.{Time, IsTime, IsNotNegative, IsAtMost, difference, in_units, seconds}
use Rattle.exact_time.proofs.TimeOrder.{share, share_le_out, share_le_in}

-- of times of one scale the ticks are in order
pub ticks_at_most : (x y : Time) → IsTime x → y.scale ≡ x.scale → IsAtMost x y → x.ticks ≤ℤ y.ticks
ticks_at_most x y positive same h =
    let one : IsAtMost x (record y { scale = x.scale }) = subst (λ (n : ℕ). IsAtMost x (record y { scale = n })) same h in
    let shares : x.scale * (up x.ticks + down y.ticks) ≤ x.scale * (up y.ticks + down x.ticks) =
    omega (arith, share_le_out x (record y { scale = x.scale }) one) in
    let apart = le_of_mul-le-mul_left {k = x.scale} shares positive in
    omega (arith, ints, apart)

pub IsTime-difference : (x y : Time) → IsTime x → IsTime y → IsTime (difference x y)
IsTime-difference x y p q = one-le-mul p q

-- a later time less an earlier one is not negative
pub IsNotNegative-difference : (x y : Time) → IsAtMost y x → IsNotNegative (difference x y)
IsNotNegative-difference x y h = omega (arith, ints)

difference_out : (x y : Time) → up (difference x y).ticks + share y x ≡ down (difference x y).ticks + share x y
difference_out x y = omega (arith, ints)

-- c seconds are c * u units
pub le_seconds : (u c : ℕ) (x : Time) → IsAtMost x (seconds c) → IsAtMost x (in_units u (c * u))
le_seconds u c x h = share_le_in x (in_units u (c * u)) (omega (arith, mul-le-mul_left u (share_le_out x (seconds c) h)))

-- ---- a difference beside k/u seconds

pub units_le_out : (u k : ℕ) (x y : Time) → IsAtMost (in_units u k) (difference x y)
    → k * (x.scale * y.scale) + share y x * u ≤ share x y * u
units_le_out u k x y h = omega (arith, share_le_out (in_units u k) (difference x y) h, ap (λ n. n * u) (difference_out x y))

pub units_le_in : (u k : ℕ) (x y : Time) → k * (x.scale * y.scale) + share y x * u ≤ share x y * u
    → IsAtMost (in_units u k) (difference x y)
units_le_in u k x y h = share_le_in (in_units u k) (difference x y) (omega (arith, ap (λ n. n * u) (difference_out x y)))

-- it is no less than 0 units
pub none_le-difference : (u : ℕ) (x y : Time) → IsAtMost y x → IsAtMost (in_units u 0) (difference x y)
none_le-difference u x y h = units_le_in u 0 x y (omega (arith, mul-le-mul_left u (share_le_out y x h)))

pub le_units_out : (u k : ℕ) (x y : Time) → IsAtMost (difference x y) (in_units u k)
    → share x y * u ≤ k * (x.scale * y.scale) + share y x * u
le_units_out u k x y h = omega (arith, share_le_out (difference x y) (in_units u k) h, ap (λ n. n * u) (difference_out x y))

pub le_units_in : (u k : ℕ) (x y : Time) → share x y * u ≤ k * (x.scale * y.scale) + share y x * u
    → IsAtMost (difference x y) (in_units u k)
le_units_in u k x y h = share_le_in (difference x y) (in_units u k) (omega (arith, ap (λ n. n * u) (difference_out x y)))

-- from f to e is at most c units, and from s to e at least k + c: from s to f at least k
pub units_le-before : (u k c : ℕ) (e f s : Time) → IsTime e → IsAtMost (difference e f) (in_units u c)
    → IsAtMost (in_units u (k + c)) (difference e s) → IsAtMost (in_units u k) (difference f s)
units_le-before u k c e f s positive short long = units_le_in u k f s (le_of_mul-le-mul_left {k = e.scale} (omega (
  arith,
  mul-le-mul_left s.scale (le_units_out u c e f short),
  mul-le-mul_left f.scale (units_le_out u (k + c) e s long),
)) positive)

-- from s to f is at least k units, and from f to e at least c: from s to e at least k + c
pub units_le-after : (u k c : ℕ) (e f s : Time) → IsTime f → IsAtMost (in_units u c) (difference e f)
    → IsAtMost (in_units u k) (difference f s) → IsAtMost (in_units u (k + c)) (difference e s)
units_le-after u k c e f s positive short long = units_le_in u (k + c) e s (le_of_mul-le-mul_left {k = f.scale} (omega (
  arith,
  mul-le-mul_left s.scale (units_le_out u c e f short),
  mul-le-mul_left e.scale (units_le_out u k f s long),
)) positive)

-- from s to f is at most k units, and from f to e at most c: from s to e at most k + c
pub le_units-add : (u k c : ℕ) (e f s : Time) → IsTime f → IsAtMost (difference e f) (in_units u c)
    → IsAtMost (difference f s) (in_units u k) → IsAtMost (difference e s) (in_units u (k + c))
le_units-add u k c e f s positive near nearer = le_units_in u (k + c) e s (le_of_mul-le-mul_left {k = f.scale} (omega (
  arith,
  mul-le-mul_left s.scale (le_units_out u c e f near),
  mul-le-mul_left e.scale (le_units_out u k f s nearer),
)) positive)

-- more, less what is less, is more
pub difference-le : (x y s t : Time) → IsAtMost x y → IsAtMost s t → IsAtMost (difference x t) (difference y s)
difference-le x y s t h k = share_le_in (difference x t) (difference y s) (omega (
  arith,
  mul-le-mul_left (s.scale * t.scale) (share_le_out x y h),
  mul-le-mul_left (x.scale * y.scale) (share_le_out s t k),
  ap (λ n. n * (y.scale * s.scale)) (difference_out x t),
  ap (λ n. n * (x.scale * t.scale)) (difference_out y s),
))

-- what is k units before another time, or more, is not after it
pub at_least_units : (u k : ℕ) (x y : Time) → 0 < u → IsAtMost (in_units u k) (difference x y) → IsAtMost y x
at_least_units u k x y some h = share_le_in y x (le_of_mul-le-mul_left {k = u} (omega (arith, units_le_out u k x y h)) some)
