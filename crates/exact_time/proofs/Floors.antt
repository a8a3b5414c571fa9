-- The floor of a time: there is one, and it is the quotient.
use Rattle.std.proofs.Common.{◌≡◌, ℕ, zero, suc, ◌+◌, ◌-◌, ◌*◌, ◌/◌, ◌<◌, ◌≤◌, Bool, true, false, cond, ℤ, pos, negsuc, ◌+ℤ◌, ◌≤ℤ◌, refl}
use Rattle.std.proofs.{Common.{◌∙◌, ap, subst, inl, inr, arith}, lemmas.Int.{ints, by_lt_z}, Math.Nat.div-mul-le_self}
use Rattle.std.proofs.{Math.Nat.{le_of_mul-le-mul_left, le_antisymm, mul-le-mul_left, zero-mul}, lemmas.Nat.le-div, lemmas.Bool.leb-true}
use Rattle.std.proofs.lemmas.Bool.{le-leb, cases_lt}
use borrow.Author.Differences.{up, down}
use Rattle.exact_time.specs.{Time.{Time, IsTime, IsNotNegative, IsAtMost, IsBefore, IsSame, cross, difference, in_units}, Floor.IsFloorIn}
use Rattle.exact_time.specs.Floor.{floor_in, fits_in, greatest_of}
use Rattle.exact_time.proofs.{TimeOrder.{share, IsAtMost-trans, same_is_at_most, same_is_at_least}, Times.IsTime-difference}
use Rattle.exact_time.proofs.Times.{IsNotNegative-difference, units_le_in, units_le_out, units_le-before, units_le-after, difference-le}

-- a floor is the only one
pub IsFloorIn-unique : {u : ℕ} {x : Time} {m k : ℕ} → IsFloorIn u x m → IsFloorIn u x k → m ≡ k
IsFloorIn-unique f g = le_antisymm (g.greatest _ f.at_most) (f.greatest _ g.at_most)

-- the floor of n/d in units is n * u / d
pub IsFloorIn-div : (u n d : ℕ) → 0 < d → IsFloorIn u (record { ticks = pos n; scale = d }) (n * u / d)
IsFloorIn-div u n d positive = record {
  at_most = omega (arith, ints, div-mul-le_self (n * u) d);
  greatest = λ other fits. le-div other (n * u) d positive (omega (arith, ints));
}

-- of ticks of one scale
pub IsFloorIn-ticks : (u s t : ℕ) (n m : ℤ) → 0 < s → n ≡ m +ℤ pos t
    → IsFloorIn u (difference (record { ticks = n; scale = s }) (record { ticks = m; scale = s })) (t * u / s)
IsFloorIn-ticks u s t n m positive later =
    let x : Time = record { ticks = n; scale = s } in
    let y : Time = record { ticks = m; scale = s } in
    let linear : up n + down m ≡ up m + down n + t = omega (arith, ints, later) in
    let apart : share x y * u ≡ (share y x + t * s) * u = ap (λ k. k * u) (omega (arith, ap (λ k. k * s) linear)) in
    record {
      at_most = units_le_in u (t * u / s) x y (omega (arith, apart, mul-le-mul_left s (div-mul-le_self (t * u) s)));
      greatest = λ other fits. le-div other (t * u) s positive
          (le_of_mul-le-mul_left {k = s} (omega (arith, apart, units_le_out u other x y fits)) positive);
    }

greatest_of-passes : (test : ℕ → Bool) (limit : ℕ) → test zero ≡ true → test (greatest_of test limit) ≡ true
unfolding greatest_of
greatest_of-passes test zero first = first
greatest_of-passes test (suc k) first =
    elim (test (suc k)) as (λ b. test (suc k) ≡ b → test (cond b (suc k) (greatest_of test k)) ≡ true)
    [ true ↦ λ e. e | false ↦ λ _. greatest_of-passes test k first ] refl

-- one that passes is not one that fails
earlier : (test : ℕ → Bool) (k n : ℕ) → k ≤ suc n → test k ≡ true → test (suc n) ≡ false → k ≤ n
earlier test k n within passes fails = grind arith

le-greatest_of : (test : ℕ → Bool) (limit k : ℕ) → k ≤ limit → test k ≡ true → k ≤ greatest_of test limit
unfolding greatest_of
le-greatest_of test zero k within passes = within
le-greatest_of test (suc n) k within passes =
    elim (test (suc n)) as (λ b. test (suc n) ≡ b → k ≤ cond b (suc n) (greatest_of test n))
    [ true ↦ λ _. within | false ↦ λ e. le-greatest_of test n k (earlier test k n within passes e) passes ] refl

floor_of_ticks : (u : ℕ) (ticks : ℤ) (scale : ℕ) → 0 < scale → pos 0 ≤ℤ ticks
    → IsFloorIn u (record { ticks = ticks; scale = scale }) (floor_in u (record { ticks = ticks; scale = scale }))
unfolding floor_in
floor_of_ticks u (negsuc n) scale positive sign = absurd sign.le
floor_of_ticks u (pos n) scale positive sign =
    let test : ℕ → Bool = fits_in u (record { ticks = pos n; scale = scale }) in
    let m : ℕ = floor_in u (record { ticks = pos n; scale = scale }) in
    let passes : m * scale ≤ n * u = leb-true (m * scale) (n * u)
    (greatest_of-passes test (n * u) (le-leb (0 * scale) (n * u) (omega arith))) in
    record {
      at_most = omega (arith, ints);
      greatest = λ other fits.
          let below : other * scale ≤ n * u = omega (arith, ints) in
          le-greatest_of test (n * u) other (omega (arith, mul-le-mul_left other positive)) (le-leb (other * scale) (n * u) below);
    }

-- a time that is not negative has the floor `floor_in`
pub IsFloorIn-floor_in : (u : ℕ) (x : Time) → IsTime x → IsNotNegative x → IsFloorIn u x (floor_in u x)
IsFloorIn-floor_in u x = floor_of_ticks u x.ticks x.scale

-- the floor of a later time less an earlier one
pub IsFloorIn-difference : (u : ℕ) (x y : Time) → IsTime x → IsTime y → IsAtMost y x
    → IsFloorIn u (difference x y) (floor_in u (difference x y))
IsFloorIn-difference u x y p q h = IsFloorIn-floor_in u (difference x y) (IsTime-difference x y p q) (IsNotNegative-difference x y h)

pub floor_of-difference : {u n : ℕ} (x y : Time) → IsTime x → IsTime y → IsAtMost y x → IsFloorIn u (difference x y) n
    → n ≡ floor_in u (difference x y)
floor_of-difference {u} x y p q h is = IsFloorIn-unique is (IsFloorIn-difference u x y p q h)

-- an earlier time has no greater floor
pub floor-mono : {u m k : ℕ} (x y : Time) → IsTime x → IsAtMost x y → IsFloorIn u x m → IsFloorIn u y k → m ≤ k
floor-mono {u} {m} x y positive earlier f g = g.greatest m (IsAtMost-trans (in_units u m) x y positive f.at_most earlier)

-- c units later, the floor is at most c greater
pub floor-before : (u m n c : ℕ) (e f s : Time) → IsTime e → IsAtMost (difference e f) (in_units u c) → IsFloorIn u (difference f s) m
    → IsFloorIn u (difference e s) n → n ≤ m + c
floor-before u m n c e f s positive short is_m is_n = elim (cases_lt n c) [
  | inl below ↦ omega arith
  | inr above ↦
      let back : n ≡ n - c + c = omega arith in
      let long : IsAtMost (in_units u (n - c + c)) (difference e s) =
      subst (λ (k : ℕ). IsAtMost (in_units u k) (difference e s)) back is_n.at_most in
      omega (arith, is_m.greatest (n - c) (units_le-before u (n - c) c e f s positive short long))
]

-- c units later, the floor is at least c greater
pub floor-after : (u m n c : ℕ) (e f s : Time) → IsTime f → IsAtMost (in_units u c) (difference e f) → IsFloorIn u (difference f s) m
    → IsFloorIn u (difference e s) n → m + c ≤ n
floor-after u m n c e f s positive short is_m is_n = is_n.greatest (m + c) (units_le-after u m c e f s positive short is_m.at_most)

-- at its start nothing has passed
pub floor_in-difference_self : (u : ℕ) (x : Time) → floor_in u (difference x x) ≡ 0
unfolding floor_in greatest_of
floor_in-difference_self u x =
    let none : (difference x x).ticks ≡ pos 0 = omega (arith, ints) in
    ap (λ (z : ℤ). floor_in u (record { ticks = z; scale = x.scale * x.scale })) none
    ∙ ap (λ (n : ℕ). greatest_of (fits_in u (record { ticks = pos 0; scale = x.scale * x.scale })) n) (zero-mul u)

-- the floor is less than one unit below the time
pub IsFloorIn-next : (u : ℕ) (x : Time) (m : ℕ) → IsFloorIn u x m → IsBefore x (in_units u (m + 1))
IsFloorIn-next u x m is = by_lt_z (cross x (in_units u (m + 1))) (cross (in_units u (m + 1)) x) (λ below. below)
    (λ above. absurd (omega (arith, is.greatest (m + 1) above)))

-- a time whose floor is below c is at most c units
pub le_units-floor : (u c m : ℕ) (x : Time) → IsFloorIn u x m → m < c → IsAtMost x (in_units u c)
le_units-floor u c m x is below = by_lt_z (cross (in_units u c) x) (cross x (in_units u c))
    (λ above. absurd (omega (arith, is.greatest c (omega (arith, ints))))) (λ under. under)

-- the floor of a difference depends on the times alone
pub floor_in-same : (u : ℕ) (x y s t : Time) → IsTime x → IsTime y → IsTime s → IsTime t → IsAtMost s x → IsAtMost t y → IsSame x y
    → IsSame s t → floor_in u (difference x s) ≡ floor_in u (difference y t)
floor_in-same u x y s t is_x is_y is_s is_t later_x later_y same_end same_start =
    let f : IsFloorIn u (difference x s) (floor_in u (difference x s)) = IsFloorIn-difference u x s is_x is_s later_x in
    let g : IsFloorIn u (difference y t) (floor_in u (difference y t)) = IsFloorIn-difference u y t is_y is_t later_y in
    le_antisymm
    (floor-mono (difference x s) (difference y t) (IsTime-difference x s is_x is_s)
    (difference-le x y t s (same_is_at_most x y same_end) (same_is_at_least s t same_start)) f g)
    (floor-mono (difference y t) (difference x s) (IsTime-difference y t is_y is_t)
    (difference-le y x s t (same_is_at_least x y same_end) (same_is_at_most s t same_start)) g f)
