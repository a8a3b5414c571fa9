-- One call of a `Rounder`.
use Rattle.std.proofs.Common.{◌≡◌, ℕ, ◌+◌, ◌-◌, ◌*◌, ◌≤◌, sym, ap, subst, arith}
use Rattle.exact_time.specs.{Time.{Time, IsTime, IsAtMost, difference, seconds}, Floor.{IsFloorIn, floor_in}, Tick.time_of}
use Rattle.exact_time.specs.{Rounding.{Rounding, total}, Rounder.{rounding_of, IsKept}, declared.tick.Tick.Tick}
use Rattle.exact_time.specs.declared.rounder.Rounder.TheInside.{Inside}
use Rattle.exact_time.proofs.{TimeOrder.IsAtMost-trans, Times.{none_le-difference, le_seconds}, Floors.{IsFloorIn-difference, floor-before}}
use Rattle.exact_time.proofs.{Floors.floor-after, Printed.floor_not_less}

-- the floor does not fall from one end to the next, nor does it rise by more than the seconds between
pub floor_rises : (u c : ℕ) (first former end : Time) → IsTime first → IsTime former → IsTime end → IsAtMost first former
    → IsAtMost former end → IsAtMost (difference end former) (seconds c) →
    (floor_in u (difference former first) ≤ floor_in u (difference end first))
    × (floor_in u (difference end first) ≤ floor_in u (difference former first) + c * u)
floor_rises u c first former end is_first is_former is_end begun not_before near =
    let is_m : IsFloorIn u (difference former first) (floor_in u (difference former first)) =
    IsFloorIn-difference u former first is_former is_first begun in
    let is_n : IsFloorIn u (difference end first) (floor_in u (difference end first)) =
    IsFloorIn-difference u end first is_end is_first (IsAtMost-trans first former end is_former begun not_before) in (
      omega (arith, floor-after u _ _ 0 end former first is_former (none_le-difference u end former not_before) is_m is_n),
      floor-before u _ _ (c * u) end former first is_end (le_seconds u c (difference end former) near) is_m is_n,
    )

-- the times of a `Rounder`
pub record IsBegun (r : Rounding) : Type 0 where
  pub first_is : IsTime r.first
  pub former_is : IsTime r.former
  pub begun : IsAtMost r.first r.former

pub begun_of : (r : Inside) (now : Rounding) → IsKept r → rounding_of r ≡ now → IsBegun now
begun_of r now kept seen = subst IsBegun seen (record { first_is = r.first.positive; former_is = r.former.positive; begun = kept.begun })

-- a call of `pass` at a `Rounder` of these fields, which is seen as `now`
module _ (r : Inside) (kept : IsKept r) (now : Rounding) (seen : rounding_of r ≡ now) (end : Tick)
    (not_before : IsAtMost now.former (time_of end)) where
  pub first_not_after : IsAtMost (time_of r.first) (time_of end)
  first_not_after = IsAtMost-trans (time_of r.first) (time_of r.former) (time_of end) r.former.positive kept.begun
      (subst (λ (s : Rounding). IsAtMost s.former (time_of end)) (sym seen) not_before)

  module _ (floor : ℕ) (is : floor ≡ floor_in r.unit (difference (time_of end) (time_of r.first))) where
    pub not_less : r.floor ≤ floor
    not_less = rw (kept.floor_is, is)
        (floor_not_less r.unit (time_of r.first) (time_of r.former) (time_of end) r.first.positive r.former.positive end.positive kept.begun
        (subst (λ (s : Rounding). IsAtMost s.former (time_of end)) (sym seen) not_before))

    pub kept_after : IsKept (record { first = r.first; unit = r.unit; former = end; floor = floor })
    kept_after = record { low = kept.low; high = kept.high; begun = first_not_after; floor_is = is }

    pub printed_is : total now + (floor - r.floor) ≡ floor_in r.unit (difference (time_of end) (time_of r.first))
    printed_is = omega (arith, not_less, kept.floor_is, ap total seen, is)

    pub printed_bounded : (c : ℕ) → IsAtMost (difference (time_of end) now.former) (seconds c) → floor - r.floor ≤ c * now.unit
    printed_bounded c near =
        let rises = floor_rises r.unit c (time_of r.first) (time_of r.former) (time_of end) r.first.positive r.former.positive
        end.positive kept.begun
        (subst (λ (s : Rounding). IsAtMost s.former (time_of end)) (sym seen) not_before)
        (subst (λ (s : Rounding). IsAtMost (difference (time_of end) s.former) (seconds c)) (sym seen) near) in
        omega (arith, rises.1, kept.floor_is, is, ap (λ (s : Rounding). c * s.unit) seen)
