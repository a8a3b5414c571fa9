use Rattle.exact_time.proofs.laws.sums_are_floors.Goals as goal
use Rattle.std.proofs.Common.{◌≡◌, ◌+◌, ℕ, suc, sym, subst, add-one, arith}
use Rattle.std.specs.Prelude.{sum, take}
use Rattle.exact_time.specs.{Time.difference, Floor.{IsFloorIn, floor_in}, Rounding.{printed, differences}, Laws.SumsAreFloors}
use Rattle.exact_time.proofs.{TimeOrder.IsAtMost_refl, Floors.{floor_in-difference_self, IsFloorIn-difference, IsFloorIn-next}}
use Rattle.exact_time.proofs.Printed.{sum-printed, rising-get, floors}

sums : SumsAreFloors
sums u s ends k end is_s rising at =
    let from_s : floor_in u (difference s s) + sum (take (suc k) (differences (floor_in u (difference s s)) (floors u s ends)))
    ≡ floor_in u (difference end s) =
    sum-printed u s s ends k end is_s is_s (IsAtMost_refl s) rising at in
    rw add-one (omega (
      arith,
      subst (λ (n : ℕ). n + sum (take (suc k) (differences n (floors u s ends))) ≡ floor_in u (difference end s))
          (floor_in-difference_self u s) from_s,
    ))

pub returns-clause-exact : goal.returns-clause-exact
returns-clause-exact c = sums

pub returns-clause-near : goal.returns-clause-near
returns-clause-near c u s ends k end is_s rising at =
    let here = rising-get s s ends k end is_s (IsAtMost_refl s) rising at in
    let is : IsFloorIn u (difference end s) (sum (take (k + 1) (printed u s ends))) =
    subst (IsFloorIn u (difference end s)) (sym (sums u s ends k end is_s rising at)) (IsFloorIn-difference u end s here.0 is_s here.1) in
    (is.at_most, IsFloorIn-next u (difference end s) (sum (take (k + 1) (printed u s ends))) is)
