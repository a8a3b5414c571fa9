-- The nearest whole number of units.
use Rattle.std.proofs.Common.{ℕ, ◌+◌, ◌-◌, ◌*◌, ◌≤◌, arith}
use Rattle.std.proofs.{lemmas.Grind.div_ceil_times, lemmas.Int.ints, Math.Nat.mul-le-mul_right}
use Rattle.std.specs.Int.{div_ceil}
use Rattle.exact_time.specs.Floor.{floor_in}
use Rattle.exact_time.proofs.Floors.{IsFloorIn-floor_in, IsFloorIn-next}
use Rattle.fragment_times.specs.Durations.{NearestAreNear}

pub nearest_are_near : NearestAreNear
nearest_are_near u x is from =
    let m : ℕ = floor_in (2 * u) x in let n : ℕ = div_ceil m 2 in
    let floor = IsFloorIn-floor_in (2 * u) x is from in
    let next = IsFloorIn-next (2 * u) x m floor in
    let half = div_ceil_times m 2 (omega arith) in
    let most : (2 * n - 1) * x.scale ≤ m * x.scale = mul-le-mul_right x.scale (omega (arith, half.1)) in
    let least : (m + 1) * x.scale ≤ (2 * n + 1) * x.scale = mul-le-mul_right x.scale (omega (arith, half.0)) in
    record { at_most = omega (arith, ints, most, floor.at_most); before = omega (arith, ints, least, next) }
