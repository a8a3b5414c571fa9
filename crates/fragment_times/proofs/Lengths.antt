-- How long a segment lasts, in ticks.
use Rattle.std.proofs.{Common.{◌≡◌, ◌<◌, ◌*◌, ◌/◌, ℕ, ℤ, pos, sym, subst}, Math.Nat.one-le-mul}
use Rattle.exact_time.specs.Floor.{IsFloorIn, floor_in}
use Rattle.exact_time.proofs.{Floors.{IsFloorIn-div, floor_of-difference}, TimeOrder.IsAtMost-from_before}
use Rattle.timeline.specs.{Expansions.Timing, Steady.IsWithinLimits}
use Rattle.fragment_times.specs.Durations.{lasting_of}

module _ (x : Timing) (limits : IsWithinLimits x) (n : ℕ) (exact : (lasting_of x).ticks ≡ pos n) where
  abbrev scale : ℕ
  scale = x.end.scale * x.start.scale

  is_scale : 0 < scale
  is_scale = one-le-mul limits.end_is limits.start_is

  pub is_floor : (u : ℕ) → n * u / scale ≡ floor_in u (lasting_of x)
  is_floor u =
      floor_of-difference x.end x.start limits.end_is limits.start_is (IsAtMost-from_before x.start x.end limits.begins)
      (subst (λ (z : ℤ). IsFloorIn u (record { ticks = z; scale = scale }) (n * u / scale)) (sym exact) (IsFloorIn-div u n scale is_scale))
