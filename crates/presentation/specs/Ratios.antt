-- Stored frame rates.
use Rattle.std.specs.Prelude.{ℕ, ◌<◌, max}
use Rattle.std.proofs.Math.Nat.{le-max_left}
use Rattle.bridge_io.specs.declared.media.Ratio.{Ratio}

-- a fraction of these numbers
abbrev pub ratio_with : (n m : ℕ) → 0 < m → Ratio
ratio_with n m positive = record { n = n; m = m; positive = positive }

-- a frame rate; no reader of frame rates returns a denominator of 0
abbrev pub rate_of : ℕ × ℕ → Ratio
rate_of rate = ratio_with rate.0 (max 1 rate.1) (le-max_left 1 rate.1)
