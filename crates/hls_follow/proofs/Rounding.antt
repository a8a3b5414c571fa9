-- Rounding down to milliseconds.
use Rattle.std.proofs.Common.{◌+◌, ◌*◌, ◌<◌, ◌≤◌, ℤ, pos, negsuc, arith}
use Rattle.std.specs.Int.{int_div_euclid}
use borrow.Author.Differences.{up, down}

-- less than a millisecond is cut off
pub millis_near : (nanos : ℤ)
    → (up (int_div_euclid nanos (pos 1_000_000)) * 1_000_000 + down nanos ≤ down (int_div_euclid nanos
    (pos 1_000_000)) * 1_000_000 + up nanos)
    × (down (int_div_euclid nanos (pos 1_000_000)) * 1_000_000 + up nanos
    < up (int_div_euclid nanos (pos 1_000_000)) * 1_000_000 + down nanos + 1_000_000)
millis_near (pos n) = omega arith
millis_near (negsuc n) = omega arith
