-- The bits that stand for the upper halves.
use Rattle.std.proofs.Common.{◌≡◌, ℕ, zero, suc, ◌^◌, ◌<◌, ◌≤◌, get_or, replicate, refl, arith}
use Rattle.byte_scan.proofs.SetLemmas.{HasBits}
use Rattle.byte_scan.specs.declared.set.TheConstants.{BITS}

ascii_bit : (high : ℕ) → high < 8 → get_or BITS high 0 ≡ 2 ^ high
ascii_bit zero l = refl
ascii_bit (suc zero) l = refl
ascii_bit (suc (suc zero)) l = refl
ascii_bit (suc (suc (suc zero))) l = refl
ascii_bit (suc (suc (suc (suc zero)))) l = refl
ascii_bit (suc (suc (suc (suc (suc zero))))) l = refl
ascii_bit (suc (suc (suc (suc (suc (suc zero)))))) l = refl
ascii_bit (suc (suc (suc (suc (suc (suc (suc zero))))))) l = refl
ascii_bit (suc (suc (suc (suc (suc (suc (suc (suc high)))))))) l = absurd (omega arith)

zeros : (count k : ℕ) → ◌≡◌ {A = ℕ} (get_or (replicate count 0) k 0) 0
zeros zero k = refl
zeros (suc count) zero = refl
zeros (suc count) (suc k) = zeros count k

no_bit : (high : ℕ) → 8 ≤ high → get_or BITS high 0 ≡ 0
no_bit (suc (suc (suc (suc (suc (suc (suc (suc high)))))))) l = zeros 8 high
no_bit high l = absurd (omega arith)

pub HasBits_lem : HasBits BITS
HasBits_lem = record { ascii = ascii_bit; others = no_bit }
