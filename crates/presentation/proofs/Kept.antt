-- Numbers as they are kept.
use Rattle.std.proofs.Common.{◌≡◌, ℕ, ◌<◌, max, Option, Some, None, option_map, refl, ap, subst, arith}
use Rattle.bridge_io.specs.declared.media.Ratio.{Ratio}
use Rattle.std.specs.Coded.{le_prop}
use Rattle.presentation.specs.Ratios.{rate_of, ratio_with}

same_ratio : (n m k : ℕ) (p : 0 < m) (q : 0 < k) → m ≡ k → ratio_with n m p ≡ ratio_with n k q
same_ratio n m k p q is = subst (λ j. (r : 0 < j) → ratio_with n m p ≡ ratio_with n j r) is (λ r. ap (ratio_with n m) (le_prop p r)) q

pub rate_kept : (o : Option Ratio) (told : Option (ℕ × ℕ)) → option_map (λ r. (r.n, r.m)) o ≡ told → o ≡ option_map rate_of told
rate_kept None told is = rw (← is) refl
rate_kept (Some r) told is = rw (← is) (ap Some (same_ratio r.n r.m (max 1 r.m) r.positive _ (omega arith)))
