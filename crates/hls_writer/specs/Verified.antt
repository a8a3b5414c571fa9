-- Presentations whose segments all have URLs.
use Rattle.std.specs.Prelude.{◌≡◌, ℕ, ◌^◌, List, Ok}
use Rattle.presentation.specs.{Presented.Presented, Verifying.verified}

-- `verify` returns `Ok` with this number of digits
pub record IsVerified (p : Presented) (digits : ℕ) : Type 0 where
  pub longest : List ℕ
  pub is : verified p (10 ^ digits) ≡ Ok longest
