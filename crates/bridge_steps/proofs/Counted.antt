-- Segments that all have addresses are counted.
use Rattle.std.proofs.Common.{◌≡◌, ℕ, List, [], ◌∷◌, ◌++◌, Ok, refl}
use Rattle.presentation.specs.{declared.fault.PresentationFault.PresentationFault, Presented.Presented, Counting.{unless_any, counted}}
use Rattle.presentation.specs.{Counting.{count_faults, count_of_all}, Verifying.{verified, url_faults}}

no_faults : {X Y : Type 0} (faults more : List PresentationFault) (x y : X) (z : Y) → unless_any (faults ++ more) x ≡ Ok y
    → unless_any faults z ≡ Ok z
no_faults [] more x y z is = refl
no_faults (fault ∷ faults) more x y z is = absurd (cc)

pub all_counted : (p : Presented) (unit : ℕ) (longest : List ℕ) → verified p unit ≡ Ok longest → counted p ≡ Ok (count_of_all p)
unfolding verified counted
all_counted p unit longest is = no_faults (count_faults p) (url_faults p) _ longest (count_of_all p) is
