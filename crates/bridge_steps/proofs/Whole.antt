-- A course by the files and the input.
use Rattle.std.proofs.Common.{◌≡◌, Option, None, Some, option_map, refl}
use Rattle.std.specs.Option.{ForSome, option_and_then}
use Rattle.bridge_steps.proofs.Endings.{over}

-- what holds of each pair of values holds of what they give together
pub over_both : {A B C : Type 0} (f : A → B → C) (o : Option A) (p : Option B) (P : C → Type 0)
    → ((x : A) → o ≡ Some x → ForSome p (λ y. P (f x y))) → ForSome (option_and_then (λ x. option_map (f x) p) o) P
over_both f None p P each z is = absurd (cc)
over_both f (Some x) p P each z is = over (f x) p P (each x refl) z is
