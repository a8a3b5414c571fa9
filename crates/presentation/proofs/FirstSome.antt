-- The first that is there of what some places have, one place after another.
use Rattle.std.proofs.Common.{◌≡◌, ℕ, ◌+◌, ◌<◌, map, Option, None, Some, sym, ◌∙◌, ap}
use Rattle.std.specs.{List.range_with_len, Option.option_or}
use Rattle.bridge_io.specs.Firsts.{first_some}
use Rattle.presentation.proofs.Counts.{from_on, from_on-end, from_on-first, from_on-start}

-- the places from i on are left, and what is at i is known
module _ {X : Type 0} (f : ℕ → Option X) (i n : ℕ) (within : i < n) (whole here : Option X)
    (so_far : whole ≡ first_some (map f (from_on i n))) (is : here ≡ f i) where
  goes_on : whole ≡ option_or here (first_some (map f (from_on (i + 1) n)))
  goes_on = so_far ∙ ap (λ xs. first_some (map f xs)) (from_on-first i n within)
      ∙ ap (λ found. option_or found (first_some (map f (from_on (i + 1) n)))) (sym is)

  pub none_here : here ≡ None → whole ≡ first_some (map f (from_on (i + 1) n))
  none_here none = goes_on ∙ ap (λ found. option_or found (first_some (map f (from_on (i + 1) n)))) none

  pub some_here : (found : X) → here ≡ Some found → Some found ≡ whole
  some_here found some = sym (goes_on ∙ ap (λ found. option_or found (first_some (map f (from_on (i + 1) n)))) some)

pub none_left : {X : Type 0} (f : ℕ → Option X) (i n : ℕ) (whole : Option X) → i ≡ n → whole ≡ first_some (map f (from_on i n))
    → None ≡ whole
none_left f i n whole last so_far =
    sym (so_far ∙ ap (λ i. first_some (map f (from_on i n))) last ∙ ap (λ xs. first_some (map f xs)) (from_on-end n))

pub all_left : {X : Type 0} (f : ℕ → Option X) (n : ℕ) → first_some (map f (range_with_len 0 n)) ≡ first_some (map f (from_on 0 n))
all_left f n = ap (λ xs. first_some (map f xs)) (sym (from_on-start n))
