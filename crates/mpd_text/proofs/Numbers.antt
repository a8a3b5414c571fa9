-- Numbers of characters, of which the code counts no further than one past all.
use Rattle.std.proofs.Common.{◌≡◌, ℕ, ◌+◌, ◌*◌, Bool, List, [], ◌∷◌, ◌⊎◌, inl, inr, length, refl, ap, ◌∙◌, arith}
use Rattle.std.proofs.lemmas.Bool.Decides.{nat_tests}
use Rattle.std.specs.{Prelude.{min, fold, ◌==◌}, List.{list_all, prefix_len}}
use Rattle.mpd_tree.specs.References.{value_of_digit, named_by_number, named_if_all, with_digit}

abbrev pub IsBase : ℕ → Type 0
IsBase base = (base ≡ 16) ⊎ (base ≡ 10)

step : (base n v : ℕ) → IsBase base → min 1114112 (base * min 1114112 n + v) ≡ min 1114112 (base * n + v)
step base n v (inl e) = rw e (omega arith)
step base n v (inr e) = rw e (omega arith)

capped : (base n : ℕ) (ds : List ℕ) → IsBase base
    → fold (with_digit base) (min 1114112 n) ds ≡ min 1114112 (fold (λ number digit. base * number + value_of_digit digit) n ds)
capped base n [] b = refl
capped base n (d ∷ ds) b =
    ap (λ (m : ℕ). fold (with_digit base) m ds) (step base n (value_of_digit d) b) ∙ capped base (base * n + value_of_digit d) ds b

all_prefix : (q : ℕ → Bool) (ds : List ℕ) → (prefix_len q ds == length ds) ≡ list_all q ds
all_prefix q [] = refl
all_prefix q (d ∷ ds) = grind (arith, nat_tests, all_prefix q ds)

pub named : (base : ℕ) (q : ℕ → Bool) (ds : List ℕ) → IsBase base
    → named_if_all base (prefix_len q ds) ds ≡ named_by_number base q ds
named base q [] b = refl
named base q (d ∷ ds) b = grind (arith, nat_tests, all_prefix q (d ∷ ds), capped base 0 (d ∷ ds) b)
