-- References one behind another.
use Rattle.std.proofs.Common.{◌≡◌, ◌<◌, ◌+◌, ◌-◌, ℕ, zero, suc, List, [], ◌∷◌, drop, length, refl, sym, ap, arith}
use Rattle.segment_index.specs.Index.{reference_at, reference_len, references_at}

pub no_references : (count at : ℕ) (bytes : List ℕ) → count ≡ 0 → references_at count at bytes ≡ []
unfolding references_at
no_references zero at bytes none = refl
no_references (suc count) at bytes none = absurd (omega (arith, none))

pub some_references : (count at : ℕ) (bytes : List ℕ) → 0 < count
    → references_at count at bytes ≡ reference_at at bytes ∷ references_at (count - 1) (at + reference_len) (drop reference_len bytes)
unfolding references_at
some_references zero at bytes some = absurd (omega (arith, some))
some_references (suc count) at bytes some =
    let one_less : suc count - 1 ≡ count = omega arith in
    ap (λ n. reference_at at bytes ∷ references_at n (at + reference_len) (drop reference_len bytes)) (sym one_less)

pub as_many_references : (count at : ℕ) (bytes : List ℕ) → length (references_at count at bytes) ≡ count
unfolding references_at
as_many_references zero at bytes = refl
as_many_references (suc count) at bytes = ap suc (as_many_references count (at + reference_len) (drop reference_len bytes))
