-- The last ones of a list.
use Rattle.std.proofs.Common.{◌≡◌, ℕ, ◌+◌, ◌-◌, ◌<◌, ◌≤◌, Bool, true, List, length, drop, reverse, get_or, sym, ap, subst, ◌∙◌, arith}
use Rattle.std.proofs.{Common.{Some, length-drop}, lemmas.List.{get_or-drop, get_or-reverse}}
use Rattle.std.proofs.{lemmas.List.Sums.{prefix_len_passes, suffix_len-le-length}, lemmas.Option.{get_or_from_slice_get, slice_get_within}}
use Rattle.std.specs.List.{All, prefix_len, slice_get, suffix_len}

suffix_passes : {X : Type 0} (p : X → Bool) (xs : List X) (k : ℕ) (d : X) → length xs - suffix_len p xs ≤ k → k < length xs
    → p (get_or xs k d) ≡ true
suffix_passes p xs k d from within =
    let j : ℕ = length xs - 1 - k in
    let near : j < prefix_len p (reverse xs) = omega arith in
    let here : length xs - 1 - j ≡ k = omega arith in
    let same = get_or-reverse xs j d (omega arith) ∙ ap (λ i. get_or xs i d) here in
    ap p (sym same) ∙ prefix_len_passes p (reverse xs) j d near

-- as many of the last ones as pass, pass
pub tail_passes : {X : Type 0} (p : X → Bool) (xs : List X) (n : ℕ) → n ≤ suffix_len p xs
    → All (λ x. p x ≡ true) (drop (length xs - n) xs)
tail_passes p xs n few k d within =
    let left = length-drop (length xs - n) xs in
    let most = suffix_len-le-length p xs in
    ap p (get_or-drop (length xs - n) xs k d) ∙ suffix_passes p xs (length xs - n + k) d (omega arith) (omega arith)

-- what holds of each holds of the one at a place
pub at_place : {X : Type 0} (P : X → Type 0) (xs : List X) (k : ℕ) (x : X) → All P xs → slice_get xs k ≡ Some x → P x
at_place P xs k x all is = subst P (get_or_from_slice_get xs k x x is) (all k x (slice_get_within xs k x is))
