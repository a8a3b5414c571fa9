-- How many elements pass, block by block.
use Rattle.std.proofs.Common.{◌≡◌, ℕ, ◌+◌, ◌*◌, ◌<◌, Bool, List, [], ◌++◌, length, get_or, drop, map, count_by, count_ones, sym, ap, ◌∙◌}
use Rattle.std.proofs.{Common.arith, lemmas.List.Sums.sum_by-append, lemmas.Simd.{chunk-drop, ones-mask_l}, Math.Nat.mul-suc}
use Rattle.std.specs.Simd.Lanes.{chunk, mask_l}
use Rattle.byte_scan.specs.Blocks.{IsCut}

-- from a block on: its bits, and what is left after it
pub count_by_block : (p : ℕ → Bool) (n : ℕ) {xs rest : List ℕ} {blocks : List (List ℕ)} → IsCut n xs blocks rest → (k : ℕ)
    → k < length blocks → (m : ℕ) → m ≡ mask_l (map p (get_or blocks k []))
    → count_by p (drop (n * k) xs) ≡ count_ones m + count_by p (drop (n * (k + 1)) xs)
count_by_block p n {xs} cut k l m is =
    let next : n * k + n ≡ n * (k + 1) = omega (arith, mul-suc n k) in
    let ones : count_by p (chunk (n * k) n xs) ≡ count_ones m = sym (ones-mask_l p (chunk (n * k) n xs))
    ∙ ap (λ b. count_ones (mask_l (map p b))) (sym (cut.block k l)) ∙ ap count_ones (sym is) in
    ap (count_by p) (chunk-drop (n * k) n xs ∙ ap (λ j. chunk (n * k) n xs ++ drop j xs) next)
    ∙ sum_by-append _ (chunk (n * k) n xs) (drop (n * (k + 1)) xs)
    ∙ ap (λ c. c + count_by p (drop (n * (k + 1)) xs)) ones
