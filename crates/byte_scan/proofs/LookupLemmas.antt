-- Tables of 16 bytes, read at four bits of each lane.
use Rattle.std.proofs.Common.{◌≡◌, ℕ, ◌+◌, ◌*◌, ◌/◌, ◌^◌, ◌<◌, List, ◌++◌, length, length-append, get_or, map, replicate, bit_and, refl}
use Rattle.std.proofs.{Common.{sym, ap, ◌∙◌, inl, inr, arith, w8, Fits}, lemmas.Bool.cases_lt, lemmas.List.ext_get_or}
use Rattle.std.proofs.{lemmas.List.{get_or-append_right, get_or_append_left, get_or-map, length-map}, lemmas.Nat.and_mask}
use Rattle.std.proofs.lemmas.Simd.{Each1-all, Each1-get_or, Each1-weaker, Each1-zip2, Each2-splat, below_from_Fits, get_or-swz_l_below}
use Rattle.std.proofs.lemmas.Simd.{length-swz_l, length-zip2, swz_l, SwzOk, SwzOk-from_below}
use Rattle.std.specs.Simd.Lanes.{zip2, Each1}

-- 32 lanes of bytes
pub record IsBlock (v : List ℕ) : Type 0 where
  pub long : length v ≡ 32
  pub each : Each1 (Fits w8) v

abbrev pub shifted : ℕ → ℕ → ℕ
shifted a b = a / 2 ^ b

-- the low and the high bits of a lane are places of a table of 16
pub low_ok : (v : List ℕ) → IsBlock v → SwzOk w8 16 32 0 (zip2 bit_and v (replicate 32 15))
low_ok v block =
    let small = Each1-all (λ a. bit_and a 15 < 16) (λ a. omega (arith, and_mask a 4)) v in
    SwzOk-from_below w8 16 2 32 0 (zip2 bit_and v (replicate 32 15)) refl
    (omega (arith, length-zip2 bit_and v (replicate 32 15) block.long))
    (Each1-zip2 bit_and (λ j. j < 16) v (replicate 32 15) (Each2-splat (λ a b. bit_and a b < 16) v 32 15 small))

pub high_ok : (v : List ℕ) → IsBlock v → SwzOk w8 16 32 0 (zip2 shifted v (replicate 32 4))
high_ok v block =
    let small = Each1-weaker (λ a. a < 256) (λ a. a / 16 < 16) (λ a h. omega arith) v (below_from_Fits w8 v block.each) in
    SwzOk-from_below w8 16 2 32 0 (zip2 shifted v (replicate 32 4)) refl (omega (arith, length-zip2 shifted v (replicate 32 4) block.long))
    (Each1-zip2 shifted (λ j. j < 16) v (replicate 32 4) (Each2-splat (λ a b. shifted a b < 16) v 32 4 small))

-- both halves read the one table
twice_at : (s : List ℕ) (i j : ℕ) → length s ≡ 16 → i < 32 → j < 16 → get_or (s ++ s) (16 * ((0 + i) / 16) + j) 0 ≡ get_or s j 0
twice_at s i j long I J = elim (cases_lt i 16) [
  | inl l ↦ ap (λ k. get_or (s ++ s) k 0) (omega arith) ∙ get_or_append_left s s 0 j (omega arith)
  | inr g ↦ get_or-append_right s s 16 (16 * ((0 + i) / 16) + j) 0 long (omega arith) ∙ ap (λ k. get_or s k 0) (omega arith)
]

-- a look-up at places js that are computed lane by lane
pub looked_up : (s : List ℕ) (g : ℕ → ℕ) (v js t : List ℕ) → length t ≡ 32 → IsBlock v → js ≡ map g v → ((x : ℕ) → x < 256 → g x < 16)
    → t ≡ s ++ s
    → swz_l w8 16 t 0 js ≡ map (λ x. get_or s (g x) 0) v
looked_up s g v js t two block e small double =
    let sixteen : length s ≡ 16 = omega (arith, ap length double, length-append s s) in
    let long : length js ≡ 32 = ap length e ∙ length-map v g ∙ block.long in
    ap (λ u. swz_l w8 16 u 0 js) double
    ∙ ext_get_or 0 _ _ (length-swz_l w8 16 (s ++ s) 0 js ∙ long ∙ sym (length-map v (λ x. get_or s (g x) 0) ∙ block.long)) (λ i h.
    let lt : i < 32 = omega (arith, length-swz_l w8 16 (s ++ s) 0 js) in
    let within : i < length v = omega (arith, block.long) in
    let is : get_or js i 0 ≡ g (get_or v i 0) = ap (λ l. get_or l i 0) e ∙ get_or-map g v i 0 0 within in
    let byte = Each1-get_or (Fits w8) v i 0 within block.each in
    let below : get_or js i 0 < 16 = omega (arith, small (get_or v i 0) byte.fits) in
    get_or-swz_l_below w8 16 (s ++ s) 0 js i (omega arith) below ∙ twice_at s i (get_or js i 0) sixteen lt below ∙ ap (λ k. get_or s k 0) is
    ∙ sym (get_or-map (λ x. get_or s (g x) 0) v i 0 0 within))
