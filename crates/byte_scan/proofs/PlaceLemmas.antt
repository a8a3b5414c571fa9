-- The first place that passes, block by block.
use Rattle.std.proofs.Common.{◌≡◌, ◌≢◌, ℕ, zero, suc, ◌+◌, ◌-◌, ◌*◌, ◌/◌, ◌%◌, ◌<◌, ◌≤◌, Bool, true, false, cond, not, List, [], ◌∷◌}
use Rattle.std.proofs.Common.{length, get_or, take, drop, Option, Some, None, option_map, ltb, map, refl, sym, ap, subst, ◌∙◌, inl, inr}
use Rattle.std.proofs.{Common.arith, lemmas.Bool.{cases_lt, lt-ltb}, lemmas.Bool.Decides.nat_tests, lemmas.List.{drop-drop, get_or-drop}}
use Rattle.std.proofs.{lemmas.List.length-drop, lemmas.List.Sums.{position_or_len_is, fails_before_first, passes_at_first}}
use Rattle.std.proofs.{lemmas.List.Sums.prefix_len-le-length, lemmas.Simd.{length-chunk, none_from_empty_mask, trailing_mask_l}}
use Rattle.std.proofs.{lemmas.Simd.{run_in_chunk_fails, run_in_chunk_stops}, Math.Nat.{mul-zero, mul-suc, mul-le-mul_left}}
use Rattle.std.specs.{List.{position, position_or_len, prefix_len}, Simd.first_chunks, Simd.Lanes.{chunk, mask_l}}
use Rattle.byte_scan.specs.Blocks.{IsCut}
use lib.Count.{count_trailing_zeros}

-- ---- the cut into blocks

first_chunks_at : (n count k : ℕ) (xs : List ℕ) → k < count → get_or (first_chunks n count xs) k [] ≡ chunk (n * k) n xs
first_chunks_at n zero k xs l = absurd (omega arith)
first_chunks_at n (suc count) zero xs l = rw mul-zero refl
first_chunks_at n (suc count) (suc k) xs l =
    first_chunks_at n count k (drop n xs) (omega arith) ∙ ap (take n) (drop-drop (n * k) n xs
    ∙ ap (λ j. drop j xs) (omega (arith, mul-suc n k)))

-- what `as_chunks` gives is a cut
pub IsCut-first_chunks : (n : ℕ) (xs rest : List ℕ) (blocks : List (List ℕ)) → 0 < n → blocks ≡ first_chunks n (length xs / n) xs
    → length blocks ≡ length xs / n
    → rest ≡ drop (length xs / n * n) xs → length rest ≡ length xs % n → IsCut n xs blocks rest
IsCut-first_chunks n xs rest blocks some front front_len back back_len = record {
  block = λ k l. ap (λ bs. get_or bs k []) front ∙ first_chunks_at n (length xs / n) k xs (omega arith);
  rest_is = back ∙ ap (λ j. drop j xs) (rw front_len (omega arith));
  whole = rw (front_len, back_len) (omega arith);
  short = omega arith;
}

-- a block ends within the bytes
block_fits : {n : ℕ} {xs rest : List ℕ} {blocks : List (List ℕ)} → IsCut n xs blocks rest → (k : ℕ) → k < length blocks
    → n * k + n ≤ length xs
block_fits {n} cut k l = omega (arith, cut.whole, mul-suc n k, mul-le-mul_left n l)

-- ---- the places that are passed over

-- none of the first n elements passes
pub record NoneBelow (p : ℕ → Bool) (xs : List ℕ) (n : ℕ) : Type 0 where
  pub fails : (k : ℕ) → k < n → p (get_or xs k 0) ≡ false

-- a block with no bit set is passed over
pub NoneBelow_more : {p : ℕ → Bool} {n : ℕ} {xs rest : List ℕ} {blocks : List (List ℕ)} → IsCut n xs blocks rest → (k : ℕ)
    → k < length blocks
    → NoneBelow p xs (n * k) → mask_l (map p (get_or blocks k [])) ≡ 0 → NoneBelow p xs (n * (k + 1))
NoneBelow_more {p} {n} {xs} cut k l before empty =
    let unmarked : mask_l (map p (chunk (n * k) n xs)) ≡ 0 = ap (λ b. mask_l (map p b)) (sym (cut.block k l)) ∙ empty in record {
      fails = λ j j<. elim (cases_lt j (n * k)) [
        | inl below ↦ before.fails j below
        | inr at ↦ none_from_empty_mask p xs (n * k) n 0 (block_fits cut k l) unmarked j at (omega arith)
      ];
    }

-- ---- the first place

position_is : (p : ℕ → Bool) (xs : List ℕ) (i : ℕ) → i < length xs → NoneBelow p xs i → p (get_or xs i 0) ≡ true → position p xs ≡ Some i
position_is p xs i l before at =
    let e : position_or_len p xs ≡ i = position_or_len_is p xs i 0 (omega arith) before.fails (λ _. at) in
    subst (λ k. ◌≡◌ {A = Option ℕ} (cond (ltb k (length xs)) (Some k) None) (Some i)) (sym e)
    (ap (λ b. cond b (Some i) None) (lt-ltb i (length xs) l))

-- a bit that is set stands for an element that passes
prefix_len-marked : (p : ℕ → Bool) (xs : List ℕ) → 0 < mask_l (map p xs) → prefix_len (λ x. not (p x)) xs < length xs
prefix_len-marked p [] some = absurd (omega arith)
prefix_len-marked p (x ∷ xs) some = go (p x) (prefix_len-marked p xs) some
  where
    go : (b : Bool) → (0 < mask_l (map p xs) → prefix_len (λ y. not (p y)) xs < length xs) → 0 < cond b 1 0 + 2 * mask_l (map p xs)
        → cond (not b) (1 + prefix_len (λ y. not (p y)) xs) 0 < suc (length xs)
    go true rest some = omega arith
    go false rest some = omega (arith, rest (omega arith))

position_in_chunk : (p : ℕ → Bool) (xs : List ℕ) (i n : ℕ) → NoneBelow p xs i → n ≤ 64 → i + n ≤ length xs
    → 0 < mask_l (map p (chunk i n xs))
    → position p xs ≡ Some (i + count_trailing_zeros 64 (mask_l (map p (chunk i n xs))))
position_in_chunk p xs i n before small room some =
    let r = count_trailing_zeros 64 (mask_l (map p (chunk i n xs))) in
    let long = length-chunk i n xs room in
    let counted = trailing_mask_l p 64 (chunk i n xs) (omega arith) some in
    let short : r < n = omega (arith, counted, long, prefix_len-marked p (chunk i n xs) some) in
    position_is p xs (i + r) (omega arith)
    (record {
      fails = λ k l. elim (cases_lt k i) [
        | inl below ↦ before.fails k below
        | inr at ↦
            run_in_chunk_fails p xs i n r 0 room counted k at l
      ];
    })
    (run_in_chunk_stops p xs i n r 0 room counted short)

-- the lowest bit of the first block that has one
pub position_in_block : {p : ℕ → Bool} {n : ℕ} {xs rest : List ℕ} {blocks : List (List ℕ)} → IsCut n xs blocks rest → (k : ℕ)
    → k < length blocks → n ≤ 64
    → NoneBelow p xs (n * k) → (m : ℕ) → m ≡ mask_l (map p (get_or blocks k [])) → m ≢ 0
    → position p xs ≡ Some (n * k + count_trailing_zeros 64 m)
position_in_block {p} {n} {xs} cut k l small before m is some =
    let e : m ≡ mask_l (map p (chunk (n * k) n xs)) = is ∙ ap (λ b. mask_l (map p b)) (cut.block k l) in
    position_in_chunk p xs (n * k) n before small (block_fits cut k l) (omega arith)
    ∙ ap (λ j. Some (n * k + count_trailing_zeros 64 j)) (sym e)

position_or_len-drop : {p : ℕ → Bool} {xs : List ℕ} {n : ℕ} → NoneBelow p xs n → n ≤ length xs
    → position_or_len p xs ≡ n + position_or_len p (drop n xs)
position_or_len-drop {p} {xs} {n} before l =
    let q = position_or_len p (drop n xs) in
    let long = length-drop n xs in
    let at : (k : ℕ) → n ≤ k → p (get_or xs k 0) ≡ p (get_or (drop n xs) (k - n) 0) = λ k le. ap p (ap (λ j. get_or xs j 0) (omega arith)
    ∙ sym (get_or-drop n xs (k - n) 0)) in
    position_or_len_is p xs (n + q) 0 (omega (arith, prefix_len-le-length (λ x. not (p x)) (drop n xs)))
    (λ k lt. elim (cases_lt k n) [
      | inl below ↦ before.fails k below
      | inr le ↦ at k le
          ∙ fails_before_first p (drop n xs) (k - n) 0 (omega arith)
    ])
    (λ in_range. sym (ap p (get_or-drop n xs q 0)) ∙ passes_at_first p (drop n xs) 0 (omega arith))

moved : (b : Bool) (n q : ℕ) → cond b (Some (n + q)) None ≡ option_map (λ k. n + k) (cond b (Some q) None)
moved true n q = refl
moved false n q = refl

position-drop : {p : ℕ → Bool} {xs : List ℕ} {n : ℕ} → NoneBelow p xs n → n ≤ length xs
    → position p xs ≡ option_map (λ k. n + k) (position p (drop n xs))
position-drop {p} {xs} {n} before l =
    let q = position_or_len p (drop n xs) in
    let same : ltb (n + q) (length xs) ≡ ltb q (length (drop n xs)) = rw length-drop (grind (arith, nat_tests)) in
    ap (λ k. cond (ltb k (length xs)) (Some k) None) (position_or_len-drop before l) ∙ ap (λ b. cond b (Some (n + q)) None) same
    ∙ moved (ltb q (length (drop n xs))) n q

-- where no block has a bit, the place is that in the rest, counted on from its begin
pub position_in_rest : {p : ℕ → Bool} {n : ℕ} {xs rest : List ℕ} {blocks : List (List ℕ)} → IsCut n xs blocks rest → (k : ℕ)
    → k ≡ length blocks → NoneBelow p xs (n * k)
    → (found : Option ℕ) → found ≡ position p rest → option_map (λ j. length xs - length rest + j) found ≡ position p xs
position_in_rest {p} {n} {xs} {rest} {blocks} cut k all before found is =
    let start : n * k ≡ length xs - length rest = omega (arith, cut.whole, ap (λ j. n * j) all) in
    let at : drop (n * k) xs ≡ rest = ap (λ j. drop (n * j) xs) all ∙ sym cut.rest_is in
    sym (position-drop before (omega (arith, cut.whole)) ∙ ap (λ ys. option_map (λ j. n * k + j) (position p ys)) at
    ∙ ap (λ i. option_map (λ j. i + j) (position p rest)) start
    ∙ ap (option_map (λ j. length xs - length rest + j)) (sym is))
