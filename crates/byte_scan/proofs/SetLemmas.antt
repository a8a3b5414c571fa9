-- The rows of a set, one member more at a time, and what they tell of a byte.
use Rattle.std.proofs.Common.{◌≡◌, ◌≢◌, ℕ, zero, suc, ◌+◌, ◌*◌, ◌/◌, ◌%◌, ◌^◌, ◌<◌, ◌≤◌, ◌⊎◌, Bool, true, false, ◌==◌, ◌||◌, not, cond, eqb}
use Rattle.std.proofs.Common.{ltb, List, [], ◌∷◌, length, get_or, set, take, map, bit_and, bit_or, refl, sym, ap, ap₂, ◌∙◌, inl, inr, arith}
use Rattle.std.proofs.{Common.{eq-eqb, w8, Fits}, lemmas.Bool.{cases_eq, cases_lt, and_parts, ltb-true, ne_eqb}, lemmas.Grind.get_or-set_at}
use Rattle.std.proofs.{lemmas.List.get_or-set_other, lemmas.List.Folds.list_any_more, lemmas.Nat.{pow_pos, and_le_r}}
use Rattle.std.proofs.{lemmas.Nat.Bits.{and_pow, bit_at_set_same, bit_at_set_other}, lemmas.Simd.zip2_of_maps}
use Rattle.std.specs.{Int.bit_at, Simd.Lanes.{zip2, Each1}}
use Rattle.byte_scan.specs.{ByteSet.{is_member, all_ascii, HasRows, IsReady}, Lanes.{flag, flags}}

-- 1 for yes, and 0 for no
abbrev bit_of : Bool → ℕ
bit_of b = cond b 1 0

or_kept : (a : Bool) → a ≡ (a || false)
or_kept true = refl
or_kept false = refl

or_true : (a : Bool) → true ≡ (a || true)
or_true true = refl
or_true false = refl

-- each member is below 128
pub ascii_at : (members : List ℕ) (i : ℕ) → all_ascii members ≡ true → i < length members → get_or members i 0 < 128
ascii_at [] i ascii l = absurd (omega arith)
ascii_at (x ∷ xs) zero ascii l = ltb-true x 128 (and_parts (ltb x 128) (all_ascii xs) ascii).0
ascii_at (x ∷ xs) (suc i) ascii l = ascii_at xs i (and_parts (ltb x 128) (all_ascii xs) ascii).1 (omega arith)

-- the rows after one member more
pub HasRows_more : (members : List ℕ) (i : ℕ) (rows : List ℕ) → i < length members → get_or members i 0 < 128 → length rows ≡ 16
    → HasRows (take i members) rows → (row : ℕ)
    → row ≡ get_or members i 0 % 16 → HasRows (take (i + 1) members)
    (set rows row (bit_or (get_or rows row 0) (1 * 2 ^ (get_or members i 0 / 16) % 256)))
HasRows_more members i rows l ascii sixteen before row row_is = record {
  bits = λ low high L H.
      let m = get_or members i 0 in
      let byte = 16 * high + low in
      let new = bit_or (get_or rows row 0) (1 * 2 ^ (m / 16) % 256) in
      let other : byte ≢ m → bit_at (get_or rows low 0) high ≡ bit_of (is_member (take i members) byte || byte == m) =
      λ ne. before.bits low high L H ∙ ap bit_of (or_kept _ ∙ ap (λ b. is_member (take i members) byte || b) (sym (ne_eqb byte m ne))) in
      let in_row : low ≡ row → bit_at (get_or (set rows row new) low 0) high ≡ bit_at new high =
      λ e. ap (λ r. bit_at r high) (get_or-set_at rows row low new 0 e (omega arith)) in
      let go : (low ≡ row) ⊎ (low ≢ row) → (high ≡ m / 16) ⊎ (high ≢ m / 16) → bit_at (get_or (set rows row new) low 0) high
      ≡ bit_of (is_member (take i members) byte || byte == m) = λ a b. elim a [
        | inl e ↦ elim b [
          | inl f ↦
              in_row e ∙ ap (bit_at new) f ∙ bit_at_set_same w8 (get_or rows row 0) (m / 16) (omega arith)
              ∙ ap bit_of (or_true _ ∙ ap (λ t. is_member (take i members) byte || t) (sym (eq-eqb byte m (omega arith))))
          | inr ne ↦ in_row e ∙ bit_at_set_other w8 (get_or rows row 0) (m / 16) (omega arith) high ne
              ∙ ap (λ k. bit_at (get_or rows k 0) high) (sym e) ∙ other (omega arith)
        ]
        | inr ne ↦ ap (λ r. bit_at r high) (get_or-set_other rows row low new 0 ne) ∙ other (omega arith)
      ] in
      go (cases_eq low row) (cases_eq high (m / 16)) ∙ sym (ap bit_of (list_any_more (λ member. byte == member) members i 0 l));
}

-- no byte from 128 on is a member
is_member-ascii : (members : List ℕ) (byte : ℕ) → all_ascii members ≡ true → 128 ≤ byte → is_member members byte ≡ false
is_member-ascii [] byte ascii high = refl
is_member-ascii (x ∷ xs) byte ascii high =
    let parts = and_parts (ltb x 128) (all_ascii xs) ascii in
    let low : x < 128 = ltb-true x 128 parts.0 in
    ap₂ ◌||◌ (ne_eqb byte x (omega arith)) (is_member-ascii xs byte parts.1 high)

-- the bit of each upper half
pub record HasBits (bits : List ℕ) : Type 0 where
  pub ascii : (high : ℕ) → high < 8 → get_or bits high 0 ≡ 2 ^ high
  pub others : (high : ℕ) → 8 ≤ high → get_or bits high 0 ≡ 0

some_bit : (b : Bool) (k : ℕ) → 0 < k → not (eqb (bit_of b * k) 0) ≡ b
some_bit true k pos = ap not (ne_eqb (1 * k) 0 (omega arith))
some_bit false k pos = ap not (eq-eqb (0 * k) 0 (omega arith))

-- a byte is a member where its row has its bit
pub hit-is_member : (members rows bits : List ℕ) (byte low high : ℕ) → IsReady members rows → HasBits bits → byte < 256 → low ≡ byte % 16
    → high ≡ byte / 16
    → not (eqb (bit_and (get_or rows low 0) (get_or bits high 0)) 0) ≡ is_member members byte
hit-is_member members rows bits byte low high ready are fits low_is high_is =
    let row = get_or rows low 0 in elim (cases_lt byte 128) [
      | inl ascii ↦
          let same : 16 * high + low ≡ byte = omega arith in
          let bit : bit_at row high ≡ bit_of (is_member members byte) = ready.rows_are.bits low high (omega arith) (omega arith)
          ∙ ap (λ x. bit_of (is_member members x)) same in
          ap (λ k. not (eqb k 0)) (ap (bit_and row) (are.ascii high (omega arith)) ∙ and_pow row high ∙ ap (λ k. k * 2 ^ high) bit)
          ∙ some_bit (is_member members byte) (2 ^ high) (pow_pos high)
      | inr past ↦
          let none : bit_and row 0 ≡ 0 = omega (arith, and_le_r row 0) in
          ap (λ k. not (eqb k 0)) (ap (bit_and row) (are.others high (omega arith)) ∙ none)
          ∙ sym (is_member-ascii members byte ready.ascii past)
    ]

-- the lanes whose row has their bit are those that are members
pub flags-is_member : (members rows bits lanes : List ℕ) {low high found : List ℕ} → IsReady members rows → HasBits bits
    → Each1 (Fits w8) lanes
    → low ≡ map (λ lane. get_or rows (lane % 16) 0) lanes → high ≡ map (λ lane. get_or bits (lane / 16) 0) lanes
    → found ≡ flags (λ lane. not (eqb lane 0)) (zip2 bit_and low high)
    → found ≡ flags (is_member members) lanes
flags-is_member members rows bits lanes ready are fits low_is high_is is = is
    ∙ ap (flags (λ lane. not (eqb lane 0))) (zip2_of_maps bit_and _ _ lanes low_is high_is) ∙ each lanes fits
  where
    each : (xs : List ℕ) → Each1 (Fits w8) xs
        → flags (λ lane. not (eqb lane 0)) (map (λ x. bit_and (get_or rows (x % 16) 0) (get_or bits (x / 16) 0)) xs)
        ≡ flags (is_member members) xs
    each [] fit = refl
    each (x ∷ xs) fit = ap₂ (λ b rest. flag b ∷ rest) (hit-is_member members rows bits x (x % 16) (x / 16) ready are fit.0.fits refl refl)
        (each xs fit.1)
