-- How far two times are apart, by whole nanoseconds and what is left.
use Rattle.std.proofs.Common.{◌≡◌, ℕ, zero, suc, ◌+◌, ◌*◌, ◌/◌, ◌%◌, ◌<◌, ◌≤◌, ◌⊎◌, inl, inr, Bool, true, false, ℤ, pos, negsuc, ◌+ℤ◌}
use Rattle.std.proofs.Common.{◌-ℤ◌, ◌*ℤ◌, ◌<ℤ◌, ◌≤ℤ◌}
use Rattle.std.proofs.{Common.{refl, sym, ◌∙◌, ap, arith}, lemmas.{Int.{by_lt_z, ints}, Bool.cases_lt, Bool.Decides.nat_tests}}
use Rattle.std.proofs.lemmas.Bool.Decides.{Decides-and, Decides-int_eq, Decides-ltb, Decides-or}
use Rattle.std.proofs.Math.Nat.{mod-add-div, mul-lt-mul_of_pos_right}
use Rattle.std.specs.{Int.{div_ceil, int_div_euclid, int_rem_euclid}}
use Rattle.std.specs.{Prelude.{◌&&◌, ◌||◌, min, unsigned_abs, if◌then◌else◌, int_lt, nat_lt}}
use Rattle.std.specs.{Bool.Decides, Ordering.int_eq}
use borrow.Author.Differences.{up, down}
use Rattle.exact_time.specs.Time.{Time, before}
use Rattle.differences.specs.Rounded as spec
use Rattle.differences.specs.{declared.rounded.Rounded.Rounded, Sizes.size_of}

pub euclid : (n : ℤ) (d : ℕ) → 0 < d → int_div_euclid n (pos d) *ℤ pos d +ℤ int_rem_euclid n (pos d) ≡ n
euclid (pos a) d some = omega (arith, ints, mod-add-div a d)
euclid (negsuc a) d some = omega (arith, ints, mod-add-div a d)

-- q * d + r, rounded up to whole ones
rounded_up : (d q r k : ℕ) → r < d → q * d + r ≤ k * d → k * d < q * d + r + d → q + min 1 r ≡ k
rounded_up d zero r zero below enough least = omega arith
rounded_up d zero r (suc zero) below enough least = omega arith
rounded_up d zero r (suc (suc k)) below enough least = absurd (omega arith)
rounded_up d (suc q) r zero below enough least = absurd (omega arith)
rounded_up d (suc q) r (suc k) below enough least = omega (arith, rounded_up d q r k below (omega arith) (omega arith))

div_ceil_is : (n d k : ℕ) → n ≤ k * d → k * d < n + d → div_ceil n d ≡ k
div_ceil_is n d k enough least =
    let parts : n % d + d * (n / d) ≡ n = mod-add-div n d in
    rounded_up d (n / d) (n % d) k (omega arith) (omega arith) (omega arith)

by_rest : (n p d a b : ℕ) → a < p → b < p → n + b ≡ d * p + a → (more : Bool) → nat_lt b a ≡ more
    → div_ceil n p ≡ d + (if more then 1 else 0)
by_rest n p d a b below_a below_b is true more =
    let above : b < a = grind (arith, nat_tests) in
    div_ceil_is n p (d + 1) (omega arith) (omega arith)
by_rest n p d a b below_a below_b is false more =
    let not_above : a ≤ b = grind (arith, nat_tests) in
    div_ceil_is n p d (omega arith) (omega arith) ∙ omega arith

-- whole numbers with what is left of each: the first is at most the second
pub record AreOrdered (w v : ℤ) (a b : ℕ) : Type 0 where
  pub wholes : w ≤ℤ v
  pub rests : v ≤ℤ w → a ≤ b

-- the first is below the second
pub record IsLater (w v : ℤ) (a b : ℕ) : Type 0 where
  pub wholes : w ≤ℤ v
  pub rests : v ≤ℤ w → a < b

ordered : {w v : ℤ} {a b : ℕ} → IsLater w v a b → AreOrdered w v a b
ordered later = record { wholes = later.wholes; rests = λ back. let e = later.rests back in omega arith }

-- by how many units of the common scale, of which p make a nanosecond, the second is later
module _ (x y l u p a b : ℕ) (is : y * 1000000000 + l * p + a ≡ x * 1000000000 + u * p + b) where
  by_wholes : (d : ℕ) → u ≡ l + d → x * 1000000000 + d * p + b ≡ y * 1000000000 + a
  by_wholes d more = omega (arith, ap (λ n. n * p) more)

  not_before : (d : ℕ) → u ≡ l + d → a < p → (d ≡ 0 → a ≤ b) → x ≤ y
  not_before zero more below rests = omega (arith, by_wholes 0 more)
  not_before (suc d) more below rests = omega (arith, by_wholes (suc d) more)

  strictly : (d : ℕ) → u ≡ l + d → a < p → (d ≡ 0 → a < b) → x < y
  strictly zero more below rests = omega (arith, by_wholes 0 more)
  strictly (suc d) more below rests = omega (arith, by_wholes (suc d) more)

module _ (tx ty w v : ℤ) (p q r s : ℕ) (below_r : r < p) (below_s : s < q) (is_x : tx *ℤ pos 1000000000 ≡ w *ℤ pos p +ℤ pos r)
    (is_y : ty *ℤ pos 1000000000 ≡ v *ℤ pos q +ℤ pos s) where
  abbrev x : ℕ
  x = up tx * q + down ty * p

  abbrev y : ℕ
  y = down tx * q + up ty * p

  parts : y * 1000000000 + (up w + down v) * (p * q) + r * q ≡ x * 1000000000 + (down w + up v) * (p * q) + s * p
  parts =
      let nx : up tx * 1000000000 + down w * p ≡ down tx * 1000000000 + up w * p + r = omega (arith, ints, is_x) in
      let ny : up ty * 1000000000 + down v * q ≡ down ty * 1000000000 + up v * q + s = omega (arith, ints, is_y) in
      omega (arith, ap (λ n. n * q) nx, ap (λ n. n * p) ny)

  rest_below : r * q < p * q
  rest_below = mul-lt-mul_of_pos_right below_r (omega arith)

  other_below : s * p < p * q
  other_below = let e : s * p < q * p = mul-lt-mul_of_pos_right below_s (omega arith) in omega (arith, e)

  whole : w ≤ℤ v → down w + up v ≡ up w + down v + unsigned_abs (w -ℤ v)
  whole below = omega (arith, ints, below)

  at_most : AreOrdered w v (r * q) (s * p) → x ≤ y
  at_most ordered = not_before x y (up w + down v) (down w + up v) (p * q) (r * q) (s * p) parts (unsigned_abs (w -ℤ v))
      (whole ordered.wholes) rest_below (λ none. ordered.rests (omega (arith, ints, ordered.wholes, none)))

  is_less : IsLater w v (r * q) (s * p) → x < y
  is_less later = strictly x y (up w + down v) (down w + up v) (p * q) (r * q) (s * p) parts (unsigned_abs (w -ℤ v))
      (whole later.wholes) rest_below (λ none. later.rests (omega (arith, ints, later.wholes, none)))

  is_before : IsLater w v (r * q) (s * p) → int_lt (tx *ℤ pos q) (ty *ℤ pos p) ≡ true
  is_before later = let e : x < y = is_less later in let z : (tx *ℤ pos q) <ℤ (ty *ℤ pos p) = omega (arith, ints, e) in grind (arith, ints)

  is_not_before : AreOrdered w v (r * q) (s * p) → int_lt (ty *ℤ pos p) (tx *ℤ pos q) ≡ false
  is_not_before at = let e : x ≤ y = at_most at in let z : (tx *ℤ pos q) ≤ℤ (ty *ℤ pos p) = omega (arith, ints, e) in grind (arith, ints)

  later_size : AreOrdered w v (r * q) (s * p)
      → div_ceil (unsigned_abs (tx *ℤ pos q -ℤ ty *ℤ pos p) * 1000000000) (p * q)
      ≡ unsigned_abs (w -ℤ v) + (if nat_lt (r * q) (s * p) then 1 else 0)
  later_size ordered =
      let n : unsigned_abs (tx *ℤ pos q -ℤ ty *ℤ pos p) + x ≡ y = omega (arith, ints, at_most ordered) in
      let e = by_wholes x y (up w + down v) (down w + up v) (p * q) (r * q) (s * p) parts (unsigned_abs (w -ℤ v)) (whole ordered.wholes) in
      by_rest (unsigned_abs (tx *ℤ pos q -ℤ ty *ℤ pos p) * 1000000000) (p * q) (unsigned_abs (w -ℤ v)) (s * p) (r * q)
      other_below rest_below (omega (arith, e, n)) (nat_lt (r * q) (s * p)) refl

swapped : (z u : ℤ) → unsigned_abs (z -ℤ u) ≡ unsigned_abs (u -ℤ z)
swapped z u = omega (arith, ints)

-- ---- the tests

Decides-int_lt : (w v : ℤ) → Decides (int_lt w v) (w <ℤ v)
Decides-int_lt w v = (λ e. grind (arith, ints), λ h. grind (arith, ints))

Decides-before : (w v : ℤ) (a b : ℕ) → Decides (int_lt w v || int_eq w v && nat_lt a b) ((w <ℤ v) ⊎ ((w ≡ v) × (a < b)))
Decides-before w v a b = Decides-or _ _ (Decides-int_lt w v) (Decides-and _ _ (Decides-int_eq w v) (Decides-ltb a b))

later_by : (w v : ℤ) (a b : ℕ) → (w <ℤ v) ⊎ ((w ≡ v) × (a < b)) → IsLater w v a b
later_by w v a b (inl h) = record { wholes = omega (arith, ints, h); rests = λ back. absurd (omega (arith, ints, h, back)) }
later_by w v a b (inr h) = record { wholes = omega (arith, ints, h.0); rests = λ back. h.1 }

ordered_by : (w v : ℤ) (a b : ℕ) → ((w <ℤ v) ⊎ ((w ≡ v) × (a < b)) → ⊥) → AreOrdered v w b a
ordered_by w v a b none =
    let wholes : v ≤ℤ w = by_lt_z w v (λ h. absurd (none (inl h))) (λ h. h) in
    record {
      wholes = wholes;
      rests = λ back. elim (cases_lt a b) as (λ _. b ≤ a) [
        | inl h ↦ absurd (none (inr (omega (arith, ints, wholes, back), h)))
        | inr h ↦ h
      ];
    }

module _ (x y : Time) (a b : Rounded) (is_x : x.ticks *ℤ pos 1000000000 ≡ a.whole *ℤ pos a.scale +ℤ pos a.rest)
    (scale_x : a.scale ≡ x.scale) (is_y : y.ticks *ℤ pos 1000000000 ≡ b.whole *ℤ pos b.scale +ℤ pos b.rest)
    (scale_y : b.scale ≡ y.scale) where
  later : spec.is_before a b ≡ true → IsLater a.whole b.whole (a.rest * b.scale) (b.rest * a.scale)
  later is = later_by _ _ _ _ ((Decides-before a.whole b.whole (a.rest * b.scale) (b.rest * a.scale)).0 is)

  not_later : spec.is_before a b ≡ false → AreOrdered b.whole a.whole (b.rest * a.scale) (a.rest * b.scale)
  not_later is = ordered_by _ _ _ _ (λ p. let e = (Decides-before a.whole b.whole (a.rest * b.scale) (b.rest * a.scale)).1 p in absurd (cc))

  pub before_is : spec.is_before a b ≡ true → before x y ≡ true
  before_is is = rw (← scale_x, ← scale_y)
      (is_before x.ticks y.ticks a.whole b.whole a.scale b.scale a.rest b.rest a.below b.below is_x is_y (later is))

  pub not_before_is : spec.is_before a b ≡ false → before x y ≡ false
  not_before_is is = rw (← scale_x, ← scale_y)
      (is_not_before y.ticks x.ticks b.whole a.whole b.scale a.scale b.rest a.rest b.below a.below is_y is_x (not_later is))

  pub size_before : spec.is_before a b ≡ true → spec.until a b ≡ size_of x y
  unfolding size_of
  size_before is = rw (← scale_x, ← scale_y)
      (sym (later_size x.ticks y.ticks a.whole b.whole a.scale b.scale a.rest b.rest a.below b.below is_x is_y (ordered (later is))))

  pub size_not_before : spec.is_before a b ≡ false → spec.until b a ≡ size_of x y
  unfolding size_of
  size_not_before is = rw (← scale_x, ← scale_y)
      (sym (later_size y.ticks x.ticks b.whole a.whole b.scale a.scale b.rest a.rest b.below a.below is_y is_x (not_later is))
      ∙ ap (λ n. div_ceil (n * 1000000000) (b.scale * a.scale)) (swapped (y.ticks *ℤ pos a.scale) (x.ticks *ℤ pos b.scale))
      ∙ ap (λ n. div_ceil (unsigned_abs (x.ticks *ℤ pos b.scale -ℤ y.ticks *ℤ pos a.scale) * 1000000000) n) (omega arith))
