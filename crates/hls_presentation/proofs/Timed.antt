-- Segments that last some time, one after another, have times.
use Rattle.std.proofs.Common.{◌≡◌, ℕ, ◌+◌, ◌-◌, ◌*◌, ◌/◌, ◌%◌, ◌^◌, ◌<◌, ◌≤◌, ℤ, pos, ◌*ℤ◌, ◌-ℤ◌, ◌≤ℤ◌, ◌<ℤ◌, Bool, false, ◌||◌, Some, refl}
use Rattle.std.proofs.{Common.{◌∙◌, ap, arith}, Math.Nat.{div-one, mul-le-mul_left}, lemmas.Bool.Decides.nat_tests, lemmas.Int.ints}
use Rattle.std.specs.Prelude.{int_le, int_lt, unsigned_abs}
use Rattle.timeline.specs.{Expansions.Extent, Faults.{is_apart, lasts_no_time}, Limits.span_breaks_limits}

not_at_most : (a b : ℤ) → b <ℤ a → int_le a b ≡ false
not_at_most a b h = grind (arith, ints, nat_tests)

not_before : (a b : ℤ) → b ≤ℤ a → int_lt a b ≡ false
not_before a b h = grind (arith, ints, nat_tests)

-- from one count of ticks to another
abbrev pub extent_by : (scale p q : ℕ) → Extent
extent_by scale p q = record { start = record { ticks = pos p; scale = scale }; end = record { ticks = pos q; scale = scale } }

pub record IsFit (scale p q : ℕ) : Type 0 where
  pub some : 0 < scale
  pub rising : p < q
  pub short : q ≤ p + 1000000 * scale
  pub small : q < 2 ^ 63
  pub near : q ≤ 100000000000 * scale

-- a segment that may stand there
pub record IsSet (x : Extent) : Type 0 where
  pub lasting : lasts_no_time x ≡ false
  pub kept : span_breaks_limits x ≡ false
  pub next : is_apart (Some x.start) x ≡ false

not_over : (a b c : Bool) → a ≡ false → b ≡ false → c ≡ false → (a || b || c) ≡ false
not_over a b c one two three = rw (one, two, three) refl

-- no gap is more than half of what follows
apart : (n m k : ℕ) → n ≤ m → int_lt ((pos m -ℤ pos n) *ℤ pos k) (pos (2 * unsigned_abs (pos n -ℤ pos n)) *ℤ pos k) ≡ false
apart n m k h =
    let none : pos n -ℤ pos n ≡ pos 0 = omega (arith, ints) in
    let rest : pos m -ℤ pos n ≡ pos (m - n) = omega (arith, ints, h) in
    ap (λ z. int_lt ((pos m -ℤ pos n) *ℤ pos k) (pos (2 * unsigned_abs z) *ℤ pos k)) none
    ∙ ap (λ z. int_lt (z *ℤ pos k) (pos 0 *ℤ pos k)) rest
    ∙ not_before (pos (m - n) *ℤ pos k) (pos 0 *ℤ pos k) (omega (arith, ints))

pub set : (scale p q : ℕ) → IsFit scale p q → IsSet (extent_by scale p q)
set scale p q fit =
    let rising : p + 1 ≤ q = omega (arith, fit.rising) in
    let small : q + 1 ≤ 2 ^ 63 = omega (arith, fit.small) in
    let later : (pos p *ℤ pos scale) <ℤ (pos q *ℤ pos scale) = omega (arith, ints, mul-le-mul_left scale rising, fit.some) in
    let end : (pos q *ℤ pos scale) <ℤ ((pos (2 ^ 63) -ℤ pos 0) *ℤ pos scale) = omega (arith, ints, mul-le-mul_left scale small, fit.some) in
    let short : ((pos q *ℤ pos scale -ℤ pos p *ℤ pos scale) *ℤ pos 1) ≤ℤ (pos 1000000 *ℤ pos (scale * scale)) =
    omega (arith, ints, mul-le-mul_left scale fit.short) in
    let near : (pos q *ℤ pos 1) ≤ℤ (pos 100000000000 *ℤ pos scale) = omega (arith, ints, fit.near) in
    record {
      lasting = not_at_most (pos q *ℤ pos scale) (pos p *ℤ pos scale) later;
      kept = not_over _ _ _ (not_at_most ((pos (2 ^ 63) -ℤ pos 0) *ℤ pos scale) (pos q *ℤ pos scale) end)
          (not_before (pos 1000000 *ℤ pos (scale * scale)) ((pos q *ℤ pos scale -ℤ pos p *ℤ pos scale) *ℤ pos 1) short)
          (not_before (pos 100000000000 *ℤ pos scale) (pos q *ℤ pos 1) near);
      next = apart (p * scale) (q * scale) (scale * scale) (omega (arith, mul-le-mul_left scale rising));
    }

pub fit_micros : (a d : ℕ) → 0 < d → d ≤ 10 ^ 15 → d % 1000 ≡ 0 → a + d < 2 ^ 63 → IsFit 1000000 (a / 1000) ((a + d) / 1000)
fit_micros a d some short whole small = record {
  some = omega arith;
  rising = omega arith;
  short = omega arith;
  small = omega arith;
  near = omega arith;
}

pub fit_nanos : (a d : ℕ) → 0 < d → d ≤ 10 ^ 15 → a + d < 2 ^ 63 → IsFit 1000000000 (a / 1) ((a + d) / 1)
fit_nanos a d some short small = rw (div-one a, div-one (a + d)) (record {
  some = omega arith;
  rising = omega arith;
  short = omega arith;
  small = omega arith;
  near = omega arith;
})
