-- Times have a total order, and so have ticks: the law that `Ord` requires, whose proof has to be in this file.
use Rattle.std.specs.{Prelude.{◌≡◌, ◌⊎◌, ℕ, ◌+◌, ◌*◌, ◌≤◌}, Cmp.{IsTotalOrder, int_cmp_total, int_cmp_is, int_ranks}}
use Rattle.std.specs.{Ordering.MatchOrdering, declared.cmp.Ordering.Ordering, declared.cmp.Ordering.TheVariants.{Less, Equal, Greater}}
use Rattle.std.proofs.{Common.{inl, inr, sym, subst, arith}, lemmas.Int.{ints, by_lt_z}, Math.Nat.{mul-le-mul_left, le_of_mul-le-mul_left}}
use borrow.Author.Differences.{up, down}
use Rattle.exact_time.specs.{Time.{Time, IsTime, IsSame, IsBefore, IsAtMost, cross, time_cmp}, Tick.{tick_cmp, time_of}}

-- x - y is share x y - share y x, over x.scale * y.scale
abbrev pub share : Time → Time → ℕ
share x y = up x.ticks * y.scale + down y.ticks * x.scale

pub share_le_out : (x y : Time) → IsAtMost x y → share x y ≤ share y x
share_le_out x y h = omega (arith, ints)

pub share_le_in : (x y : Time) → share x y ≤ share y x → IsAtMost x y
share_le_in x y h = omega (arith, ints)

pub IsAtMost-trans : (x y z : Time) → IsTime y → IsAtMost x y → IsAtMost y z → IsAtMost x z
IsAtMost-trans x y z positive h k = share_le_in x z (le_of_mul-le-mul_left {k = y.scale} (omega (
  arith,
  mul-le-mul_left z.scale (share_le_out x y h),
  mul-le-mul_left x.scale (share_le_out y z k),
)) positive)

pub before_or_at_most : (x y : Time) → IsBefore x y ⊎ IsAtMost y x
before_or_at_most x y = by_lt_z (cross x y) (cross y x) inl inr

pub IsAtMost-from_before : (x y : Time) → IsBefore x y → IsAtMost x y
IsAtMost-from_before x y h = omega (arith, ints)

-- a strict step first, or last, makes the whole strict
pub before_then_at_most : (x y z : Time) → IsTime z → IsBefore x y → IsAtMost y z → IsBefore x z
before_then_at_most x y z positive h k = elim (before_or_at_most x z) [
  | inl before ↦ before
  | inr back ↦
      absurd (omega (arith, ints, IsAtMost-trans y z x positive k back))
]

pub at_most_then_before : (x y z : Time) → IsTime x → IsAtMost x y → IsBefore y z → IsBefore x z
at_most_then_before x y z positive h k = elim (before_or_at_most x z) [
  | inl before ↦ before
  | inr back ↦
      absurd (omega (arith, ints, IsAtMost-trans z x y positive back h))
]

-- ---- equal times

pub same_from_both : (x y : Time) → IsAtMost x y → IsAtMost y x → IsSame x y
same_from_both x y h k = omega (arith, ints)

pub same_is_at_most : (x y : Time) → IsSame x y → IsAtMost x y
same_is_at_most x y same = omega (arith, ints)

pub same_is_at_least : (x y : Time) → IsSame x y → IsAtMost y x
same_is_at_least x y same = omega (arith, ints)

-- ---- `cmp`

-- what an `Ordering` says of two times
abbrev Says : Ordering → Time → Time → Type 0
Says o x y = MatchOrdering o (IsBefore x y) (IsSame x y) (IsBefore y x)

said : (o : Ordering) (x y : Time) → time_cmp x y ≡ o → Says o x y
said o x y e = subst (λ (r : Ordering). Says r x y) e (int_ranks (cross x y) (cross y x))

pub time_cmp_is : (o : Ordering) (x y : Time) → Says o x y → o ≡ time_cmp x y
time_cmp_is o x y h = int_cmp_is (cross x y) (cross y x) o h

-- equal times compare alike
moved : (x y z : Time) → IsTime x → IsTime y → IsSame x y → (o : Ordering) → Says o y z → Says o x z
moved x y z is_x is_y same Less h = at_most_then_before x y z is_x (same_is_at_most x y same) h
moved x y z is_x is_y same Equal h = same_from_both x z
    (IsAtMost-trans x y z is_y (same_is_at_most x y same) (same_is_at_most y z h))
    (IsAtMost-trans z y x is_y (same_is_at_least y z h) (same_is_at_least x y same))
moved x y z is_x is_y same Greater h = before_then_at_most z y x is_x h (same_is_at_least x y same)

pub tick_cmp_total : IsTotalOrder tick_cmp
tick_cmp_total = record {
  antisymm = λ a b. int_cmp_total.antisymm (cross (time_of a) (time_of b)) (cross (time_of b) (time_of a));
  trans = λ a b c p q. sym (time_cmp_is Less (time_of a) (time_of c)
      (before_then_at_most (time_of a) (time_of b) (time_of c) c.positive (said Less (time_of a) (time_of b) p)
      (IsAtMost-from_before (time_of b) (time_of c) (said Less (time_of b) (time_of c) q))));
  congr = λ a b c p. sym (time_cmp_is (tick_cmp b c) (time_of a) (time_of c)
      (moved (time_of a) (time_of b) (time_of c) a.positive b.positive (said Equal (time_of a) (time_of b) p) (tick_cmp b c)
      (int_ranks (cross (time_of b) (time_of c)) (cross (time_of c) (time_of b)))));
}
