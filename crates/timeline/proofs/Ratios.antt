-- How often one time fits into another: floors and ceilings, by cross products.
use Rattle.std.proofs.Common.{◌≡◌, ℕ, zero, suc, ◌+◌, ◌-◌, ◌*◌, ◌/◌, ◌<◌, ◌≤◌, true, false, leb, ℤ, pos, negsuc, ◌+ℤ◌, ◌*ℤ◌, ◌≤ℤ◌, ◌<ℤ◌}
use Rattle.std.proofs.{Common.{neg_ℤ, refl, ◌∙◌, sym, ap, arith}, lemmas.Int.ints, lemmas.Nat.{le-div, div_below}}
use Rattle.std.proofs.{lemmas.Bool.Decides.nat_tests, Math.Dec.leb-suc-suc, Math.Nat.{div-mul-le_self, mul-le-mul_left}}
use Rattle.std.proofs.Math.Nat.{le_of_mul-le-mul_left, le_antisymm, one-le-mul}
use Rattle.std.specs.{Prelude.int_le, Int.int_div_euclid}
use borrow.Author.Differences.{up, down}
use Rattle.exact_time.specs.{Time.{Time, at_most}, Floor.IsCeiling}
use Rattle.timeline.specs.Ratios.{natural, steps_within, steps_to_cover}

-- ---- quotients

-- a quotient is what its two bounds say
pub quotient-is : (n d q : ℕ) → q * d ≤ n → n < (q + 1) * d → n / d ≡ q
quotient-is n d q low high = grind (arith, div_below, le-div)

pub quotient-low : (n d : ℕ) → n / d * d ≤ n
quotient-low n d = div-mul-le_self n d

pub quotient-high : (n d : ℕ) → 0 < d → n < (n / d + 1) * d
quotient-high n d some = grind (arith, le-div)

-- a factor of both cancels
pub quotient-cancel : (n d m : ℕ) → 0 < m → 0 < d → (n * m) / (d * m) ≡ n / d
quotient-cancel n d m some whole = quotient-is (n * m) (d * m) (n / d) (omega (arith, mul-le-mul_left m (quotient-low n d)))
    (let h : n + 1 ≤ (n / d + 1) * d = omega (arith, quotient-high n d whole) in omega (arith, mul-le-mul_left m h))

-- ---- steps within a length

pub steps_within-is : (l s : Time) (n d m : ℕ) → 0 < m → 0 < d → natural l.ticks * s.scale ≡ n * m → l.scale * natural s.ticks ≡ d * m
    → steps_within l s ≡ n / d
unfolding steps_within
steps_within-is l s n d m some whole above below = rw (above, below) (quotient-cancel n d m some whole)

-- ---- steps that cover a length

-- the ceiling of n/d
abbrev pub ceiling : ℕ → ℕ → ℕ
ceiling n d = (n + (d - 1)) / d

pub ceiling-le : (n d k : ℕ) → 0 < d → n ≤ k * d → ceiling n d ≤ k
ceiling-le n d k some within = let h : (n + (d - 1)) / d < k + 1 = div_below (n + (d - 1)) d (k + 1) some (omega arith) in omega arith

pub ceiling-enough : (n d : ℕ) → 0 < d → n ≤ ceiling n d * d
ceiling-enough n d some = omega (arith, quotient-high (n + (d - 1)) d some)

-- k steps that are enough, and the least so many, are the ceiling
pub ceiling-is : (n d k : ℕ) → 0 < d → IsCeiling n d k → ceiling n d ≡ k
ceiling-is n d k some is = le_antisymm (ceiling-le n d k some is.enough) (is.least (ceiling n d) (ceiling-enough n d some))

pub ceiling-cancel : (n d m : ℕ) → 0 < m → 0 < d → ceiling (n * m) (d * m) ≡ ceiling n d
ceiling-cancel n d m some whole = le_antisymm
    (ceiling-le (n * m) (d * m) (ceiling n d) (one-le-mul whole some) (omega (arith, mul-le-mul_left m (ceiling-enough n d whole))))
    (ceiling-le n d (ceiling (n * m) (d * m)) whole
    (le_of_mul-le-mul_left {k = m} (omega (arith, ceiling-enough (n * m) (d * m) (one-le-mul whole some))) some))

pub steps_to_cover-is : (l s : Time) (n d m : ℕ) → 0 < m → 0 < d → natural l.ticks * s.scale ≡ n * m → l.scale * natural s.ticks ≡ d * m
    → steps_to_cover l s ≡ ceiling n d
unfolding steps_to_cover
steps_to_cover-is l s n d m some whole above below = rw (above, below) (ceiling-cancel n d m some whole)

-- ---- a time in ticks of a scale, rounded down

abbrev pub floor_ticks : Time → ℕ → ℤ
floor_ticks t scale = int_div_euclid (t.ticks *ℤ pos scale) (pos t.scale)

leb-div : (a b u : ℕ) → 0 < u → leb (a * u) b ≡ leb a (b / u)
leb-div a b u some = grind (arith, nat_tests, div_below b u a some, le-div a b u some)

div-leb : (a b u : ℕ) → 0 < u → leb (suc b) (suc a * u) ≡ leb (b / u) a
div-leb a b u some = grind (arith, nat_tests, div_below b u (suc a) some, le-div (suc a) b u some)

-- a negative number
negated : (n : ℕ) → 0 < n → (m : ℕ) × (neg_ℤ (pos n) ≡ negsuc m)
negated zero some = absurd (omega arith)
negated (suc n) some = (n, refl)

le_negated : (n b : ℕ) → 0 < n → int_le (neg_ℤ (pos n)) (negsuc b) ≡ leb (suc b) n
le_negated zero b some = absurd (omega arith)
le_negated (suc n) b some = sym (leb-suc-suc b n)

floor-le : (e n : ℤ) (u : ℕ) → 0 < u → int_le (e *ℤ pos u) n ≡ int_le e (int_div_euclid n (pos u))
floor-le (pos a) (pos b) u some = leb-div a b u some
floor-le (pos a) (negsuc b) u some = refl
floor-le (negsuc a) (pos b) u some = ap (λ (z : ℤ). int_le z (pos b)) (negated (suc a * u) (one-le-mul (omega arith) some)).1
floor-le (negsuc a) (negsuc b) u some = le_negated (suc a * u) b (one-le-mul (omega arith) some) ∙ div-leb a b u some

pub at_most-floor : (e : ℤ) (scale : ℕ) (t : Time) → 0 < t.scale → at_most (record { ticks = e; scale = scale }) t
    ≡ int_le e (floor_ticks t scale)
at_most-floor e scale t some = floor-le e (t.ticks *ℤ pos scale) t.scale some

-- ---- tests on whole numbers

pub int_le-true : (a b : ℤ) → int_le a b ≡ true → a ≤ℤ b
int_le-true a b h = grind (arith, ints, nat_tests)

pub int_le-false : (a b : ℤ) → int_le a b ≡ false → b <ℤ a
int_le-false a b h = grind (arith, ints, nat_tests)

pub int_le-from : (a b : ℤ) → a ≤ℤ b → int_le a b ≡ true
int_le-from a b h = grind (arith, ints, nat_tests)

pub not_int_le-from : (a b : ℤ) → b <ℤ a → int_le a b ≡ false
not_int_le-from a b h = grind (arith, ints, nat_tests)

-- ---- products

pub int_add-mul : (a : ℤ) (n u : ℕ) → (a +ℤ pos n) *ℤ pos u ≡ a *ℤ pos u +ℤ pos (n * u)
int_add-mul a n u =
    let sum : up (a +ℤ pos n) + down a ≡ down (a +ℤ pos n) + up a + n = omega (arith, ints) in
    omega (arith, ints, ap (λ (m : ℕ). m * u) sum)

pub int_le-mul : (a b : ℤ) (u : ℕ) → a ≤ℤ b → (a *ℤ pos u) ≤ℤ (b *ℤ pos u)
int_le-mul a b u h =
    let flat : up a + down b ≤ down a + up b = omega (arith, ints) in
    omega (arith, ints, mul-le-mul_left u flat)

-- ---- the floor is at most the time, and less than a tick below it

pub floor-low : (t : Time) (scale : ℕ) → 0 < t.scale → (floor_ticks t scale *ℤ pos t.scale) ≤ℤ (t.ticks *ℤ pos scale)
floor-low t scale some = let f = floor_ticks t scale in
    int_le-true (f *ℤ pos t.scale) (t.ticks *ℤ pos scale) (grind (arith, ints, nat_tests, floor-le f (t.ticks *ℤ pos scale) t.scale some))

pub floor-high : (t : Time) (scale : ℕ) → 0 < t.scale → (t.ticks *ℤ pos scale) <ℤ ((floor_ticks t scale +ℤ pos 1) *ℤ pos t.scale)
floor-high t scale some = let f = floor_ticks t scale in
    int_le-false ((f +ℤ pos 1) *ℤ pos t.scale) (t.ticks *ℤ pos scale)
    (floor-le (f +ℤ pos 1) (t.ticks *ℤ pos scale) t.scale some ∙ not_int_le-from (f +ℤ pos 1) f (omega (arith, ints)))
