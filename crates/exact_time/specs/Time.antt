-- Times as exact fractions of a second, compared by cross products.
use Rattle.std.specs.{Ordering.int_cmp, declared.cmp.Ordering.Ordering, Prelude.{◌≡◌, ℕ, ◌*◌, ◌<◌, ℤ, pos, ◌*ℤ◌, ◌-ℤ◌, ◌≤ℤ◌, ◌<ℤ◌, Bool}}
use Rattle.std.specs.Prelude.{int_lt, int_le, List, [], ◌∷◌}

-- ticks / scale seconds
pub record Time : Type 0 where
  pub ticks : ℤ
  pub scale : ℕ

-- only a scale above 0 makes a fraction
abbrev pub IsTime : Time → Type 0
IsTime x = 0 < x.scale

abbrev pub IsNotNegative : Time → Type 0
IsNotNegative x = pos 0 ≤ℤ x.ticks

-- over the common scale x.scale * y.scale, x has the numerator cross x y, and y has cross y x
abbrev pub cross : Time → Time → ℤ
cross x y = x.ticks *ℤ pos y.scale

-- 1/2 and 2/4 are the same time
abbrev pub IsSame : Time → Time → Type 0
IsSame x y = cross x y ≡ cross y x

-- the same times, in lists
abbrev pub AreSame : List Time → List Time → Type 0
AreSame [] [] = Unit {0}
AreSame (x ∷ xs) (y ∷ ys) = IsSame x y × AreSame xs ys
AreSame xs ys = ⊥

abbrev pub IsBefore : Time → Time → Type 0
IsBefore x y = cross x y <ℤ cross y x

abbrev pub IsAtMost : Time → Time → Type 0
IsAtMost x y = cross x y ≤ℤ cross y x

-- is x before y?
abbrev pub before : Time → Time → Bool
before x y = int_lt (cross x y) (cross y x)

-- is x at or before y?
abbrev pub at_most : Time → Time → Bool
at_most x y = int_le (cross x y) (cross y x)

-- each time is after the one before it
abbrev pub AreRising : List Time → Type 0
AreRising [] = Unit {0}
AreRising (x ∷ []) = Unit {0}
AreRising (x ∷ y ∷ ys) = IsBefore x y × AreRising (y ∷ ys)

-- `Less`, `Equal` or `Greater`, as x is before y, the same, or after it
abbrev pub time_cmp : Time → Time → Ordering
time_cmp x y = int_cmp (cross x y) (cross y x)

-- x - y
abbrev pub difference : Time → Time → Time
difference x y = record { ticks = cross x y -ℤ cross y x; scale = x.scale * y.scale }

-- a whole number of units, of which u make a second: count / u seconds
abbrev pub in_units : ℕ → ℕ → Time
in_units u count = record { ticks = pos count; scale = u }

abbrev pub seconds : ℕ → Time
seconds count = in_units 1 count

abbrev pub nanoseconds : ℤ → Time
nanoseconds count = record { ticks = count; scale = 1000000000 }
