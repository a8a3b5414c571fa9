-- Laws of times, floors and printed durations.
use Rattle.std.specs.Prelude.{◌≡◌, ◌↔◌, ◌⊎◌, ℕ, ◌+◌, ◌*◌, ◌<◌, true, List, [], ◌∷◌, ◌++◌, Some, slice_get, sum, take}
use Rattle.exact_time.specs.Time.{Time, IsTime, IsNotNegative, IsSame, AreSame, IsBefore, IsAtMost, before, at_most, difference, in_units}
use Rattle.exact_time.specs.{Time.seconds, Floor.{IsFloorIn, floor_in}, Equal.{ends_after, ticks_after}, Rounding.Rounding}
use Rattle.exact_time.specs.Rounding.{rounding_behind, rounding_from, printed, total, IsRising, AreNear, AreWholeUnits, Calls}

-- the order of times is a total order: transitive, total and antisymmetric
abbrev pub IsTransitive : Type 0
IsTransitive = (x y z : Time) → IsTime y → IsAtMost x y → IsAtMost y z → IsAtMost x z

abbrev pub IsTotal : Type 0
IsTotal = (x y : Time) → IsBefore x y ⊎ IsAtMost y x

abbrev pub IsExclusive : Type 0
IsExclusive = (x y : Time) → IsBefore x y → ¬ IsAtMost y x

abbrev pub IsAntisymmetric : Type 0
IsAntisymmetric = (x y : Time) → IsSame x y ↔ (IsAtMost x y × IsAtMost y x)

-- the tests agree with the order
abbrev pub TestsTell : Type 0
TestsTell = (x y : Time) → ((before x y ≡ true) ↔ IsBefore x y) × ((at_most x y ≡ true) ↔ IsAtMost x y)

-- a non-negative time has one floor
abbrev pub HasOneFloor : Type 0
HasOneFloor = (u : ℕ) (x : Time) (m : ℕ) → IsTime x → IsNotNegative x → IsFloorIn u x m ↔ (m ≡ floor_in u x)

-- whatever the calls of a new `Rounder`, the numbers that it returns are the printed durations
abbrev pub CallsArePrinted : Type 0
CallsArePrinted =
    (first : Time) (unit : ℕ) (ends : List Time) (numbers : List ℕ) (last : Rounding) →
    Calls (rounding_from first unit) ends numbers last → numbers ≡ printed unit first ends

-- and they sum to the floor of the last end
abbrev pub CallsSum : Type 0
CallsSum =
    (first : Time) (unit : ℕ) (ends : List Time) (numbers : List ℕ) (last : Rounding) →
    Calls (rounding_from first unit) ends numbers last → sum numbers ≡ total last

-- and their ends rise, as the other laws require
abbrev pub CallsRise : Type 0
CallsRise =
    (first : Time) (unit : ℕ) (ends : List Time) (numbers : List ℕ) (last : Rounding) →
    Calls (rounding_from first unit) ends numbers last → IsRising first ends

-- A `Rounder` that continues after some ends returns what `printed` gives after them.
abbrev pub CallsGoOn : Type 0
CallsGoOn =
    (first former : Time) (unit : ℕ) (earlier ends : List Time) (numbers : List ℕ) (last : Rounding) →
    Calls (rounding_behind first unit former) ends numbers last →
    printed unit first (earlier ++ former ∷ ends) ≡ printed unit first (earlier ++ former ∷ []) ++ numbers

-- ends that rise, each near the one before it, are accepted in turn
abbrev pub CallsAreAllowed : Type 0
CallsAreAllowed =
    (former end : Time) (ends : List Time) → IsRising former (end ∷ ends) → AreNear former (end ∷ ends) →
    IsAtMost former end × IsAtMost (difference end former) (seconds 2000000) × IsRising end ends × AreNear end ends

-- calls and those that continue after them are calls in turn
abbrev pub CallsJoin : Type 0
CallsJoin =
    (old between new : Rounding) (ends later : List Time) (numbers others : List ℕ) →
    Calls old ends numbers between → Calls between later others new → Calls old (ends ++ later) (numbers ++ others) new

-- The ends of equal segments may be given at once, and the ends of the segments after them in turn.
abbrev pub EqualEndsGoOn : Type 0
EqualEndsGoOn =
    (former : Time) (step count : ℕ) (later : List Time) → let ends = ends_after former step count in let last =
    ticks_after former (count * step) in
    IsRising former (ends ++ later) → AreNear former (ends ++ later) → AreNear former ends × IsRising last later × AreNear last later

-- the printed durations up to the segment that ends at `end` sum to the floor of the time up to it
abbrev pub SumsAreFloors : Type 0
SumsAreFloors =
    (u : ℕ) (s : Time) (ends : List Time) (k : ℕ) (end : Time) →
    IsTime s → IsRising s ends → slice_get ends k ≡ Some end →
    sum (take (k + 1) (printed u s ends)) ≡ floor_in u (difference end s)

-- so they are never above the exact time, and less than one unit below it
abbrev pub SumsStayNear : Type 0
SumsStayNear =
    (u : ℕ) (s : Time) (ends : List Time) (k : ℕ) (end : Time) →
    IsTime s → IsRising s ends → slice_get ends k ≡ Some end →
    let told = sum (take (k + 1) (printed u s ends)) in
    IsAtMost (in_units u told) (difference end s) × IsBefore (difference end s) (in_units u (told + 1))

-- durations of whole units are printed as they are
abbrev pub WholeUnitsStay : Type 0
WholeUnitsStay =
    (u : ℕ) (s : Time) (counts : List ℕ) (ends : List Time) →
    0 < u → IsTime s → AreWholeUnits u s counts ends → printed u s ends ≡ counts

-- what is printed depends on the times only, not on how they are written
abbrev pub SamePrintAlike : Type 0
SamePrintAlike =
    (u : ℕ) (s t : Time) (xs ys : List Time) →
    IsTime s → IsTime t → IsRising s xs → IsRising t ys → IsSame s t → AreSame xs ys →
    printed u s xs ≡ printed u t ys
