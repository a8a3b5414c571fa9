-- Durations that are printed so that their sums never drift from the exact times.
use Rattle.std.specs.Prelude.{◌≡◌, ℕ, ◌+◌, ◌-◌, List, [], ◌∷◌, map}
use Rattle.exact_time.specs.{Time.{Time, IsTime, IsSame, IsAtMost, difference, in_units, seconds}, Floor.floor_in}

-- each number minus the one before it, the first one minus `former`, in a list that does not fall
abbrev pub differences : ℕ → List ℕ → List ℕ
differences former [] = []
differences former (m ∷ ms) = (m - former) ∷ differences m ms

-- The durations to print, in units of which u make a second, of segments with these ends, the first of
-- which begins at s: the floor of each end minus that of the one before it, with 0 before the first.
abbrev pub printed : ℕ → Time → List Time → List ℕ
printed u s ends = differences 0 (map (λ end. floor_in u (difference end s)) ends)

-- no end is before the one before it, and the first one not before `former`
abbrev pub IsRising : Time → List Time → Type 0
IsRising former [] = Unit {0}
IsRising former (end ∷ ends) = IsTime end × IsAtMost former end × IsRising end ends

-- no end is more than 2,000,000 s after the one before it, nor the first one after `former`
abbrev pub AreNear : Time → List Time → Type 0
AreNear former [] = Unit {0}
AreNear former (end ∷ ends) = IsAtMost (difference end former) (seconds 2000000) × AreNear end ends

-- each segment lasts this number of units, from the end of the one before it
abbrev pub AreWholeUnits : ℕ → Time → List ℕ → List Time → Type 0
AreWholeUnits u former [] [] = Unit {0}
AreWholeUnits u former (count ∷ counts) (end ∷ ends) =
    IsTime end × IsSame (difference end former) (in_units u count) × AreWholeUnits u end counts ends
AreWholeUnits u former counts ends = ⊥

-- the value of a `Rounder`: where the first segment begins, how many units make a second, and the end of the segment that
-- was printed last, or `first` before any was
pub record Rounding : Type 0 where
  pub first : Time
  pub unit : ℕ
  pub former : Time

-- how many units it has printed
abbrev pub total : Rounding → ℕ
total r = floor_in r.unit (difference r.former r.first)

abbrev pub rounding_from : Time → ℕ → Rounding
rounding_from first unit = record { first = first; unit = unit; former = first }

-- one that continues after a segment that ends at `former`
abbrev pub rounding_behind : Time → ℕ → Time → Rounding
rounding_behind first unit former = record { first = first; unit = unit; former = former }

-- one call of `next`: `end` is an allowed argument, and `number` the result
pub record Call (old : Rounding) (end : Time) (number : ℕ) (new : Rounding) : Type 0 where
  pub is_time : IsTime end
  pub not_before : IsAtMost old.former end
  pub near : IsAtMost (difference end old.former) (seconds 2000000)
  pub printed_next : total old + number ≡ total new
  pub kept : new ≡ record old { former = end }

-- calls of `next` in turn with these ends return these numbers
abbrev pub Calls : Rounding → List Time → List ℕ → Rounding → Type 0
Calls old [] [] new = new ≡ old
Calls old (end ∷ ends) (number ∷ numbers) new =
    (between : Rounding) × Call old end number between × Calls between ends numbers new
Calls old ends numbers new = ⊥
