-- The times of the segments of an MPD.
use Rattle.std.proofs.{Common.{ℕ, ◌-◌, ◌*◌, ◌≤◌, List, [], ◌∷◌, All, map, subst, arith}, lemmas.Int.ints, lemmas.List.Elements.All-cons}
use Rattle.std.proofs.lemmas.List.Elements.{All-nil}
use Rattle.exact_time.specs.{Time.{Time, IsAtMost, IsTime, difference}, Floor.floor_in, Rounding.{AreNear, IsRising, differences}}
use Rattle.exact_time.proofs.{Floors.floor_in-difference_self, Roundings.floor_rises, TimeOrder.IsAtMost-trans}
use Rattle.timeline.specs.Expansions.{Timing}
use Rattle.presentation.specs.Printing.{ends_of}
use Rattle.laws_of_playlists.specs.Origins.{AreShortInPace}

-- ---- printed durations

module _ (unit : ℕ) (first : Time) (is_first : IsTime first) where
  abbrev floor : Time → ℕ
  floor end = floor_in unit (difference end first)

  abbrev IsShort : ℕ → Type 0
  IsShort duration = duration ≤ 2000000 * unit

  short_behind : (former : Time) (xs : List Timing) → IsTime former → IsAtMost first former → IsRising former (ends_of xs)
      → AreNear former (ends_of xs)
      → All IsShort (differences (floor former) (map floor (ends_of xs)))
  short_behind former [] is_former begun rising near = All-nil IsShort
  short_behind former (x ∷ xs) is_former begun rising near =
      let rises = floor_rises unit 2000000 first former x.end is_first is_former rising.0 begun rising.1 near.0 in
      All-cons IsShort (floor x.end - floor former) (differences (floor x.end) (map floor (ends_of xs))) (omega (arith, rises.0, rises.1))
      (short_behind x.end xs rising.0 (IsAtMost-trans first former x.end is_former begun rising.1) rising.2 near.1)

same_time : (x : Time) → IsAtMost x x
same_time x = omega (arith, ints)

pub are_short_in_pace : AreShortInPace
are_short_in_pace [] unit paced = All-nil (λ duration. duration ≤ 2000000 * unit)
are_short_in_pace (x ∷ xs) unit paced =
    subst (λ n. All (λ duration. duration ≤ 2000000 * unit)
    (differences n (map (λ end. floor_in unit (difference end x.start)) (ends_of (x ∷ xs)))))
    (floor_in-difference_self unit x.start)
    (short_behind unit x.start paced.0 x.start (x ∷ xs) paced.0 (same_time x.start) paced.1.0 paced.1.1)
