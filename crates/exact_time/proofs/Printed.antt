-- The laws of printed durations, by induction on the ends.
use Rattle.std.proofs.Common.{◌≡◌, ℕ, zero, suc, ◌+◌, ◌-◌, ◌<◌, ◌≤◌, List, [], ◌∷◌, map, Some, refl, ◌∙◌, ap, subst, arith}
use Rattle.std.proofs.lemmas.List.Sums.{sum_by-cons}
use Rattle.std.specs.Prelude.{slice_get, sum, take}
use Rattle.exact_time.specs.{Time.{Time, IsTime, IsAtMost, IsSame, AreSame, difference, in_units}, Floor.{IsFloorIn, floor_in}}
use Rattle.exact_time.specs.Rounding.{Rounding, Calls, IsRising, AreWholeUnits, differences, total}
use Rattle.exact_time.proofs.{TimeOrder.{IsAtMost-trans, same_is_at_most, same_is_at_least}, Times.{none_le-difference, at_least_units}}
use Rattle.exact_time.proofs.Floors.{IsFloorIn-difference, floor-before, floor-after, floor_in-same}

abbrev pub floors : ℕ → Time → List Time → List ℕ
floors u s ends = map (λ end. floor_in u (difference end s)) ends

-- ---- calls

pub calls_print : (old : Rounding) (ends : List Time) (numbers : List ℕ) (new : Rounding) → Calls old ends numbers new
    → numbers ≡ differences (total old) (floors old.unit old.first ends)
calls_print old [] [] new calls = refl
calls_print old [] (number ∷ numbers) new calls = absurd calls
calls_print old (end ∷ ends) [] new calls = absurd calls
calls_print old (end ∷ ends) (number ∷ numbers) new (between, call, calls) =
    let moved : Rounding = record old { former = end } in
    let rest : numbers ≡ differences (total moved) (floors old.unit old.first ends) =
    calls_print moved ends numbers new (subst (λ (r : Rounding). Calls r ends numbers new) call.kept calls) in
    let told : total old + number ≡ total moved = call.printed_next ∙ ap total call.kept in
    let here : number ≡ total moved - total old = omega (arith, told) in
    cc

pub calls_rise : (old : Rounding) (ends : List Time) (numbers : List ℕ) (new : Rounding) → Calls old ends numbers new
    → IsRising old.former ends
calls_rise old [] [] new calls = tt
calls_rise old [] (number ∷ numbers) new calls = absurd calls
calls_rise old (end ∷ ends) [] new calls = absurd calls
calls_rise old (end ∷ ends) (number ∷ numbers) new (between, call, calls) = (
  call.is_time,
  call.not_before,
  calls_rise (record old { former = end }) ends numbers new
      (subst (λ (r : Rounding). Calls r ends numbers new) call.kept calls),
)

pub calls_sum : (old : Rounding) (ends : List Time) (numbers : List ℕ) (new : Rounding) → Calls old ends numbers new
    → total old + sum numbers ≡ total new
calls_sum old [] [] new calls = omega (arith, ap total calls)
calls_sum old [] (number ∷ numbers) new calls = absurd calls
calls_sum old (end ∷ ends) [] new calls = absurd calls
calls_sum old (end ∷ ends) (number ∷ numbers) new (between, call, calls) =
    omega (arith, sum_by-cons (λ m. m) number numbers, call.printed_next, calls_sum between ends numbers new calls)

-- ---- sums

sum-take_cons : (n : ℕ) (ns : List ℕ) (k : ℕ) → sum (take (suc k) (n ∷ ns)) ≡ n + sum (take k ns)
sum-take_cons n ns k = sum_by-cons (λ m. m) n (take k ns)

-- the floor of a later end is not less
pub floor_not_less : (u : ℕ) (s former end : Time) → IsTime s → IsTime former → IsTime end → IsAtMost s former → IsAtMost former end →
    floor_in u (difference former s) ≤ floor_in u (difference end s)
floor_not_less u s former end is_s is_former is_end begun later =
    omega (
      arith,
      floor-after u _ _ 0 end former s is_former (none_le-difference u end former later)
          (IsFloorIn-difference u former s is_former is_s begun) (IsFloorIn-difference u end s is_end is_s
          (IsAtMost-trans s former end is_former begun later)),
    )

pub sum-printed : (u : ℕ) (s former : Time) (ends : List Time) (k : ℕ) (end : Time) → IsTime s → IsTime former → IsAtMost s former
    → IsRising former ends → slice_get ends k ≡ Some end →
    floor_in u (difference former s) + sum (take (suc k) (differences (floor_in u (difference former s)) (floors u s ends)))
    ≡ floor_in u (difference end s)
sum-printed u s former [] k end is_s is_former begun rising at = cc
sum-printed u s former (e ∷ ends) zero end is_s is_former begun (is_e, later, rising) at =
    let same : e ≡ end = cc in
    let more : floor_in u (difference former s) ≤ floor_in u (difference e s) =
    floor_not_less u s former e is_s is_former is_e begun later in
    omega (arith, ap (λ (t : Time). floor_in u (difference t s)) same)
sum-printed u s former (e ∷ ends) (suc k) end is_s is_former begun (is_e, later, rising) at =
    let more : floor_in u (difference former s) ≤ floor_in u (difference e s) =
    floor_not_less u s former e is_s is_former is_e begun later in
    omega (
      arith,
      sum-take_cons (floor_in u (difference e s) - floor_in u (difference former s))
          (differences (floor_in u (difference e s)) (floors u s ends)) (suc k),
      sum-printed u s e ends k end is_s is_e (IsAtMost-trans s former e is_former begun later) rising at,
    )

-- each of the ends is a time, and not before s
pub rising-get : (s former : Time) (ends : List Time) (k : ℕ) (end : Time) → IsTime former → IsAtMost s former → IsRising former ends
    → slice_get ends k ≡ Some end → IsTime end × IsAtMost s end
rising-get s former [] k end is_former begun rising at = cc
rising-get s former (e ∷ ends) zero end is_former begun (is_e, later, rising) at =
    let same : e ≡ end = cc in
    subst (λ (t : Time). IsTime t × IsAtMost s t) same (is_e, IsAtMost-trans s former e is_former begun later)
rising-get s former (e ∷ ends) (suc k) end is_former begun (is_e, later, rising) at =
    rising-get s e ends k end is_e (IsAtMost-trans s former e is_former begun later) rising at

-- ---- whole units

pub printed-whole : (u : ℕ) (s former : Time) (counts : List ℕ) (ends : List Time) → 0 < u → IsTime s → IsTime former → IsAtMost s former
    → AreWholeUnits u former counts ends →
    differences (floor_in u (difference former s)) (floors u s ends) ≡ counts
printed-whole u s former [] [] some is_s is_former begun whole = refl
printed-whole u s former [] (e ∷ ends) some is_s is_former begun whole = absurd whole
printed-whole u s former (count ∷ counts) [] some is_s is_former begun whole = absurd whole
printed-whole u s former (count ∷ counts) (e ∷ ends) some is_s is_former begun (is_e, same, whole) =
    let later : IsAtMost former e = at_least_units u count e former some (same_is_at_least (difference e former) (in_units u count) same) in
    let after : IsAtMost s e = IsAtMost-trans s former e is_former begun later in
    let is_m : IsFloorIn u (difference former s) (floor_in u (difference former s)) =
    IsFloorIn-difference u former s is_former is_s begun in
    let is_n : IsFloorIn u (difference e s) (floor_in u (difference e s)) = IsFloorIn-difference u e s is_e is_s after in
    let most : floor_in u (difference e s) ≤ floor_in u (difference former s) + count =
    floor-before u _ _ count e former s is_e (same_is_at_most (difference e former) (in_units u count) same) is_m is_n in
    let least : floor_in u (difference former s) + count ≤ floor_in u (difference e s) =
    floor-after u _ _ count e former s is_former (same_is_at_least (difference e former) (in_units u count) same) is_m is_n in
    let here : floor_in u (difference e s) - floor_in u (difference former s) ≡ count = omega arith in
    let rest : differences (floor_in u (difference e s)) (floors u s ends) ≡ counts =
    printed-whole u s e counts ends some is_s is_e after whole in
    cc

-- ---- equal times

pub floors-same : (u : ℕ) (s t former before : Time) (xs ys : List Time) → IsTime s → IsTime t → IsTime former → IsTime before
    → IsAtMost s former → IsAtMost t before →
    IsRising former xs → IsRising before ys → IsSame s t → AreSame xs ys → floors u s xs ≡ floors u t ys
floors-same u s t former before [] [] is_s is_t is_former is_before begun_s begun_t rising_x rising_y start same = refl
floors-same u s t former before [] (y ∷ ys) is_s is_t is_former is_before begun_s begun_t rising_x rising_y start same = absurd same
floors-same u s t former before (x ∷ xs) [] is_s is_t is_former is_before begun_s begun_t rising_x rising_y start same = absurd same
floors-same u s t former before (x ∷ xs) (y ∷ ys) is_s is_t is_former is_before begun_s begun_t (is_x, later_x, rising_x) (
  is_y,
  later_y,
  rising_y,
) start (here, same) =
    let after_s : IsAtMost s x = IsAtMost-trans s former x is_former begun_s later_x in
    let after_t : IsAtMost t y = IsAtMost-trans t before y is_before begun_t later_y in
    let first : floor_in u (difference x s) ≡ floor_in u (difference y t) =
    floor_in-same u x y s t is_x is_y is_s is_t after_s after_t here start in
    let rest : floors u s xs ≡ floors u t ys =
    floors-same u s t x y xs ys is_s is_t is_x is_y after_s after_t rising_x rising_y start same in
    cc
