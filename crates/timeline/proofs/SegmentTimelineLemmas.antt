-- The members of a timeline: segments, and perhaps those that go on to an open end.
use Rattle.std.proofs.Common.{◌≡◌, ℕ, ◌+◌, Bool, false, not, cond, List, ◌∷◌, ◌++◌, map, length, refl, ◌∙◌, ap, append-nil, [], arith}
use Rattle.std.proofs.{Common.{zero, suc, ◌<◌, ◌≤◌, min, sym, inl, inr, length-append}, lemmas.List.Sums.{sum_by-cons, sum_by-append}}
use Rattle.std.proofs.{lemmas.List.Sums.count_by-le-length, lemmas.Bool.{cases_Bool, cases_lt}}
use Rattle.std.proofs.Math.Bool.{or-false}
use Rattle.std.specs.{Prelude.{Option, Some, None, is_some, filter, flat_map, sum_by, count_by, cond}, List.{list_any, AllByRecursion}}
use Rattle.exact_time.specs.Time.{Time, at_most, IsBefore, AreRising}
use Rattle.timeline.specs.Expansions.{SegmentTimeline, Extent, Member, Closed, extents, extents_at, goes_on, is_open}
use Rattle.timeline.specs.{Limits.breaks_limits, Places.{closed_by, reached_by}, RunSegments.{count_ended, endless_count, endless_extents}}
use Rattle.timeline.specs.{RunSegments.first_of, Kept.endless_members, Listed.{reaches_fault, instant_of}, declared.run.Endless.Endless}
use Rattle.timeline.specs.declared.window.Window.{Window}
use Rattle.exact_time.proofs.TimeOrder.{before_then_at_most, IsAtMost-from_before, at_most-false, not_at_most-from}
use Rattle.timeline.proofs.{Repeats.{length-repeated, count_ended-in, count_ended-out, count_ended-row}}
use Rattle.timeline.proofs.{Repeats.ended_by-row, Splits.{SplitsAt, IsPlaceOf}}

-- the segments that go on to an open end, up to a time
abbrev pub open_at : Time → Option Endless → List Extent
open_at t None = []
open_at t (Some e) = endless_extents e t

abbrev pub open_count : Time → Option Endless → ℕ
open_count t None = 0
open_count t (Some e) = endless_count e t

abbrev pub open_breaks_limits : ℕ → ℕ → Time → Option Endless → Bool
open_breaks_limits ticks origin t None = false
open_breaks_limits ticks origin t (Some e) = list_any (breaks_limits ticks origin) (endless_extents e t)

abbrev pub members_of_parts : List Extent → Option Endless → List Member
members_of_parts xs e = map Closed xs ++ endless_members e

-- ---- the segments

pub extents-parts : (t : Time) (xs : List Extent) (e : Option Endless) → extents t (members_of_parts xs e) ≡ xs ++ open_at t e
extents-parts t [] None = refl
extents-parts t [] (Some e) = append-nil (endless_extents e t)
extents-parts t (x ∷ xs) e = ap (λ (ys : List Extent). x ∷ ys) (extents-parts t xs e)

-- ---- their numbers

pub closed-parts : (t : Time) (xs : List Extent) (e : Option Endless) → sum_by (closed_by t) (members_of_parts xs e) ≡ count_ended t xs
closed-parts t [] None = refl
closed-parts t [] (Some e) = refl
closed-parts t (x ∷ xs) e =
    let by_sum_by_cons = sum_by-cons (closed_by t) (Closed x) (members_of_parts xs e) in
    cc (closed-parts t xs e, sum_by-cons (λ (y : Extent). cond (at_most y.end t) 1 0) x xs)

pub reached-parts : (t : Time) (xs : List Extent) (e : Option Endless) → sum_by (reached_by t) (members_of_parts xs e)
    ≡ count_ended t xs + open_count t e
reached-parts t [] None = refl
reached-parts t [] (Some e) = omega arith
reached-parts t (x ∷ xs) e =
    let by_sum_by_cons = sum_by-cons (reached_by t) (Closed x) (members_of_parts xs e) in
    omega (arith, reached-parts t xs e, sum_by-cons (λ (y : Extent). cond (at_most y.end t) 1 0) x xs)

pub total-parts : (xs : List Extent) (e : Option Endless) → count_by (λ (m : Member). not (goes_on m)) (members_of_parts xs e) ≡ length xs
total-parts [] None = refl
total-parts [] (Some e) = refl
total-parts (x ∷ xs) e = omega (
  arith,
  sum_by-cons (λ (m : Member). cond (not (goes_on m)) 1 0) (Closed x) (members_of_parts xs e),
  total-parts xs e,
)

-- ---- the open end

pub is_open-parts : (xs : List Extent) (e : Option Endless) → is_open (members_of_parts xs e) ≡ is_some e
is_open-parts [] None = refl
is_open-parts [] (Some e) = refl
is_open-parts (x ∷ xs) e = is_open-parts xs e

pub out_of_range-parts : (timeline : SegmentTimeline) (window : Window) (xs : List Extent) (e : Option Endless) →
    list_any (reaches_fault timeline window) (members_of_parts xs e) ≡ open_breaks_limits timeline.ticks timeline.origin
    (instant_of window) e
out_of_range-parts timeline window [] None = refl
out_of_range-parts timeline window [] (Some e) =
    or-false (list_any (breaks_limits timeline.ticks timeline.origin) (endless_extents e (instant_of window)))
out_of_range-parts timeline window (x ∷ xs) e = out_of_range-parts timeline window xs e

pub open_extents-parts : (t : Time) (xs : List Extent) (e : Option Endless)
    → flat_map (extents_at t) (filter goes_on (members_of_parts xs e)) ≡ open_at t e
open_extents-parts t [] None = refl
open_extents-parts t [] (Some e) = append-nil (endless_extents e t)
open_extents-parts t (x ∷ xs) e = open_extents-parts t xs e

-- ---- ends that rise: the segments that end by a time are the first ones

abbrev pub HasScale : Extent → Type 0
HasScale x = 0 < x.end.scale

abbrev pub ends_of : List Extent → List Time
ends_of xs = map (λ (x : Extent). x.end) xs

abbrev pub ends_by_time : Time → Extent → Bool
ends_by_time t x = at_most x.end t

-- behind an end that is after the time, all are
after_it : (t : Time) (x : Extent) (xs : List Extent) → IsBefore t x.end → AllByRecursion HasScale xs → AreRising (ends_of (x ∷ xs))
    → SplitsAt (ends_by_time t) 0 xs
after_it t x [] late scales rising = tt
after_it t x (y ∷ ys) late scales rising =
    let later : IsBefore t y.end = before_then_at_most t x.end y.end scales.0 late (IsAtMost-from_before x.end y.end rising.0) in
    (not_at_most-from y.end t later, after_it t y ys later scales.1 rising.1)

pub none_ended : (t : Time) (xs : List Extent) → SplitsAt (ends_by_time t) 0 xs → count_ended t xs ≡ 0
none_ended t [] is = refl
none_ended t (x ∷ xs) is = count_ended-out t x xs is.0 ∙ none_ended t xs is.1

rising_tail : (x : Extent) (xs : List Extent) → AreRising (ends_of (x ∷ xs)) → AreRising (ends_of xs)
rising_tail x [] rising = tt
rising_tail x (y ∷ ys) rising = rising.1

pub splits_rising : (t : Time) (xs : List Extent) → AllByRecursion HasScale xs → AreRising (ends_of xs)
    → SplitsAt (ends_by_time t) (count_ended t xs) xs
splits_rising t [] scales rising = tt
splits_rising t (x ∷ xs) scales rising = elim (cases_Bool (at_most x.end t)) [
  | inl early ↦
      let one_more : count_ended t (x ∷ xs) ≡ suc (count_ended t xs) = omega (arith, count_ended-in t x xs early) in
      rw one_more (early, splits_rising t xs scales.1 (rising_tail x xs rising))
  | inr late ↦
      let rest = after_it t x xs (at_most-false x.end t late) scales.1 rising in
      rw (count_ended-out t x xs late, none_ended t xs rest) (late, rest)
]

pub count_ended-append : (t : Time) (xs ys : List Extent) → count_ended t (xs ++ ys) ≡ count_ended t xs + count_ended t ys
count_ended-append t xs ys = sum_by-append (λ (x : Extent). cond (at_most x.end t) 1 0) xs ys

pub count_ended-le : (t : Time) (xs : List Extent) → count_ended t xs ≤ length xs
count_ended-le t xs = count_by-le-length (ends_by_time t) xs

-- where one of the later ones ends by the time, all of the earlier ones do
pub front_ended : (t : Time) (k : ℕ) (xs ys : List Extent) → SplitsAt (ends_by_time t) k (xs ++ ys) → 0 < count_ended t ys
    → count_ended t xs ≡ length xs
front_ended t k [] ys is some = refl
front_ended t zero (x ∷ xs) ys is some = absurd (omega (arith, none_ended t (xs ++ ys) is.1, count_ended-append t xs ys))
front_ended t (suc k) (x ∷ xs) ys is some = omega (arith, count_ended-in t x xs is.0, front_ended t k xs ys is.1 some)

-- ---- the segments that go on to an open end

abbrev pub LastsSome : Option Endless → Type 0
LastsSome None = Unit {0}
LastsSome (Some e) = 0 < e.step

-- of those up to an instant, as many end by a time as all of them, at most
pub count_ended-open : (t instant : Time) (e : Endless) → 0 < t.scale → 0 < e.step
    → count_ended t (endless_extents e instant) ≡ min (endless_count e instant) (endless_count e t)
count_ended-open t instant e time lasts =
    count_ended-row (endless_count e instant) t e.start.scale e.start.n e.step time lasts
    ∙ ap (min (endless_count e instant)) (sym (ended_by-row t e.start.scale e.start.n e.step time e.start.positive lasts))

-- the place by a time: the number of the segments that end by it, or behind them all
pub place_of-parts : (t instant : Time) (xs : List Extent) (e : Option Endless) (cap : ℕ) → 0 < t.scale → LastsSome e →
    SplitsAt (ends_by_time t) (count_ended t (xs ++ open_at t e)) (xs ++ open_at t e) → length xs + open_count instant e ≤ cap →
    IsPlaceOf (min cap (count_ended t xs + open_count t e)) (count_ended t (xs ++ open_at instant e)) (xs ++ open_at instant e)
place_of-parts t instant xs None cap time lasts splits room =
    inl (omega (arith, count_ended-le t xs, count_ended-append t xs []))
place_of-parts t instant xs (Some e) cap time lasts splits room =
    let opened = count_ended-open t instant e time lasts in
    let both = count_ended-append t xs (endless_extents e instant) in
    let long = length-append xs (endless_extents e instant) in
    let as_many = length-repeated (endless_count e instant) (first_of e) in
    elim (cases_lt (endless_count e instant) (endless_count e t)) [
      | inl past ↦
          let here = count_ended-open t t e time lasts in
          let all = front_ended t (count_ended t (xs ++ endless_extents e t)) xs (endless_extents e t) splits (omega arith) in
          inr (omega arith, omega arith)
      | inr within ↦ inl (omega (arith, count_ended-le t xs))
    ]
