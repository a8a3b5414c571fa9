-- Segments last longer than nothing by the times that their files state.
use Rattle.std.proofs.Common.{◌≡◌, ℕ, ◌+◌, ◌-◌, ◌*◌, ◌<◌, nat_le, nat_lt, Bool, true, false, List, [], ◌∷◌, length, slice_get, All}
use Rattle.std.proofs.{Common.{Option, Some, None, Ok, Err, refl, subst, arith}, lemmas.Bool.Decides.nat_tests}
use Rattle.std.proofs.lemmas.List.Elements.{All-nil, All-cons}
use Rattle.std.specs.{List.AllByRecursion, Option.option_map_or}
use Rattle.bridge_io.proofs.AndThen.{steps_of}
use Rattle.timeline.specs.Expansions.{Timing}
use Rattle.presentation.specs.{Counting.{sections_of, tracks_of}, Presented.{Presented, listed_at}}
use Rattle.presentation.proofs.Filling.{all_gathered}
use Rattle.segment_forms.specs.declared.form.Form.{Form}
use Rattle.fragment_times.specs.declared.{fault.SegmentSpot.SegmentSpot, period_start.PeriodStart.PeriodStart}
use Rattle.layer_faults.specs.declared.times.FileFault.TheVariants.{Order, Range as OutOfRange}
use Rattle.fragment_times.specs.{declared.fault.TimesFault.TheVariants.{Range, Segment}, declared.times.SegmentTimes.SegmentTimes}
use Rattle.fragment_times.specs.Durations.{all_ticks, begun_at, clock_of, durations_of, is_late, is_too_long, last_of, last_ticks}
use Rattle.fragment_times.specs.Durations.{last_ticks_of, own_ticks, section_ticks, ticks_at, ticks_behind, ticks_from, ticks_of}
use Rattle.fragment_times.specs.{Durations.unless_long, PeriodStarts.start_in, Refusals.next_spot, Times.alone}
use Rattle.bridge_reach.proofs.Runs.{unless_is}

abbrev pub AreLasting : List ℕ → Type 0
AreLasting ticks = AllByRecursion (λ d. 0 < d) ticks

-- ---- segment by segment

lasts_behind : (scale former : ℕ) (at : SegmentSpot) (start ticks : ℕ) (late far : Bool) → nat_le start former ≡ late
    → nat_lt (1000000 * scale) (start - former) ≡ far → ticks_behind scale former (begun_at at start) ≡ Ok ticks → 0 < ticks
lasts_behind scale former at start ticks true far late is told =
    absurd (let h : ticks_behind scale former (begun_at at start) ≡ Err (Segment at Order) = rw late refl in cc)
lasts_behind scale former at start ticks false true late is told =
    absurd (let h : ticks_behind scale former (begun_at at start) ≡ Err (Segment at OutOfRange) = rw (late, is) refl in cc)
lasts_behind scale former at start ticks false false late is told =
    let h : ticks_behind scale former (begun_at at start) ≡ Ok (start - former) = rw (late, is) refl in
    let same : start - former ≡ ticks = cc in
    let after : former < start = grind (arith, nat_tests, late) in
    omega (arith, same, after)

module _ (form : Form) (start : PeriodStart) (own : SegmentTimes) (last : ℕ) (some : 0 < last) where
  from_lasts : (at : SegmentSpot) (begin : ℕ) (starts ticks : List ℕ)
      → ticks_from (clock_of form start own) last (begun_at at begin) starts ≡ Ok ticks → AreLasting ticks
  from_lasts at begin [] ticks is =
      let one = steps_of (last_ticks_of (clock_of form start own) last (begun_at at begin)) (λ t. Ok (t ∷ [])) ticks is in
      let end = unless_is (is_late (clock_of form start own) (begin + last)) _ last one.value one.first in
      let whole : one.value ∷ [] ≡ ticks = (let e = one.then in cc) in
      subst AreLasting whole (omega (arith, some, end.1), tt)
  from_lasts at begin (next ∷ starts) ticks is =
      let one = steps_of (ticks_behind own.scale begin (begun_at (next_spot at) next)) _ ticks is in
      let later = steps_of (ticks_from (clock_of form start own) last (begun_at (next_spot at) next) starts) _ ticks one.then in
      let whole : one.value ∷ later.value ≡ ticks = (let e = later.then in cc) in
      subst AreLasting whole (
        lasts_behind own.scale begin (next_spot at) next one.value _ _ refl refl one.first,
        from_lasts (next_spot at) next starts later.value later.first,
      )

  all_last : (at : SegmentSpot) (starts ticks : List ℕ) → ticks_of at (clock_of form start own) last starts ≡ Ok ticks → AreLasting ticks
  all_last at [] ticks is = subst AreLasting (let none : [] ≡ ticks = cc in none) tt
  all_last at (first ∷ starts) ticks is = from_lasts at first starts ticks is

last_is_some : (form : Form) (scale : ℕ) (last : Option Timing) → 0 < last_ticks form scale last
last_is_some form scale None = omega arith
last_is_some form scale (Some x) = omega arith

-- ---- section by section, track by track

module _ (form : Form) (p : Presented) (times : List SegmentTimes) where
  abbrev spot : (s t : ℕ) → SegmentSpot
  spot s t = record { section = s; track = t; segment = 0 }

  own_last : (s t : ℕ) (own : Option SegmentTimes) (ticks : List ℕ)
      → option_map_or (own_ticks form (start_in form p times s) (spot s t) (listed_at p s t)) own (Ok []) ≡ Ok ticks → AreLasting ticks
  own_last s t None ticks is = subst AreLasting (let none : [] ≡ ticks = cc in none) tt
  own_last s t (Some own) ticks is =
      let last = last_of (listed_at p s t) in
      all_last form (start_in form p times s) own (last_ticks form own.scale last) (last_is_some form own.scale last) (spot s t) own.starts
      ticks is

  track_lasts : (s t : ℕ) (one : List (List ℕ)) → alone (ticks_at form p times s t) ≡ Ok one → All AreLasting one
  unfolding ticks_at
  track_lasts s t one is =
      let own = steps_of (ticks_at form p times s t) (λ ticks. Ok (ticks ∷ [])) one is in
      let whole : own.value ∷ [] ≡ one = (let e = own.then in cc) in
      subst (All AreLasting) whole (All-cons AreLasting own.value []
      (own_last s t (slice_get times (s * length p.tracks + t)) own.value own.first) (All-nil AreLasting))

  pub rows_last : (rows : List (List ℕ)) → durations_of form p times ≡ Ok rows → All AreLasting rows
  unfolding durations_of
  rows_last rows is =
      let made = steps_of (all_ticks form p times) (λ rows. unless_long (is_too_long form p times rows) rows) rows is in
      let short = unless_is (is_too_long form p times made.value) Range made.value rows made.then in
      subst (All AreLasting) short.1 (all_gathered (section_ticks form p times) AreLasting
      (λ s own given. all_gathered (λ t. alone (ticks_at form p times s t)) AreLasting (track_lasts s) (tracks_of p) own given)
      (sections_of p) made.value made.first)
