-- When segments go on to an end that isn't known yet.
use Rattle.std.proofs.Common.{◌≡◌, ℕ, ◌+◌, ◌*◌, ◌<◌, Bool, true, false, List, ◌∷◌, ◌++◌, map, ℤ, pos, negsuc, ◌+ℤ◌, ◌-ℤ◌, refl, ◌∙◌, sym}
use Rattle.std.proofs.{Common.{ap, inl, inr, arith, []}, lemmas.Int.ints, lemmas.Bool.{cases_lt, true≢false}, lemmas.Bool.Decides.nat_tests}
use Rattle.std.specs.{Prelude.{Option, None, IfSome, Ok, ◌↔◌, ◌⊎◌, slice_get, unwrap_or}, List.list_any}
use Rattle.exact_time.specs.Time.{Time, IsAtMost}
use Rattle.exact_time.proofs.TimeOrder.{at_most-true, at_most-from}
use Rattle.timeline.specs.{declared.entry.Scale.Scale, declared.entry.End.End, declared.entry.End.TheVariants.{At, Unbounded}}
use Rattle.timeline.specs.{declared.fault.TimeFault.TimeFault, declared.window.Window.Window}
use Rattle.timeline.specs.Expansions.{Extent, Member, Closed, Short, Endless, SegmentTimeline, ended_by, goes_on, is_open, repeated}
use Rattle.timeline.specs.{Faults.{ends_open, fault_if, is_negative, is_unbounded, or_fault}, Listed.reaches_fault}
use Rattle.timeline.specs.{OpenEnds.StepsAreGreatest, Ratios.natural, SegmentTimelines.unless_fault}
use Rattle.timeline.specs.Timelines.{Reach, Counted, UpTo, Unending, Nowhere, count_of, count_up_to, extent_from, members_from}
use Rattle.timeline.specs.Timelines.{members_of, reach_of}
use Rattle.mpd_entries.specs.declared.entry.SEntry.{SEntry}
use Rattle.timeline.proofs.{ExpansionsRise.not_unending, Ratios.{floor_ticks, at_most-floor, int_le-true, int_le-from}}
use Rattle.timeline.proofs.Repeats.{again-row, ended_by-row, ends_by-in, ends_by-out, natural-pos, row, row-is, slice_get-repeated}

-- ---- what has no fault

pub no_fault : (fault : Option TimeFault) (made timeline : SegmentTimeline) → unless_fault fault made ≡ Ok timeline
    → (fault ≡ None) × (made ≡ timeline)
no_fault fault made timeline is = grind arith

pub no_faults : (first later : Option TimeFault) → or_fault first later ≡ None → (first ≡ None) × (later ≡ None)
no_faults first later none = grind arith

pub unless : (holds : Bool) (fault : TimeFault) → fault_if holds fault ≡ None → holds ≡ false
unless holds fault none = grind arith

-- ---- the members

pub closed_not_open : (xs : List Extent) → is_open (map Closed xs) ≡ false
closed_not_open [] = refl
closed_not_open (x ∷ xs) = closed_not_open xs

either : (xs ys : List Member) → is_open (xs ++ ys) ≡ true → (is_open xs ≡ true) ⊎ (is_open ys ≡ true)
either [] ys some = inr some
either (Closed x ∷ xs) ys some = either xs ys some
either (Short x ∷ xs) ys some = either xs ys some
either (Endless x ∷ xs) ys some = inl refl

unending : (reach : Reach) (x : Extent) → is_open (members_of reach x) ≡ true → reach ≡ Unending
unending (Counted count) x some = absurd (true≢false (sym some ∙ closed_not_open (repeated count x)))
unending (UpTo bound) x some = grind (arith, nat_tests, closed_not_open (repeated (count_up_to bound x) x))
unending Unending x some = refl
unending Nowhere x some = cc

last_open : (scale : Scale) (end : End) (s : SEntry) (r : ℤ) (later : List SEntry) → s.r ≡ r → reach_of scale end r later ≡ Unending
    → (is_unbounded end ≡ true) × (ends_open (s ∷ later) ≡ true)
last_open scale end s (pos r) later at is = cc
last_open scale (At length) s (negsuc r) [] at is = cc
last_open scale Unbounded s (negsuc r) [] at is = (refl, ap is_negative at)
last_open scale end s (negsuc r) (next ∷ later) at is = absurd (not_unending scale next.t is)

later_open : (s : SEntry) (later : List SEntry) → ends_open later ≡ true → ends_open (s ∷ later) ≡ true
later_open s later is = grind arith

pub entries_open : (scale : Scale) (end : End) (former : ℕ) (entries : List SEntry)
    → is_open (members_from scale end former entries) ≡ true → (is_unbounded end ≡ true) × (ends_open entries ≡ true)
entries_open scale end former [] some = cc
entries_open scale end former (s ∷ later) some =
    let start = unwrap_or s.t former in
    let x = extent_from scale start s.d in
    let reach = reach_of scale end s.r later in
    elim (either (members_of reach x) (members_from scale end (start + count_of reach x * s.d) later) some) [
      | inl here ↦ last_open scale end s s.r later refl (unending reach x here)
      | inr behind ↦ let rest = entries_open scale end (start + count_of reach x * s.d) later behind in (rest.0, later_open s later rest.1)
    ]

-- and where the last one does, so do the members

open_right : (xs ys : List Member) → is_open ys ≡ true → is_open (xs ++ ys) ≡ true
open_right [] ys some = some
open_right (Closed x ∷ xs) ys some = open_right xs ys some
open_right (Short x ∷ xs) ys some = open_right xs ys some
open_right (Endless x ∷ xs) ys some = refl

last_expands : (scale : Scale) (r : ℤ) (x : Extent) → is_negative r ≡ true
    → is_open (members_of (reach_of scale Unbounded r []) x ++ []) ≡ true
last_expands scale (pos r) x is = absurd (cc)
last_expands scale (negsuc r) x is = refl

pub open_expands : (scale : Scale) (former : ℕ) (entries : List SEntry) → ends_open entries ≡ true
    → is_open (members_from scale Unbounded former entries) ≡ true
open_expands scale former [] is = absurd (cc)
open_expands scale former (s ∷ []) is = last_expands scale s.r (extent_from scale (unwrap_or s.t former) s.d) is
open_expands scale former (s ∷ next ∷ later) is =
    let start = unwrap_or s.t former in
    let x = extent_from scale start s.d in
    let reach = reach_of scale Unbounded s.r (next ∷ later) in
    open_right (members_of reach x) (members_from scale Unbounded (start + count_of reach x * s.d) (next ∷ later))
    (open_expands scale (start + count_of reach x * s.d) (next ∷ later) is)

pub none_reaches : (timeline : SegmentTimeline) (window : Window) (members : List Member) → list_any goes_on members ≡ false
    → list_any (reaches_fault timeline window) members ≡ false
none_reaches timeline window [] none = refl
none_reaches timeline window (Closed x ∷ later) none = none_reaches timeline window later none
none_reaches timeline window (Short x ∷ later) none = none_reaches timeline window later none
none_reaches timeline window (Endless x ∷ later) none = cc

-- ---- the segments by an instant

steps_row : (t : Time) (scale : ℕ) (start : ℤ) (step n k : ℕ) → 0 < t.scale → 0 < scale → 0 < step → k < n →
    IfSome (slice_get (repeated n (row scale start step)) k) (λ y. IsAtMost y.end t ↔ (k < ended_by t (row scale start step)))
steps_row t scale start step n k time whole some within =
    let x = row scale start step in
    let last = floor_ticks t scale in
    let end = (start +ℤ pos step) in
    let count = ended_by-row t scale start step time whole some in
    let placed : (start +ℤ pos (k * step)) +ℤ pos step ≡ end +ℤ pos (k * step) = omega (arith, ints) in
    let test = at_most-floor ((start +ℤ pos (k * step)) +ℤ pos step) scale t time in
    rw (slice_get-repeated k n x within, again-row k scale start step) (
      λ early. elim (cases_lt k (ended_by t x)) [
        | inl less ↦ less
        | inr more ↦
            let out = ends_by-out last end step k some (omega (arith, count, more)) in
            let at = int_le-true ((start +ℤ pos (k * step)) +ℤ pos step) last (sym test
            ∙ at_most-from (row scale (start +ℤ pos (k * step)) step).end t early) in
            absurd (omega (arith, ints, out, at, placed))
      ],
      λ less.
          let in_time = ends_by-in last end step k (omega (arith, count, less)) in
          at_most-true (row scale (start +ℤ pos (k * step)) step).end t (test
          ∙ int_le-from ((start +ℤ pos (k * step)) +ℤ pos step) last (omega (arith, ints, in_time, placed))),
    )

pub steps_are_greatest : StepsAreGreatest
steps_are_greatest instant x n k time is within =
    let step = natural (x.end.ticks -ℤ x.start.ticks) in
    let lasts = natural-pos (x.end.ticks -ℤ x.start.ticks) (omega (arith, ints, is.rises)) in
    let same : x ≡ row x.end.scale x.start.ticks step = row-is x step is.one_scale (omega (arith, ints, lasts)) in
    rw same (steps_row instant x.end.scale x.start.ticks step n k time is.end_is (omega (arith, ints, lasts, is.rises)) within)
