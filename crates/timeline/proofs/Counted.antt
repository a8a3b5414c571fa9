-- The segments of a duration in a row.
use Rattle.std.proofs.Common.{◌≡◌, ℕ, zero, suc, ◌+◌, ◌-◌, ◌*◌, ◌<◌, ◌≤◌, ◌^◌, Bool, true, false, List, ◌∷◌, ◌++◌, map, pos, ◌-ℤ◌, []}
use Rattle.std.proofs.{Common.{Option, Some, None, refl, ◌∙◌, sym, ap, subst, inl, inr, arith, ltb, ◌<ℤ◌}, lemmas.Int.ints}
use Rattle.std.proofs.{lemmas.Option.IfSome_then, lemmas.List.{append-nil, map-append, append_assoc}, Math.Bool.{or-false, or_assoc}}
use Rattle.std.proofs.{Math.Nat.{mul-le-mul_right, mul-lt-mul_of_pos_left}, lemmas.Bool.{cases_Bool, cases_lt, cond-true, cond-false}}
use Rattle.std.proofs.lemmas.Bool.{le-ltb, lt-ltb, ltb-false, or_parts}
use Rattle.std.specs.Prelude.{◌||◌, ◌&&◌, nat_lt, IsNone, MatchResult, OnOk, Result, Ok, Err, int_le, unsigned_abs, option_map, length}
use Rattle.std.specs.List.{list_any}
use Rattle.exact_time.specs.{Time.{Time, in_units, seconds, at_most, before, nanoseconds, difference}, Floor.IsCeiling}
use Rattle.exact_time.specs.{Tick.time_of, declared.tick.Tick.Tick}
use Rattle.timeline.specs.{declared.entry.End.End, declared.entry.End.TheVariants.{At, Unbounded}, declared.fault.TimeFault.TimeFault}
use Rattle.timeline.specs.{declared.builder.RunsBuilder.RunsBuilder, declared.limits.Limits.Limits, declared.span.Span.Span}
use Rattle.timeline.specs.{declared.fault.TimeFault.TheVariants.{Range, ListLength}, Ratios.{earlier, steps_to_cover}}
use Rattle.timeline.specs.{Expansions.{Extent, Member, Closed, Endless, lasting, repeated}, Durations.{cut_at, extent_at, extents_by}}
use Rattle.timeline.specs.{Durations.{expansion_of_names, extent_of, expansion_of_list}, Faults.{begins_late, extents_break, fault_if}}
use Rattle.timeline.specs.{Faults.{is_apart, members_by, or_fault, refusal, segment_fault, lasts_no_time}, Steady.AreKept}
use Rattle.timeline.specs.Building.{AreAdded, IsFaultOf, IsInTime, breaks_in, extent_in, former_end, members_so_far, placed_in, IsLaidOut}
use Rattle.timeline.specs.{Limits.{breaks_limits, span_breaks_limits, too_long}, Rows.{AreCounted, IsCountedFault, IsFresh, IsLast}}
use Rattle.timeline.specs.{Rows.{IsRange, IsRow, count_until, counted_fault, cut_fault, last_extent, row_of}, Reaches.IsTheirFault}
use Rattle.timeline.specs.{Spans.{AreInRow, IsRowSoFar, fault_of_span, have_no_time}, RunSegments.one_extent}
use Rattle.timeline.proofs.{Ratios.{steps_to_cover-is, ceiling-is, not_int_le-from}, Judged.{former_end-none, former_end-some, head_passes}}
use Rattle.timeline.proofs.{Judged.{repeat-extent_in, touching, fault_of_two, passes}, Paced.kept_of, ExpansionsRise.durations_row}
use Rattle.timeline.proofs.{ExpansionsRise.{row_fault, row_lasting, last_covers, spans_last}, OpenEnds.{no_faults, unless}}
use Rattle.timeline.proofs.{LimitLemmas.{int_le-cancel, ltb-scaled}, Laid.refusal_some}
use Rattle.exact_time.proofs.TimeOrder.{at_most-from, not_at_most-from, not_before-from}

pub count_until-is : (length ticks duration n : ℕ) → 0 < duration → IsCeiling (length * ticks) (duration * 1000000000) n
    → n ≡ steps_to_cover (nanoseconds (pos length)) (in_units ticks duration)
count_until-is length ticks duration n some is =
    sym (steps_to_cover-is (nanoseconds (pos length)) (in_units ticks duration) (length * ticks) (duration * 1000000000) 1 (omega arith)
    (omega arith) (omega arith) (omega arith)
    ∙ ceiling-is (length * ticks) (duration * 1000000000) n (omega arith) is)

-- ---- a run that isn't apart from what is before it is at fault by its limits alone

is_range : (broken : Bool) (fault : TimeFault) → fault_if broken Range ≡ Some fault → (fault ≡ Range) × (broken ≡ true)
is_range true fault is = (cc, refl)
is_range false fault is = cc

module _ (l : Limits) where
  run_judged : (d count s : ℕ) (former : Option Time) → is_apart former (extent_in l s d) ≡ false →
      segment_fault (breaks_in l) former (map Closed (repeated count (extent_in l s d)))
      ≡ fault_if (list_any (breaks_in l) (repeated count (extent_in l s d))) Range
  unfolding repeated
  run_judged d zero s former near = refl
  run_judged d (suc count) s former near =
      let x = extent_in l s d in
      elim (cases_Bool (breaks_in l x)) [
        | inl broken ↦ cc
        | inr kept ↦
            cc (repeat-extent_in l s d, run_judged d count (s + d) (Some (placed_in l (s + d))) (touching l (s + d) d l.positive))
      ]

-- the segment behind the last one isn't apart from it
follows : (l : RunsBuilder) (s d : ℕ) → s ≡ l.former → is_apart (former_end l) (extent_in l.limits s d) ≡ false
follows l s d at = rw at (elim (cases_lt 0 l.total) [
  | inl some ↦ cc (former_end-some l some, touching l.limits l.former d l.limits.positive)
  | inr none ↦ ap (λ (f : Option Time). is_apart f (extent_in l.limits l.former d)) (former_end-none l (omega arith))
])

-- adding a run behind the last segment says whether it breaks the limits
module _ (old new : RunsBuilder) (s d count : ℕ) (at : s ≡ old.former) where
  abbrev run : List Extent
  run = repeated count (extent_in old.limits s d)

  judged : segment_fault (breaks_in old.limits) (former_end old) (map Closed run ++ [])
      ≡ fault_if (list_any (breaks_in old.limits) run) Range
  judged = cc (append-nil (map Closed run), run_judged old.limits d count s (former_end old) (follows old s d at))

  pub run_kept : AreAdded old (map Closed run) new → list_any (breaks_in old.limits) run ≡ false
  run_kept are = unless (list_any (breaks_in old.limits) run) Range (sym judged ∙ are.passed [])

  pub run_range : (fault : TimeFault) → IsFaultOf old (map Closed run) fault → IsRange (list_any (breaks_in old.limits) run) fault
  run_range fault is = IfSome_then (refusal fault) is (λ f holds. is_range (list_any (breaks_in old.limits) run) f (sym judged ∙ holds []))

-- ---- the first segments

pub row_none : (l : RunsBuilder) (d count : ℕ) → IsFresh l → count ≡ 0 → IsRow l.limits d count l
unfolding repeated
row_none l d count fresh none = rw none (record {
  laid = fresh.laid;
  closed = fresh.closed;
  limits_are = refl;
  former = omega (arith, fresh.former);
  members = fresh.none;
  kept = refl;
})

pub row_added : (old new : RunsBuilder) (d count : ℕ) (r : Result (Unit {0}) TimeFault) → IsFresh old →
    MatchResult r (λ _. AreAdded old (map Closed (row_of old.limits d count)) new)
    (λ f. IsFaultOf old (map Closed (row_of old.limits d count)) f) →
    new.limits ≡ old.limits → OnOk r (new.former ≡ 0 + count * d) → OnOk r (IsNone new.endless) → OnOk r (IsInTime new) →
    MatchResult r (λ _. IsRow old.limits d count new) (IsRange (list_any (breaks_in old.limits) (row_of old.limits d count)))
row_added old new d count (Ok done) fresh are limits former closed laid = record {
  laid = laid;
  closed = closed;
  limits_are = limits;
  former = omega (arith, former);
  members = cc (are.added, fresh.none);
  kept = run_kept old new 0 d count (sym fresh.former) are;
}
row_added old new d count (Err f) fresh is limits former closed laid = run_range old new 0 d count (sym fresh.former) f is

-- ---- the last segment

module _ (l : Limits) (ticks : ℕ) (scale : l.ticks ≡ ticks) (origin : l.origin ≡ 0) where
  pub placed_at : (t : ℕ) → placed_in l t ≡ in_units ticks t
  placed_at t =
      let same : pos t -ℤ pos 0 ≡ pos t = omega (arith, ints) in
      cc

  pub whole_last : (length s d : ℕ) → (s + d) * 1000000000 ≤ length * ticks → last_extent ticks length s d ≡ extent_in l s d
  whole_last length s d fits =
      let bound = nanoseconds (pos length) in
      let whole = cond-false (before bound (in_units ticks (s + d))) bound (in_units ticks (s + d))
      (le-ltb (length * ticks) ((s + d) * 1000000000) fits) in
      cc (placed_at s, placed_at (s + d))

  by-run : (d count k : ℕ) → extents_by ticks d k count ≡ repeated count (extent_in l (k * d) d)
  unfolding extents_by repeated
  by-run d zero k = refl
  by-run d (suc count) k =
      let next : (k + 1) * d ≡ k * d + d = omega arith in
      cc (placed_at (k * d), placed_at (k * d + d), by-run d count (k + 1), repeat-extent_in l (k * d) d)

  -- all but the last one are whole
  cut-snoc : (bound : Time) (d whole k : ℕ) → cut_at bound (extents_by ticks d k (suc whole))
      ≡ extents_by ticks d k whole ++ record {
        start = in_units ticks ((k + whole) * d);
        end = earlier (in_units ticks ((k + whole) * d + d)) bound;
      } ∷ []
  unfolding extents_by
  cut-snoc bound d zero k =
      let here : k * d ≡ (k + 0) * d = omega arith in
      let end : (k + 1) * d ≡ (k + 0) * d + d = omega arith in
      cc
  cut-snoc bound d (suc whole) k =
      let place : (k + 1) + whole ≡ k + suc whole = omega arith in
      ap (λ (xs : List Extent). extent_at ticks d k ∷ xs)
      (cc (cut-snoc bound d whole (k + 1)))

  pub names_cut : (length d whole count : ℕ) → count ≡ suc whole → expansion_of_names ticks (At length) d count
      ≡ map Closed (row_of l d whole) ++ Closed (last_extent ticks length (whole * d) d) ∷ []
  names_cut length d whole count more =
      let start : 0 * d ≡ 0 = omega arith in
      let place : 0 + whole ≡ whole = omega arith in
      let last = last_extent ticks length (whole * d) d in
      let by_map_append = map-append (λ (x : Extent). Closed x) (row_of l d whole) (last ∷ []) in
      cc (cut-snoc (nanoseconds (pos length)) d whole 0, by-run d whole 0)

  pub names_whole : (d count : ℕ) → expansion_of_names ticks Unbounded d count ≡ map Closed (row_of l d count)
  names_whole d count =
      let start : 0 * d ≡ 0 = omega arith in
      cc (by-run d count 0)

  -- ---- limits

  pub break_by : (members : List Member) → extents_break (breaks_limits ticks 0) members ≡ extents_break (breaks_in l) members
  break_by members = cc

pub break_row : (p : Extent → Bool) (xs : List Extent) (ys : List Member) → extents_break p (map Closed xs ++ ys)
    ≡ (list_any p xs || extents_break p ys)
break_row p [] ys = refl
break_row p (x ∷ xs) ys = cc (break_row p xs ys, or_assoc (p x) (list_any p xs) (extents_break p ys))

pub last_added : (old new : RunsBuilder) (ticks length d start : ℕ) (r : Result (Unit {0}) TimeFault) → old.limits.ticks ≡ ticks →
    old.limits.origin ≡ 0 → start ≡ old.former → (start + d) * 1000000000 ≤ length * ticks →
    MatchResult r (λ _. AreAdded old (map Closed (repeated 1 (extent_in old.limits start d))) new)
    (λ f. IsFaultOf old (map Closed (repeated 1 (extent_in old.limits start d))) f) → new.limits ≡ old.limits → OnOk r (IsInTime new) →
    MatchResult r (λ _. IsLast old (last_extent ticks length old.former d) new)
    (IsRange (breaks_in old.limits (last_extent ticks length old.former d)))
unfolding repeated
last_added old new ticks length d start (Ok done) scale origin at fits are limits laid =
    let x = extent_in old.limits start d in
    let last_is = whole_last old.limits ticks scale origin length start d fits in
    rw (← at) (record {
      laid = laid.laid;
      limits_are = limits;
      members = are.added ∙ ap (λ (y : Extent). members_so_far old ++ Closed y ∷ []) (sym last_is);
      kept = cc (last_is, or-false (breaks_in old.limits x), run_kept old new start d 1 at are);
    })
last_added old new ticks length d start (Err f) scale origin at fits is limits laid =
    let x = extent_in old.limits start d in
    let last_is = whole_last old.limits ticks scale origin length start d fits in
    rw (← at) (subst (λ (b : Bool). IsRange b f) (or-false (breaks_in old.limits x) ∙ ap (breaks_in old.limits) (sym last_is))
    (run_range old new start d 1 at f is))

-- ---- so many segments, of which the last one is cut

-- a segment that ends before its start, within the limits
late_kept : (ticks s length : ℕ) → s < 2 ^ 63 → length < 10 ^ 19 → length * ticks ≤ s * 1000000000
    → breaks_limits ticks 0 (record { start = in_units ticks s; end = nanoseconds (pos length) }) ≡ false
late_kept ticks s length near small late =
    let x : Extent = record { start = in_units ticks s; end = nanoseconds (pos length) } in
    let bound : Time = record { ticks = pos (2 ^ 63) -ℤ pos 0; scale = ticks } in
    let short = not_before-from (seconds 1000000) (lasting x) (omega (arith, ints)) in
    let near_enough = not_before-from (seconds 100000000000) x.end (omega (arith, ints)) in
    cc (not_at_most-from bound x.end (omega (arith, ints)))

range_first : (p b : Bool) (rest : Option TimeFault) (f : TimeFault) → (b ≡ true → p ≡ true) → IsRange b f
    → IsCountedFault (or_fault (fault_if p Range) rest) f
range_first p b rest f same is = IfSome_then (refusal f) is (λ g h. cc (same h.1, h.0))

begins_at : (ticks length d whole count : ℕ) → count ≡ suc whole → begins_late ticks (At length) d count
    ≡ at_most (nanoseconds (pos length)) (in_units ticks (whole * d))
begins_at ticks length d whole count more =
    let some : nat_lt 0 count ≡ true = lt-ltb 0 count (omega arith) in
    let before : count - 1 ≡ whole = omega arith in
    cc

module _ (l : Limits) {ticks : ℕ} (scale : l.ticks ≡ ticks) (origin : l.origin ≡ 0) (length d : ℕ) {whole count : ℕ}
    (more : count ≡ suc whole) where
  abbrev last : Extent
  last = last_extent ticks length (whole * d) d

  abbrev broken : Bool
  broken = extents_break (breaks_limits ticks 0) (expansion_of_names ticks (At length) d count)

  cut_broken : broken ≡ (list_any (breaks_in l) (row_of l d whole) || breaks_in l last)
  cut_broken =
      let by_break_by = break_by l ticks scale origin (map Closed (row_of l d whole) ++ Closed last ∷ []) in
      let by_break_row = break_row (breaks_in l) (row_of l d whole) (Closed last ∷ []) in
      cc (names_cut l ticks scale origin length d whole count more, or-false (breaks_in l last))

  pub cut_first : (f : TimeFault) → IsRange (list_any (breaks_in l) (row_of l d whole)) f
      → IsCountedFault (cut_fault ticks length d count) f
  cut_first f is = range_first broken _ _ f (λ b. cut_broken ∙ ap (λ (c : Bool). c || breaks_in l last) b) is

  broken_last : list_any (breaks_in l) (row_of l d whole) ≡ false → broken ≡ breaks_in l last
  broken_last kept = cut_broken ∙ ap (λ (b : Bool). b || breaks_in l last) kept

  judged_last : (late : Bool) → list_any (breaks_in l) (row_of l d whole) ≡ false → breaks_in l last ≡ false
      → at_most (nanoseconds (pos length)) (in_units ticks (whole * d)) ≡ late → cut_fault ticks length d count ≡ fault_if late ListLength
  judged_last late kept fine is = cc (broken_last kept, begins_at ticks length d whole count more)

  pub cut_late : list_any (breaks_in l) (row_of l d whole) ≡ false → 0 < d → whole * d < 2 ^ 63 → length < 10 ^ 19
      → length * ticks ≤ whole * d * 1000000000 → cut_fault ticks length d count ≡ Some ListLength
  cut_late kept some near small late =
      let end = cond-true (before (nanoseconds (pos length)) (in_units ticks (whole * d + d))) (nanoseconds (pos length))
      (in_units ticks (whole * d + d)) (lt-ltb (length * ticks) ((whole * d + d) * 1000000000) (omega arith)) in
      judged_last true kept (cc (late_kept ticks (whole * d) length near small late))
      (at_most-from (nanoseconds (pos length)) (in_units ticks (whole * d)) (omega (arith, ints)))

  pub cut_end : (mid new : RunsBuilder) (r : Result (Unit {0}) TimeFault) → IsRow l d whole mid → mid.former * 1000000000 < length * ticks →
      MatchResult r (λ _. IsLast mid (last_extent ticks length mid.former d) new)
      (IsRange (breaks_in mid.limits (last_extent ticks length mid.former d))) →
      MatchResult r (λ _. AreCounted ticks (expansion_of_names ticks (At length) d count) (cut_fault ticks length d count) new)
      (IsCountedFault (cut_fault ticks length d count))
  cut_end mid new (Ok done) row early is =
      let same : last_extent ticks length mid.former d ≡ last = ap (λ (n : ℕ). last_extent ticks length n d) row.former in
      let limits_are : new.limits ≡ l = is.limits_are ∙ row.limits_are in
      record {
        scale = rw limits_are scale;
        origin = rw limits_are origin;
        laid = is.laid;
        members_are = cc (is.members, row.members, same, names_cut l ticks scale origin length d whole count more);
        judged = judged_last false row.kept (cc (is.kept, row.limits_are))
            (not_at_most-from (nanoseconds (pos length)) (in_units ticks (whole * d))
            (omega (arith, ints, ap (λ (n : ℕ). n * 1000000000) row.former)));
      }
  cut_end mid new (Err f) row early is =
      range_first broken (breaks_in l last) _ f (λ b. broken_last row.kept ∙ b) (rw (row.former, row.limits_are) at is)

pub cut_none : (l : RunsBuilder) (ticks length d count : ℕ) → IsFresh l → l.limits.ticks ≡ ticks → count ≡ 0
    → AreCounted ticks (expansion_of_names ticks (At length) d count) (cut_fault ticks length d count) l
unfolding extents_by
cut_none l ticks length d count fresh scale none =
    rw none (record { scale = scale; origin = fresh.origin; laid = fresh.laid.laid; members_are = fresh.none; judged = refl })

-- ---- by the kind of end

-- as many as it takes up to the Period's end begin before it
never_late : (ticks length d : ℕ) → 0 < ticks → 0 < d
    → begins_late ticks (At length) d (steps_to_cover (nanoseconds (pos length)) (in_units ticks d)) ≡ false
never_late ticks length d positive some =
    let count = steps_to_cover (nanoseconds (pos length)) (in_units ticks d) in
    elim (cases_lt 0 count) [
      | inl has ↦
          begins_at ticks length d (count - 1) count (omega arith)
          ∙ not_at_most-from (nanoseconds (pos length)) (in_units ticks ((count - 1) * d))
          (last_covers ticks d positive some length (count - 1) (omega arith))
      | inr none ↦ ap (λ (b : Bool). b && at_most (nanoseconds (pos length)) (in_units ticks ((count - 1) * d))) (le-ltb 0 count none)
    ]

pub counted_at : (ticks length d n : ℕ) (names : Option ℕ) → n ≡ count_until ticks length d names → 0 < ticks → 0 < d
    → cut_fault ticks length d n ≡ counted_fault ticks (At length) d names
counted_at ticks length d n (Some count) is positive some = ap (cut_fault ticks length d) is
counted_at ticks length d n None is positive some =
    cc (never_late ticks length d positive some)

members_at : (ticks length d : ℕ) (names : Option ℕ) → expansion_of_names ticks (At length) d (count_until ticks length d names)
    ≡ members_by ticks (At length) d names
members_at ticks length d None = refl
members_at ticks length d (Some count) = refl

pub counted_up_to : (ticks length d n : ℕ) (names : Option ℕ) (l : RunsBuilder) → n ≡ count_until ticks length d names → 0 < ticks → 0 < d
    → AreCounted ticks (expansion_of_names ticks (At length) d n) (cut_fault ticks length d n) l
    → AreCounted ticks (members_by ticks (At length) d names) (counted_fault ticks (At length) d names) l
counted_up_to ticks length d n names l is positive some are = record {
  scale = are.scale;
  origin = are.origin;
  laid = are.laid;
  members_are = are.members_are ∙ ap (expansion_of_names ticks (At length) d) is ∙ members_at ticks length d names;
  judged = sym (counted_at ticks length d n names is positive some) ∙ are.judged;
}

pub open_fault : (l : RunsBuilder) (d : ℕ) (f : TimeFault) (meant : Option TimeFault) → former_end l ≡ None
    → IsFaultOf l (Endless (extent_in l.limits 0 d) ∷ []) f → IsCountedFault meant f
open_fault l d f meant former is = IfSome_then (refusal f) is (λ g holds. cc (former, holds []))

-- by the number of names
module _ {limits of : Limits} (limits_are : limits ≡ of) (origin : of.origin ≡ 0) (d n count : ℕ) (is : n ≡ count) where
  scale_is : limits.ticks ≡ of.ticks
  scale_is = ap (λ (k : Limits). k.ticks) limits_are

  origin_is : limits.origin ≡ 0
  origin_is = ap (λ (k : Limits). k.origin) limits_are ∙ origin

  row_breaks : extents_break (breaks_limits of.ticks 0) (members_by of.ticks Unbounded d (Some count))
      ≡ list_any (breaks_in limits) (row_of limits d n)
  row_breaks =
      let row = row_of limits d count in
      let whole = names_whole limits of.ticks scale_is origin_is d count in
      let by_break_row = break_row (breaks_in limits) row [] in
      let by_or_false = or-false (list_any (breaks_in limits) row) in
      cc (append-nil (map Closed row), break_by limits of.ticks scale_is origin_is (map Closed row))

  pub names_done : (new : RunsBuilder) → IsRow limits d n new →
      AreCounted of.ticks (members_by of.ticks Unbounded d (Some count)) (counted_fault of.ticks Unbounded d (Some count)) new
  names_done new row = record {
    scale = ap (λ (k : Limits). k.ticks) row.limits_are ∙ scale_is;
    origin = ap (λ (k : Limits). k.origin) row.limits_are ∙ origin_is;
    laid = row.laid.laid;
    members_are = cc (row.members, names_whole limits of.ticks scale_is origin_is d count);
    judged = ap (λ (b : Bool). or_fault (fault_if b Range) None) (row_breaks ∙ row.kept);
  }

  pub names_fault : (f : TimeFault) → IsRange (list_any (breaks_in limits) (row_of limits d n)) f
      → IsCountedFault (counted_fault of.ticks Unbounded d (Some count)) f
  names_fault f holds = range_first _ _ None f (λ b. row_breaks ∙ b) holds

-- ---- order

pub duration_kept : (ticks d : ℕ) (end : End) (names : Option ℕ) (l : RunsBuilder) → 0 < ticks → 0 < d →
    AreCounted ticks (members_by ticks end d names) (counted_fault ticks end d names) l → AreKept (members_so_far l)
duration_kept ticks d end names l positive some are =
    let members = members_by ticks end d names in
    let none = no_faults _ _ are.judged in
    let row = durations_row ticks d positive some end names (unless _ ListLength none.1) in
    rw are.members_are
    (kept_of (λ x. ticks) 0 members (row_lasting members row) (row_fault (breaks_limits ticks 0) members row (unless _ Range none.0)))

-- ---- segments whose times are given one by one

module _ (start end : Tick) (lasts : ℕ) (is_lasting : (lasting (one_extent start end)).ticks ≡ pos lasts) where
  abbrev s : ℕ
  s = start.scale

  abbrev e : ℕ
  e = end.scale

  -- ---- limits

  ends_in_ticks : at_most (record { ticks = pos (2 ^ 63) -ℤ pos 0; scale = e }) (one_extent start end).end ≡ int_le (pos (2 ^ 63)) end.n
  ends_in_ticks = int_le-cancel (pos (2 ^ 63) -ℤ pos 0) end.n e end.positive

  lasts_long : before (seconds 1000000) (lasting (one_extent start end)) ≡ ltb (1000000 * (s * e)) lasts
  lasts_long =
      let scales : 1000000 * (e * s) ≡ 1000000 * (s * e) = omega arith in
      let same : lasts * 1 ≡ lasts = omega arith in
      cc

  pub breaks_else : end.n <ℤ pos (2 ^ 63) → lasts ≤ 1000000 * (s * e) → span_breaks_limits (one_extent start end)
      ≡ before (seconds 100000000000) (time_of end)
  breaks_else early short =
      let in_time = ends_in_ticks ∙ not_int_le-from (pos (2 ^ 63)) end.n early in
      cc (lasts_long ∙ le-ltb (1000000 * (s * e)) lasts short)

  pub short_lasts : too_long (one_extent start end) ≡ false → lasts ≤ 1000000 * (s * e)
  short_lasts short = ltb-false (1000000 * (s * e)) lasts (sym lasts_long ∙ short)

  -- ---- the distance from a time

  pub is_apart_span : (former : Tick) (gap : ℕ) → unsigned_abs (difference (time_of start) (time_of former)).ticks ≡ gap
      → is_apart (Some (time_of former)) (one_extent start end) ≡ ltb (lasts * former.scale) (2 * gap * e)
  is_apart_span former gap is_gap =
      let left : lasts * (s * former.scale) ≡ lasts * former.scale * s = omega arith in
      let right : 2 * gap * (e * s) ≡ 2 * gap * e * s = omega arith in
      cc (ltb-scaled (lasts * former.scale) (2 * gap * e) s _ _ start.positive refl refl)

  -- farther from it than a segment may last
  pub far_apart : (former : Tick) (gap : ℕ) → lasts ≤ 1000000 * (s * e) → 1000000 * (former.scale * s) < gap
      → ltb (lasts * former.scale) (2 * gap * e) ≡ true
  far_apart former gap short far =
      lt-ltb (lasts * former.scale) (2 * gap * e) (omega (
        arith,
        mul-le-mul_right former.scale short,
        mul-lt-mul_of_pos_left far end.positive,
      ))

-- ---- a row of spans

pub span_fault : (ticks : ℕ) (spans : List Span) (l : RunsBuilder) (former : Option Tick) (rest : List Span) (span : Span)
    (later : List Span) (fault : TimeFault) → IsRowSoFar ticks spans l former rest → rest ≡ span ∷ later →
    fault_of_span former span ≡ Some fault → IsTheirFault span_breaks_limits (expansion_of_list spans) fault
span_fault ticks spans l former rest span later fault so_far at is =
    refusal_some fault (λ f. segment_fault span_breaks_limits None (expansion_of_list spans) ≡ Some f)
    (cc (
      so_far.judged,
      fault_of_two (span_breaks_limits (extent_of span)) (is_apart (option_map time_of former) (extent_of span)) fault
          (segment_fault span_breaks_limits (Some (time_of span.end)) (expansion_of_list later)) is,
    ))

pub span_more : (ticks : ℕ) (spans : List Span) (l : RunsBuilder) (former : Option Tick) (rest : List Span) (span : Span)
    (later : List Span) (new : RunsBuilder) → IsRowSoFar ticks spans l former rest → rest ≡ span ∷ later →
    fault_of_span former span ≡ None → members_so_far new ≡ members_so_far l ++ Closed (one_extent span.start span.end) ∷ []
    → new.total ≡ l.total + 1 → new.limits ≡ l.limits → IsNone new.endless → IsLaidOut new →
    IsRowSoFar ticks spans new (Some span.end) later
span_more ticks spans l former rest span later new so_far at none added total limits closed laid =
    let kept = passes _ _ None none in
    let more : length rest ≡ length later + 1 = ap length at ∙ omega arith in
    record {
      scale = ap (λ (k : Limits). k.ticks) limits ∙ so_far.scale;
      origin = ap (λ (k : Limits). k.origin) limits ∙ so_far.origin;
      laid = laid;
      closed = closed;
      number = omega (arith, so_far.number);
      lasting = (or_parts (lasts_no_time (extent_of span)) (have_no_time later) (sym (ap have_no_time at) ∙ so_far.lasting)).1;
      members = cc (so_far.members, append_assoc (members_so_far l) (Closed (extent_of span) ∷ []) (expansion_of_list later));
      judged = cc (
        so_far.judged,
        head_passes span_breaks_limits (option_map time_of former) (extent_of span) (expansion_of_list later) kept.0 kept.1,
      );
    }

pub list_kept : (ticks : ℕ) (spans : List Span) (l : RunsBuilder) → have_no_time spans ≡ false →
    AreInRow ticks (expansion_of_list spans) l → AreKept (members_so_far l)
list_kept ticks spans l lasting are =
    rw are.members_are (kept_of (λ x. x.end.scale) 0 (expansion_of_list spans) (spans_last spans lasting) are.judged)
