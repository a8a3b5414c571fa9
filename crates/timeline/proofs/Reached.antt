-- How far the segments of an S go on.
use Rattle.std.proofs.lemmas.List.{append_assoc, append-nil, map-append, drop-drop, length-append, length-drop}
use Rattle.std.proofs.Common.{inl, inr, ◌≡◌, ℕ, ap₂, zero, suc, ◌+◌, ◌-◌, ◌*◌, ◌<◌, ◌≤◌, Bool, true, false, cond, List, ◌∷◌, map, ℤ, pos}
use Rattle.std.proofs.Common.{negsuc, [], ◌+ℤ◌, ◌-ℤ◌, ◌*ℤ◌, Option, Some, None, refl, ◌∙◌, sym, ap, subst, arith, ◌^◌, max, ltb, ◌||◌}
use Rattle.std.proofs.{Common.{◌++◌, length, drop}, lemmas.Int.ints, lemmas.Option.IfSome_then, lemmas.Bool.Decides.nat_tests}
use Rattle.std.proofs.lemmas.Bool.{cond-true, cond-false, or_parts, cases_Bool, cases_lt, eq-eqb, ne_eqb, le-ltb, lt-leb}
use Rattle.std.proofs.{Math.Nat.{one-le-mul, mul-le-mul_right}, Math.Seq.drop-nil}
use Rattle.std.specs.{Prelude.{◌⊎◌, slice_get, not, ◌&&◌, ◌==◌, Option, Some, None, IsNone, unsigned_abs}, List.list_any}
use Rattle.std.specs.Int.{FitsUnsignedBits, abs_diff}
use Rattle.exact_time.specs.{Time.{Time, IsBefore, IsAtMost, difference, nanoseconds}, Floor.IsCeiling}
use Rattle.timeline.specs.{declared.entry.Scale.Scale, declared.entry.End.End, declared.entry.End.TheVariants.{At, Unbounded}}
use Rattle.timeline.specs.{declared.fault.TimeFault.TimeFault, declared.fault.TimeFault.TheVariants.{Range, Step}}
use Rattle.timeline.specs.{declared.builder.RunsBuilder.RunsBuilder, declared.limits.Limits.Limits, declared.names.Names.Names}
use Rattle.timeline.specs.{declared.media_run.MediaRun.MediaRun, declared.media_runs.MediaRuns.MediaRuns}
use Rattle.timeline.specs.{declared.shared_timeline.LaidTimeline.LaidTimeline, declared.timelines.Reach.Reach as Found}
use Rattle.timeline.specs.{declared.timelines.Reach.TheVariants.{Count, Open, Nowhere, Nowhere as Without}, Ratios.natural}
use Rattle.timeline.specs.Expansions.{Extent, Member, Closed, Short, lasting, repeated, Endless, repeat_of}
use Rattle.timeline.specs.Timelines.{UpTo, placed, extent_from, count_up_to, members_of, reach_of, reach_of_end, members_from}
use Rattle.timeline.specs.Timelines.{expansion_of_timeline, reach_of_next}
use Rattle.timeline.specs.{SegmentTimelines.{timeline_of_entries, timeline_of_members, timeline_if_paired}, Limits.breaks_limits}
use Rattle.timeline.specs.{Steady.{AreKept, AreLasting}, Faults.{ends_open, is_apart, is_unbounded, refusal, segment_fault}}
use Rattle.timeline.specs.Building.{AreAdded, IsLaidOut, IsFaultOf, breaks_in, extent_in, fault_of, former_end, members_so_far, placed_in}
use Rattle.timeline.specs.Building.{runs_in}
use Rattle.timeline.specs.Reaches.{GoesOn as MoreFollow, IsUpTo, IsReach, AreLaidOut, AreLimitsOf, IsSoFar, IsTheirFault}
use Rattle.timeline.specs.Reaches.{members_of_entry, next_of, start_of}
use Rattle.timeline.specs.MediaTimelines.{AreMediaRuns, IsLaidTimeline, IsMedia, IsNextRun, IsPushed, LaysOut, are_passed}
use Rattle.timeline.specs.MediaTimelines.{expansion_of_laid, timeline_of_laid, media_end, rest_of, runs_by}
use Rattle.timeline.specs.RunSegments.{IsRun, all_extents, placed_run}
use Rattle.mpd_entries.specs.declared.entry.SEntry.{SEntry}
use Rattle.timeline.proofs.Ratios.{steps_to_cover-is, ceiling-is, int_le-mul, int_add-mul, ceiling, ceiling-enough, ceiling-le}
use Rattle.timeline.proofs.Laid.{refusal_some, IsRun-in, extents-push, extents_after, laid-push, none_follows, none_of, room_after}
use Rattle.timeline.proofs.{Laid.timed-in, Paced.kept_of, ExpansionsRise.{entries_last, repeated_last}}
use Rattle.timeline.proofs.OpenEnds.{closed_not_open, open_expands}
use Rattle.timeline.proofs.{Judged.{breaks-mono, head_breaks, is_apart-in, media_extent-in, run_fault}, LimitLemmas.{breaks_media, abs-lt}}
use Rattle.exact_time.proofs.TimeOrder.{at_most-from, not_at_most-from}
use mir.Val.{SFits}
use mir.Syntax.{w64}

positive_from : (count length step : ℕ) → IsCeiling length step count → 0 < length → 0 < count
positive_from count length step is some = grind (arith, is.enough)

-- a segment's start, and how long it lasts, over one scale
module _ (scale : Scale) (s d : ℕ) (some : 0 < d) where
  abbrev k : ℕ
  k = scale.ticks

  abbrev o : ℕ
  o = scale.offset

  abbrev x : Extent
  x = extent_from scale s d

  abbrev media : ℕ → ℤ
  media t = pos t -ℤ pos o

  media-add : (t n : ℕ) → media (t + n) *ℤ pos k ≡ media t *ℤ pos k +ℤ pos (n * k)
  media-add t n =
      let sum : media (t + n) ≡ media t +ℤ pos n = omega (arith, ints) in cc (int_add-mul (media t) n k)

  lasts : natural (media (s + d) *ℤ pos k -ℤ media s *ℤ pos k) ≡ d * k
  lasts =
      let same : media (s + d) *ℤ pos k -ℤ media s *ℤ pos k ≡ pos (d * k) = omega (arith, ints, media-add s d) in ap natural same

  -- from its start to a later media time
  later : (t : ℕ) → s < t → media t *ℤ pos k ≡ media s *ℤ pos k +ℤ pos ((t - s) * k)
  later t early = let sum : s + (t - s) ≡ t = omega arith in cc (media-add s (t - s))

  in_nanoseconds : media s *ℤ pos 1000000000 +ℤ pos (o * 1000000000) ≡ pos (s * 1000000000)
  in_nanoseconds =
      let sum : media s +ℤ pos o ≡ pos s = omega (arith, ints) in cc (int_add-mul (media s) o 1000000000)

  module _ (bound : Time) (before after : ℕ) (unit : ℕ) (positive : 0 < unit) (is_late : (after ≤ before)
      → IsAtMost bound x.start) (is_early : before < after → IsBefore x.start bound)
      (counts : before < after → (n : ℕ) → IsCeiling (after - before) (d * unit) n → count_up_to bound x ≡ n) where
    reach_up_to : (found : Found) → IsUpTo after before (d * unit) found → IsReach (UpTo bound) x found
    reach_up_to (Count count) (early, is) =
        let same = counts early count is in (
          positive_from count (after - before) (d * unit) is (omega arith),
          sym same,
          rw (not_at_most-from bound x.start (is_early early), same) refl,
        )
    reach_up_to Open is = absurd is
    reach_up_to Nowhere late = rw (at_most-from bound x.start (is_late late)) refl

  -- up to a media time
  pub reach_up_to_media : (t : ℕ) (found : Found) → IsUpTo t s d found → IsReach (UpTo (placed scale t)) x found
  reach_up_to_media t found is = reach_up_to (placed scale t) s t 1 (omega arith)
      (λ late. int_le-mul (media t) (media s) k (omega (arith, ints)))
      (λ early. let some_time : 0 < t - s = omega arith in omega (arith, ints, later t early, one-le-mul some_time scale.positive))
      (λ early n is.
      let between : media t *ℤ pos k -ℤ media s *ℤ pos k ≡ pos ((t - s) * k) = omega (arith, ints, later t early) in
      let steps : natural (media t *ℤ pos k -ℤ media s *ℤ pos k) ≡ (t - s) * k = ap natural between in
      steps_to_cover-is (difference (placed scale t) x.start) (lasting x) (t - s) (d * 1) (k * (k * k))
      (one-le-mul scale.positive (one-le-mul scale.positive scale.positive)) (omega arith)
      (ap (λ (m : ℕ). m * (k * k)) steps ∙ omega arith) (ap (λ (m : ℕ). k * k * m) lasts ∙ omega arith)
      ∙ ceiling-is (t - s) (d * 1) n (omega arith) is)
      found (subst (λ (m : ℕ). IsUpTo t s m found) (omega arith) is)

  -- up to a length from the Period's start
  pub reach_up_to_end : (length : ℕ) (found : Found) → IsUpTo (length * k + o * 1000000000) (s * 1000000000) (d * 1000000000) found
      → IsReach (UpTo (nanoseconds (pos length))) x found
  reach_up_to_end length found is = reach_up_to (nanoseconds (pos length)) (s * 1000000000) (length * k + o * 1000000000) 1000000000
      (omega arith) (λ late. omega (arith, ints, in_nanoseconds)) (λ early. omega (arith, ints, in_nanoseconds))
      (λ early n is.
      let between : pos (length * k) -ℤ media s *ℤ pos 1000000000 ≡ pos (length * k + o * 1000000000 - s * 1000000000) =
      omega (arith, ints, in_nanoseconds) in
      let steps : natural (pos (length * k) -ℤ media s *ℤ pos 1000000000) ≡ length * k + o * 1000000000 - s * 1000000000 =
      ap natural between in
      steps_to_cover-is (difference (nanoseconds (pos length)) x.start) (lasting x) (length * k + o * 1000000000 - s * 1000000000)
      (d * 1000000000) (k * k) (one-le-mul scale.positive scale.positive) (omega arith)
      (ap (λ (m : ℕ). m * (k * k)) steps) (ap (λ (m : ℕ). 1000000000 * k * m) lasts ∙ omega arith)
      ∙ ceiling-is (length * k + o * 1000000000 - s * 1000000000) (d * 1000000000) n (omega arith) is)
      found is

-- ---- faults

pub extent_in-from : (scale : Scale) (l : Limits) (s d : ℕ) → AreLimitsOf scale l → extent_in l s d ≡ extent_from scale s d
extent_in-from scale l s d are = cc (are.origin, are.ticks)

short_of_two : (a b : Bool) (fault : TimeFault) → cond a (Some Range) (cond b (Some Step) None) ≡ Some fault
    → cond a (Some Range) (Some Step) ≡ Some fault
short_of_two a b fault is = grind (arith, nat_tests)

pub IsFaultOf-short : (old : RunsBuilder) (x : Extent) (members : List Member) (fault : TimeFault) → members ≡ Short x ∷ []
    → fault_of old.limits (former_end old) x ≡ Some fault → IsFaultOf old members fault
IsFaultOf-short old x members fault short is =
    rw short (refusal_some fault
    (λ f. (later : List Member) → segment_fault (breaks_in old.limits) (former_end old) (Short x ∷ later) ≡ Some f)
    (λ later. short_of_two (breaks_in old.limits x) (is_apart (former_end old) x) fault is))

-- ---- how far an S goes on that has a negative `@r`

pub reach_next : (scale : Scale) (end : End) (r : ℤ) (later : List SEntry) (next : SEntry) (t : ℕ) → SFits w64 r
    → (FitsUnsignedBits 64 r → ⊥) → Some next ≡ slice_get later 0 → next.t ≡ Some t →
    reach_of scale end r later ≡ UpTo (placed scale t)
reach_next scale end (pos r) later next t fits negative at is = absurd (negative (omega (arith, fits.sfits)))
reach_next scale end (negsuc r) [] next t fits negative at is = cc
reach_next scale end (negsuc r) (s ∷ later) next t fits negative at is = let same : next ≡ s = cc in cc

pub reach_last : (scale : Scale) (end : End) (r : ℤ) (later : List SEntry) (length : ℕ) → SFits w64 r → (FitsUnsignedBits 64 r → ⊥)
    → None ≡ slice_get later 0 → end ≡ At length →
    reach_of scale end r later ≡ UpTo (nanoseconds (pos length))
reach_last scale end (pos r) later length fits negative at is = absurd (negative (omega (arith, fits.sfits)))
reach_last scale end (negsuc r) [] length fits negative at is = ap reach_of_end is
reach_last scale end (negsuc r) (s ∷ later) length fits negative at is = cc

pub fault_in : (scale : Scale) (l : Limits) → AreLimitsOf scale l → (former : Option Time) (members : List Member) →
    segment_fault (breaks_limits scale.ticks scale.offset) former members ≡ segment_fault (breaks_in l) former members
fault_in scale l are former members = rw (← are.ticks, ← are.origin) refl

pub fault_so_far : (scale : Scale) (end : End) (members : List Member) (l : RunsBuilder) (rest : List SEntry) (s : SEntry)
    (later : List SEntry) (fault : TimeFault) → IsSoFar scale end members l rest → rest ≡ s ∷ later →
    IsFaultOf l (members_of_entry scale end l.former s later) fault → IsTheirFault (breaks_limits scale.ticks scale.offset) members fault
fault_so_far scale end members l rest s later fault so_far at is =
    IfSome_then (refusal fault) is (λ f holds.
    cc (
      fault_in scale l.limits so_far.limits None members,
      so_far.judged,
      holds (members_from scale end (next_of scale end l.former s later) later),
    ))

pub members_nowhere : (scale : Scale) (end : End) (former : ℕ) (s : SEntry) (later : List SEntry) (start : ℕ) → start ≡ start_of former s →
    members_of (reach_of scale end s.r later) (extent_from scale start s.d) ≡ Short (extent_from scale start s.d) ∷ []
    → members_of_entry scale end former s later ≡ Short (extent_from scale start s.d) ∷ []
members_nowhere scale end former s later start is short = cc

-- the segments of one more S are in the row
pub so_far_more : (scale : Scale) (end : End) (all : List Member) (l new : RunsBuilder) (rest : List SEntry) (s : SEntry)
    (later : List SEntry) → IsSoFar scale end all l rest → rest ≡ s ∷ later →
    AreAdded l (members_of_entry scale end l.former s later) new → new.limits ≡ l.limits → IsLaidOut new → MoreFollow new later
    → (new.former ≡ next_of scale end l.former s later) ⊎ (later ≡ []) → IsSoFar scale end all new later
so_far_more scale end all l new rest s later so_far at added limits laid goes_on former =
    let members = members_of_entry scale end l.former s later in
    let behind : members_from scale end (next_of scale end l.former s later) later ≡ members_from scale end new.former later =
    elim former [ inl same ↦ cc | inr none ↦ cc ] in
    record {
      limits = rw limits so_far.limits;
      laid = laid;
      lasting = (or_parts (s.d == 0) (list_any (λ e. e.d == 0) later) (sym (ap (list_any (λ e. e.d == 0)) at) ∙ so_far.lasting)).1;
      goes_on = goes_on;
      members_are = cc (so_far.members_are, added.added, append_assoc (members_so_far l) members (members_from scale end new.former later));
      judged = cc (so_far.judged, added.passed (members_from scale end (next_of scale end l.former s later) later));
    }

-- ---- a timeline

-- laid out, it has no fault
pub judged_by : (scale : Scale) (l : RunsBuilder) (members : List Member) → AreLaidOut scale members l
    → segment_fault (breaks_limits scale.ticks scale.offset) None members ≡ None
judged_by scale l members are = fault_in scale l.limits are.limits None members ∙ are.judged

pub timeline_built : (no_time unended : Bool) (members : List Member) (end : End) (live : Bool) (scale : Scale) (names : Names)
    (l : RunsBuilder) → no_time ≡ false → (not live && is_unbounded end && unended) ≡ false → AreLaidOut scale members l
    → timeline_of_members no_time unended members end live scale names ≡ timeline_if_paired scale scale.offset names (members_so_far l)
timeline_built no_time unended members end live scale names l lasting ended are =
    rw (are.members_are, lasting, ended, judged_by scale l members are) refl

-- ---- how many segments an S has, whatever the scale

alone_closed : (count : ℕ) (m : Member) (y : Extent) → 0 < count → m ∷ [] ≡ map Closed (repeated count y) → m ≡ Closed y
unfolding repeated
alone_closed zero m y some is = absurd (omega arith)
alone_closed (suc count) m y some is = cc

module _ (s0 scale : Scale) (start d count : ℕ) (some : 0 < d) where
  abbrev x0 : Extent
  x0 = extent_from s0 start d

  abbrev y : Extent
  y = extent_from scale start d

  up_to_any : (t : ℕ) → IsReach (UpTo (placed s0 t)) x0 (Count count) → IsReach (UpTo (placed scale t)) y (Count count)
  up_to_any t found = elim (cases_lt start t) [
    | inl early ↦
        let n = ceiling (t - start) d in
        let least : IsCeiling (t - start) d n =
        record { enough = ceiling-enough (t - start) d some; least = λ other h. ceiling-le (t - start) d other some h } in
        let first = reach_up_to_media s0 start d some t (Count n) (early, least) in
        subst (λ (k : ℕ). IsReach (UpTo (placed scale t)) y (Count k)) (first.1 ∙ sym found.1)
        (reach_up_to_media scale start d some t (Count n) (early, least))
    | inr late ↦
        let no = alone_closed count (Short x0) x0 found.0 (sym (reach_up_to_media s0 start d some t Without late) ∙ found.2) in cc
  ]

  next_any : (t : Option ℕ) → IsReach (reach_of_next s0 t) x0 (Count count) → IsReach (reach_of_next scale t) y (Count count)
  next_any None found = let no = alone_closed count (Short x0) x0 found.0 found.2 in cc
  next_any (Some t) found = up_to_any t found

  pub any_scale : (end : End) (r : ℤ) (later : List SEntry) → IsReach (reach_of s0 Unbounded r later) x0 (Count count)
      → IsReach (reach_of scale end r later) y (Count count)
  any_scale end (pos r) later found = (found.0, found.1, ap (λ (n : ℕ). map Closed (repeated n y)) (sym found.1))
  any_scale end (negsuc r) [] found = let no = alone_closed count (Endless x0) x0 found.0 found.2 in cc
  any_scale end (negsuc r) (next ∷ later) found = next_any next.t found

-- the same where the start is told otherwise
pub any_scale_at : (s0 scale : Scale) (from start d count : ℕ) → 0 < d → from ≡ start → (end : End) (r : ℤ) (later : List SEntry)
    → IsReach (reach_of s0 Unbounded r later) (extent_from s0 from d) (Count count) →
    IsReach (reach_of scale end r later) (extent_from scale start d) (Count count)
any_scale_at s0 scale from start d count some same end r later found = any_scale s0 scale start d count some end r later (rw same at found)

-- ---- the first fault

cond_or : {X : Type 0} (p q : Bool) (a b : X) → cond (p || q) a b ≡ cond p a (cond q a b)
cond_or p q a b = grind (arith, nat_tests)

passed_more : (m far a d f e : ℕ) → f ≤ e → (ltb m (max a d) || ltb far e) ≡ ((ltb m a || ltb far f) || (ltb m d || ltb far e))
passed_more m far a d f e order = grind (arith, nat_tests)

end_is : (l : Limits) (m : MediaRuns) → 0 < m.total → media_end l m ≡ Some (placed_in l m.former)
end_is l m some = cond-false (m.total == 0) None _ (ne_eqb m.total 0 (omega arith))

near_media : (l : Limits) (m : MediaRuns) (s d : ℕ) → (0 < m.total → 2 * m.former ≤ 2 * s + d) → (0 < m.total → 2 * s ≤ 2 * m.former + d)
    → is_apart (media_end l m) (extent_in l s d) ≡ false
near_media l m s d late early = elim (cases_lt 0 m.total) [
  | inr none ↦ rw (cond-true (m.total == 0) None (Some (placed_in l m.former)) (eq-eqb m.total 0 (omega arith))) refl
  | inl some ↦
      let late_enough = late some in
      let early_enough = early some in
      let gap = abs_diff s m.former in
      rw (end_is l m some) (is_apart-in l s d m.former gap l.positive (grind arith) ∙ le-ltb d (2 * gap) (omega arith))
]

module _ (l : Limits) (s d count : ℕ) (some : 0 < count) (near : s + count * d < 2 ^ 63) where
  abbrev broken : Bool
  broken = ltb (1000000 * l.ticks) d || ltb (l.origin + l.ticks * 100000000000) (s + count * d)

  breaks_last : (k : ℕ) → s + count * d ≡ (s + k * d) + d → breaks_in l (extent_in l (s + k * d) d) ≡ broken
  breaks_last k end =
      let by_breaks_media = breaks_media l (s + count * d) d (omega (arith, end)) in
      cc (media_extent-in l (s + k * d) d (s + count * d) end, lt-leb (2 ^ 63) (s + count * d) near)

run_judged : (l : Limits) (s d count : ℕ) (former : Option Time) (later : List Member) → 0 < count → s + count * d < 2 ^ 63
    → is_apart former (extent_in l s d) ≡ false →
    segment_fault (breaks_in l) former (map Closed (repeated count (extent_in l s d)) ++ later)
    ≡ cond (ltb (1000000 * l.ticks) d || ltb (l.origin + l.ticks * 100000000000) (s + count * d)) (Some Range)
    (segment_fault (breaks_in l) (Some (placed_in l (s + count * d))) later)
unfolding repeated
run_judged l s d zero former later some near apart = absurd (omega arith)
run_judged l s d (suc n) former later some near apart =
    let rest = segment_fault (breaks_in l) (Some (placed_in l (s + suc n * d))) later in
    let last = breaks_last l s d (suc n) some near n (omega arith) in
    elim (cases_Bool (breaks_in l (extent_in l s d))) [
      | inl early ↦
          head_breaks (breaks_in l) former (extent_in l s d) (map Closed (repeated n (repeat_of (extent_in l s d))) ++ later) early
          ∙ sym (cond-true _ (Some Range) rest (sym last ∙ breaks-mono l s (s + n * d) d l.positive (omega arith) early))
      | inr fine ↦ cc (run_fault l d n s former later l.positive fine apart)
    ]

-- ---- one more run

small_abs : (a b : ℕ) → a < 2 ^ 64 → b < 2 ^ 64 → unsigned_abs (pos a -ℤ pos b) < 2 ^ 64
small_abs a b a_small b_small = abs-lt (pos a -ℤ pos b) (2 ^ 64) (omega (arith, ints)) (omega (arith, ints))

module _ (entries : List SEntry) (m new : MediaRuns) (s : SEntry) (later : List SEntry) (run : MediaRun) (is : IsMedia entries m)
    (rest : rest_of entries m ≡ s ∷ later) (next : IsNextRun m s later run) (pushed : IsPushed m run new) where
  step_lasts : 0 < run.step
  step_lasts = omega (arith, next.lasting, next.step)

  least : run.step ≤ run.count * run.step
  least = omega (arith, mul-le-mul_right run.step next.some)

  not_later : m.former ≤ run.start + run.count * run.step
  not_later = grind (arith, next.late_enough, is.runs.begun, least)

  fits : m.total + run.count ≤ run.start + run.count * run.step
  fits = room_after m.total run.start run.step run.count step_lasts next.some (grind (arith, next.late_enough, is.runs.room))

  runs_new : (l : Limits) → runs_by l new ≡ runs_by l m ++ placed_run l.ticks l.origin run ∷ []
  runs_new l = cc (pushed.runs, map-append (placed_run l.ticks l.origin) m.runs.items (run ∷ []))

  abbrev added : Limits → List Extent
  added l = repeated run.count (extent_in l run.start run.step)

  members_new : (l : Limits) (more : List Member) → map Closed (all_extents (runs_by l new)) ++ more
      ≡ map Closed (all_extents (runs_by l m)) ++ (map Closed (added l) ++ more)
  members_new l more = rw (runs_new l, extents-push (runs_by l m) (placed_run l.ticks l.origin run), map-append, append_assoc) refl

  shorter : length entries - length m.runs.items ≡ length later + 1
  shorter = omega (arith, length-drop (length m.runs.items) entries, ap length rest)

  longer : length new.runs.items ≡ length m.runs.items + 1
  longer = ap length pushed.runs ∙ length-append m.runs.items (run ∷ []) ∙ omega arith

  pub rest_new : later ≡ rest_of entries new
  rest_new = ap (drop 1) (sym rest) ∙ drop-drop 1 (length m.runs.items) entries ∙ ap (λ (n : ℕ). drop n entries) (sym longer)

  judged_new : (l : Limits) (more : List Member) → segment_fault (breaks_in l) None (map Closed (all_extents (runs_by l new)) ++ more)
      ≡ cond (are_passed l new.longest new.former) (Some Range) (segment_fault (breaks_in l) (media_end l new) more)
  judged_new l more =
      let rest_fault = segment_fault (breaks_in l) (Some (placed_in l (run.start + run.count * run.step))) more in
      let here = ltb (1000000 * l.ticks) run.step || ltb (l.origin + l.ticks * 100000000000) (run.start + run.count * run.step) in
      let swap : l.ticks * 1000000 ≡ 1000000 * l.ticks = omega arith in
      let end = end_is l new (omega (arith, pushed.total, next.some)) in
      let before = is.runs.judged l (map Closed (added l) ++ more) in
      let behind = run_judged l run.start run.step run.count (media_end l m) more next.some next.near
      (near_media l m run.start run.step next.late_enough next.early_enough) in
      let passed = passed_more (l.ticks * 1000000) (l.origin + l.ticks * 100000000000) m.longest run.step m.former
      (run.start + run.count * run.step) not_later in
      cc (members_new l more, cond_or (are_passed l m.longest m.former) here (Some Range) rest_fault)

  expanded_new : (scale : Scale) (end : End) (l : Limits) → l.ticks ≡ scale.ticks → l.origin ≡ scale.offset →
      expansion_of_timeline scale end entries ≡ map Closed (all_extents (runs_by l new)) ++ members_from scale end new.former
      (rest_of entries new)
  expanded_new scale end l ticks origin =
      let reach = next.reach scale end in
      let same = extent_in-from scale l run.start run.step (record { ticks = ticks; origin = origin }) in
      let before = is.members scale end l ticks origin in
      let front = ap (members_from scale end m.former) rest in
      cc (reach.1, reach.2, members_new l (members_from scale end new.former (rest_of entries new)), rest_new)

  run_is : (l : Limits) → l.origin < 2 ^ 64 → IsRun (placed_run l.ticks l.origin run)
  run_is l small = IsRun-in l run.start run.step run.count
      (placed_run l.ticks l.origin run) refl refl refl refl step_lasts next.some next.near
      (omega (arith, next.before, fits, next.near)) (small_abs run.start l.origin (omega (arith, next.near)) small)
      (small_abs (run.start + run.step) l.origin (omega (arith, next.near, least)) small)

  runs_more : AreMediaRuns new
  runs_more = record {
    begun = λ none. absurd (omega (arith, none, pushed.total, next.some));
    room = omega (arith, fits, pushed.total, pushed.former);
    near = omega (arith, next.near, pushed.former);
    laid = λ l small. rw (runs_new l, pushed.total)
        (laid-push 0 (runs_by l m) m.total (placed_run l.ticks l.origin run) (is.runs.laid l small) next.before next.some (run_is l small));
    timed = λ l. extents_after (runs_by l new) (runs_by l m) (placed_run l.ticks l.origin run) (added l) (runs_new l) refl
        (λ y. natural (y.start.ticks +ℤ pos l.origin) < 2 ^ 64) (is.runs.timed l)
        (timed-in l run.step run.count run.start (omega (arith, next.near)));
    lasting = λ l more last. subst AreLasting (sym (members_new l more)) (is.runs.lasting l (map Closed (added l) ++ more)
        (repeated_last run.count (extent_in l run.start run.step) more
        (record { one_scale = refl; end_is = l.positive; rises = omega (arith, ints) }) last));
    judged = judged_new;
  }

  pub media_more : IsMedia entries new
  media_more = record { runs = runs_more; fewer = omega (arith, shorter, longer); members = expanded_new }

-- ---- what was laid out

-- S elements from a place on go on up to the Period's end as all of them do, where there are any
open_behind : (n : ℕ) (entries : List SEntry) (s : SEntry) (later : List SEntry) → drop n entries ≡ s ∷ later
    → ends_open (drop n entries) ≡ ends_open entries
open_behind zero entries s later at = refl
open_behind (suc n) [] s later at = refl
open_behind (suc n) (x ∷ []) s later at = absurd (cc (drop-nil n))
open_behind (suc n) (x ∷ next ∷ entries) s later at = open_behind n (next ∷ entries) s later at

module _ (scale : Scale) (entries : List SEntry) (m : MediaRuns) (is : IsMedia entries m) where
  -- and where there is none, the last one doesn't
  closed_behind : rest_of entries m ≡ [] → ends_open entries ≡ false
  closed_behind none = elim (cases_Bool (ends_open entries)) [
    | inr closed ↦ closed
    | inl is_open ↦
        let l : Limits = record { ticks = scale.ticks; origin = scale.offset; positive = scale.positive } in
        let members = is.members scale Unbounded l refl refl in
        let runs = closed_not_open (all_extents (runs_by l m)) in
        absurd (let some = open_expands scale 0 entries is_open in cc (append-nil (map Closed (all_extents (runs_by l m)))))
  ]

  pub open_left : ends_open (rest_of entries m) ≡ ends_open entries
  open_left = left (rest_of entries m) refl where
    left : (rest : List SEntry) → rest_of entries m ≡ rest → ends_open (rest_of entries m) ≡ ends_open entries
    left [] none = ap ends_open none ∙ sym (closed_behind none)
    left (s ∷ later) at = open_behind (length m.runs.items) entries s later at

module _ (t : LaidTimeline) (is : IsLaidTimeline t) (scale : Scale) (l : Limits) (are : AreLimitsOf scale l) where
  members_at : (end : End) → expansion_of_laid scale end t
      ≡ map Closed (all_extents (runs_by l t.media)) ++ members_from scale end t.media.former t.rest
  members_at end = ap₂ (λ k o. map Closed (all_extents (map (placed_run k o) t.media.runs.items))
      ++ members_from scale end t.media.former t.rest) (sym are.ticks) (sym are.origin)

  pub laid_kept : (end : End) (b : RunsBuilder) → AreLaidOut scale (expansion_of_laid scale end t) b → t.no_time ≡ false
      → AreKept (members_so_far b)
  laid_kept end b laid some =
      let last = is.media.lasting l (members_from scale end t.media.former t.rest)
      (entries_last scale end t.media.former t.rest (is.lasting some)) in
      rw laid.members_are (kept_of (λ x. b.limits.ticks) b.limits.origin (expansion_of_laid scale end t)
      (subst AreLasting (sym (members_at end)) last) laid.judged)

  pub passed_fault : are_passed l t.media.longest t.media.former ≡ true → (end : End)
      → segment_fault (breaks_limits scale.ticks scale.offset) None (expansion_of_laid scale end t) ≡ Some Range
  passed_fault passed end =
      fault_in scale l are None (expansion_of_laid scale end t) ∙ ap (segment_fault (breaks_in l) None) (members_at end)
      ∙ is.media.judged l (members_from scale end t.media.former t.rest)
      ∙ cond-true (are_passed l t.media.longest t.media.former) (Some Range) _ passed

  pub begun_so_far : (b : RunsBuilder) (rest : List SEntry) → b.limits ≡ l → runs_in b ≡ runs_by l t.media → b.total ≡ t.media.total
      → b.former ≡ t.media.former → IsNone b.endless → rest ≡ t.rest → l.origin < 2 ^ 64 → t.no_time ≡ false
      → are_passed l t.media.longest t.media.former ≡ false → (end : End)
      → IsSoFar scale end (expansion_of_laid scale end t) b rest
  begun_so_far b rest limits runs total former none at small lasting kept end =
      let laid : IsLaidOut b = record {
        laid = rw (runs, total) (is.media.laid l small);
        follows = none_follows b.limits.ticks b.limits.origin b.total b.endless none;
        countable = omega (arith, total, is.media.room, is.media.near);
        timed = rw (runs, limits) (is.media.timed l);
      } in
      let so_far : members_so_far b ≡ map Closed (all_extents (runs_by l t.media)) = rw (none_of b.endless none, append-nil, runs) refl in
      let behind : members_from scale end b.former rest ≡ members_from scale end t.media.former t.rest = cc in
      let former_is : former_end b ≡ media_end l t.media = cc in
      record {
        limits = subst (λ (k : Limits). AreLimitsOf scale k) (sym limits) are;
        laid = laid;
        lasting = cc (is.lasting lasting);
        goes_on = inl (record { laid = laid; room = omega (arith, is.media.room); near = omega (arith, is.media.near) }, none);
        members_are = cc (members_at end);
        judged =
            let by_judged = is.media.judged l (members_from scale end t.media.former t.rest) in
            cc (members_at end, cond-false (are_passed l t.media.longest t.media.former) (Some Range) _ kept);
      }

-- ---- what S elements are laid out as

any_drop : {X : Type 0} (test : X → Bool) (k : ℕ) (xs : List X) → list_any test xs ≡ false → list_any test (drop k xs) ≡ false
any_drop test zero xs none = none
any_drop test (suc k) [] none = none
any_drop test (suc k) (x ∷ xs) none = any_drop test k xs (or_parts (test x) (list_any test xs) none).1

some_scale : Scale
some_scale = record { ticks = 1; offset = 0; start_number = 0; positive = omega arith; countable = omega arith }

module _ (entries : List SEntry) (t : LaidTimeline) (is : IsMedia entries t.media) (rest : t.rest ≡ rest_of entries t.media)
    (no_time : t.no_time ≡ list_any (λ s. s.d == 0) entries) where
  pub laid_timeline : IsLaidTimeline t
  laid_timeline = record {
    media = is.runs;
    lasting = λ none. ap (list_any (λ s. s.d == 0)) rest
        ∙ any_drop (λ s. s.d == 0) (length t.media.runs.items) entries (sym no_time ∙ none);
  }

  pub lays_out : LaysOut entries t
  lays_out = record {
    no_time = no_time;
    ending = ap ends_open rest ∙ open_left some_scale entries t.media is;
    members = λ scale end. ap (λ more. map Closed (all_extents (map (placed_run scale.ticks scale.offset) t.media.runs.items))
        ++ members_from scale end t.media.former more) rest
        ∙ sym (is.members scale end (record { ticks = scale.ticks; origin = scale.offset; positive = scale.positive }) refl refl);
  }

-- what is laid out means what the S elements mean
pub laid_means : (entries : List SEntry) (t : LaidTimeline) → LaysOut entries t → (end : End) (live : Bool) (scale : Scale) (names : Names)
    → timeline_of_laid t end live scale names ≡ timeline_of_entries entries end live scale names
laid_means entries t is end live scale names = rw (is.no_time, is.ending, is.members scale end) refl
