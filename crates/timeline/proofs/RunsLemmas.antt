-- The calls of a `Runs`, by its fields: the listed segments are those behind the first ones that end by the one bound, among
-- those that end by the other.
use Rattle.std.proofs.Common.{◌≡◌, ℕ, zero, suc, ◌+◌, ◌-◌, ◌*◌, ◌<◌, ◌≤◌, ◌^◌, min, max, Bool, true, false, not, ◌&&◌, List, ◌∷◌, ◌++◌, []}
use Rattle.std.proofs.Common.{length, take, drop, ℤ, pos, negsuc, ◌+ℤ◌, ◌-ℤ◌, ◌≤ℤ◌, ◌*ℤ◌, ltb, refl, ◌∙◌, sym, ap, subst, inl, inr, arith}
use Rattle.std.proofs.{Common.{length-append, length-take, length-drop, get_or}, lemmas.Int.ints, lemmas.Bool.Decides.nat_tests}
use Rattle.std.proofs.{lemmas.List.Sums.sum_by-cons, lemmas.Bool.{cases_lt, false≢true, lt-ltb, le-ltb, cases_Bool}}
use Rattle.std.proofs.lemmas.List.Elements.{filter_agree, All-filter, All-weaker, All-drop, All-from_recursion, recursion_from_All}
use Rattle.std.proofs.Math.Nat.{mul-le-mul_left}
use Rattle.std.specs.Prelude.{Option, Some, None, option_map, IsSome, is_some, count_by, sum_by, cond, filter, unwrap_or, All}
use Rattle.std.specs.{Int.int_max, List.AllByRecursion, List.Sorted.{IsPartitionedBy, IsPartitionPoint}}
use Rattle.exact_time.specs.Time.{Time, seconds, before, at_most, nanoseconds, AreRising}
use Rattle.exact_time.proofs.TimeOrder.{before-is}
use Rattle.timeline.specs.{Bounds.{StandsFor, StandsForSome, time_of_bound, low_of}, Expansions.{SegmentTimeline, Extent, Timing, extents}}
use Rattle.timeline.specs.{Expansions.{is_open, numbered, repeated, repeat_of}, Kept.{Follows, FollowsOn, IsKept, timeline_of, runs_of}}
use Rattle.timeline.specs.{Limits.{breaks_limits, media_extent, too_long}, Listed.{expansion, is_after, is_until, is_listed, listed}}
use Rattle.timeline.specs.Listed.{listed_from}
use Rattle.timeline.specs.Listed.{instant_of, is_out_of_range, IsWindowOf, IsReached, IsFirstListed, IsPlaceAfter, IsWithin, CanBeNamed}
use Rattle.timeline.specs.Places.{closed_total, reached_count, reached_by, count_until, open_extents, IsLastBegun, closed_count}
use Rattle.timeline.specs.RunSegments.{AreLaidFrom, HasRoom, IsTail, TimedRun, all_extents, count_ended, endless_count, endless_extents}
use Rattle.timeline.specs.{RunSegments.{extents_of_some, first_of, AreLaid, extents_of, head_of}, Steady.{AreLasting, ArePaced, EndInTime}}
use Rattle.timeline.specs.{Steady.{IsSteady, IsWithinLimits}, declared.bound.Bound.Bound, declared.limits.Limits.Limits}
use Rattle.timeline.specs.{declared.run.Endless.Endless, declared.runs.Runs.TheInside.Inside, declared.window.Window.Window}
use Rattle.timeline.specs.{declared.run_slice.Test.TheVariants.BeginsBy, RunTables.passes}
use Rattle.timeline.proofs.KeptLemmas.{AreReached, EndsNear, StartsTimed, alike_open, alike_open_breaks, all_append, lasts_some}
use Rattle.timeline.proofs.KeptLemmas.{all_laid, length-laid, near_run, reached_open, room_reached, scales_open, scales_run, run_at}
use Rattle.timeline.proofs.Rises.{ends_rise, no_step_from}
use Rattle.timeline.proofs.{LimitLemmas.{breaks_at, AreAlike, some_breaks}, Paced.{listed_within, listed_paced}}
use Rattle.timeline.proofs.NumberedLemmas.{count-numbered, count_all, drop-numbered, length-numbered, splits-numbered, take-numbered}
use Rattle.timeline.proofs.SegmentTimelineLemmas.{HasScale, LastsSome, count_ended-append, count_ended-le, count_ended-open, ends_of}
use Rattle.timeline.proofs.SegmentTimelineLemmas.{place_of-parts, splits_rising, ends_by_time, none_ended, front_ended, open_at, open_count}
use Rattle.timeline.proofs.SegmentTimelineLemmas.{open_breaks_limits, members_of_parts, extents-parts, is_open-parts, open_extents-parts}
use Rattle.timeline.proofs.{SegmentTimelineLemmas.{out_of_range-parts, reached-parts, total-parts, closed-parts}, Ratios.int_le-mul}
use Rattle.timeline.proofs.{Repeats.{length-repeated, count_ended-in}, Splits.{SplitsAt, IsPlaceOf, between, drop-place, filter-before}}
use Rattle.timeline.proofs.Splits.{filter-between, first-between, splits_after, splits_all, splits_before, splits_within}
use Rattle.timeline.proofs.{Splits.{take-place, splits_front, splits_rest}, WalkLemmas.length-extents}

-- ---- the bounds of a window

-- what a window's upper bound says of its `until`
record HasUntil (until : Option ℤ) (bound : Bound) : Type 0 where
  count : ℤ
  is : until ≡ Some count
  stands : StandsFor bound (nanoseconds count)

some_high : (until : Option ℤ) (bound : Bound) → StandsForSome (Some bound) (option_map nanoseconds until) → HasUntil until bound
some_high None bound stands = absurd stands
some_high (Some u) bound stands = record { count = u; is = refl; stands = stands }

none_high : (until : Option ℤ) → StandsForSome None (option_map nanoseconds until) → until ≡ None
none_high None stands = refl
none_high (Some u) stands = absurd stands

after_low : (after : Option ℤ) (t : Time) → (before (seconds 0) t && is_after after t)
    ≡ not (at_most t (nanoseconds (int_max (unwrap_or after (pos 0)) (pos 0))))
after_low None t = grind (arith, ints, nat_tests)
after_low (Some (pos zero)) t = grind (arith, ints, nat_tests)
after_low (Some (pos (suc a))) t =
    let more : 0 ≤ suc a * t.scale = omega arith in
    grind (arith, ints, nat_tests)
after_low (Some (negsuc a)) t =
    let less : (negsuc a *ℤ pos t.scale) ≤ℤ pos 0 = omega (arith, ints, int_le-mul (negsuc a) (pos 0) t.scale (omega (arith, ints))) in
    grind (arith, ints, nat_tests)

-- a segment is listed where it doesn't end by the one bound, and ends by the other
listed_between : (window : Window) (x : Timing) → is_listed window x
    ≡ between (λ (y : Timing). at_most y.end (low_of window)) (λ (y : Timing). is_until window.until y.end) x
listed_between window x = ap (λ (b : Bool). b && is_until window.until x.end) (after_low window.after x.end)

-- ---- segments by a time

length-open : (t : Time) (e : Option Endless) → length (open_at t e) ≡ open_count t e
length-open t None = refl
length-open t (Some e) = length-repeated (endless_count e t) (first_of e)

alike_ended : (s t : Time) → AreAlike s t → (ys : List Extent) → AllByRecursion EndsNear ys → count_ended s ys ≡ count_ended t ys
alike_ended s t alike [] near = refl
alike_ended s t alike (y ∷ ys) near =
    let by_sum_by_cons = sum_by-cons (λ (x : Extent). cond (at_most x.end s) 1 0) y ys in
    cc (alike y.end near.0, alike_ended s t alike ys near.1, sum_by-cons (λ (x : Extent). cond (at_most x.end t) 1 0) y ys)

splits_until : (until : Option ℤ) (ys : List Extent) → ((t : Time) → SplitsAt (ends_by_time t) (count_ended t ys) ys) →
    SplitsAt (λ (x : Extent). is_until until x.end) (count_by (λ (x : Extent). is_until until x.end) ys) ys
splits_until None ys splits = rw (count_all ys) (splits_all (λ (x : Extent). true) (λ _. refl) ys)
splits_until (Some u) ys splits = splits (nanoseconds u)

-- without an upper bound no segments go on to an open end
none_open : (until : Option ℤ) (t : Time) (e : Option Endless) → until ≡ None → (is_some e ≡ true → IsSome until) → open_count t e ≡ 0
none_open until t None no_until window = refl
none_open until t (Some e) no_until window = absurd (false≢true (rw no_until at (window refl)))

ended_open : (t : Time) (e : Option Endless) → 0 < t.scale → LastsSome e → count_ended t (open_at t e) ≡ open_count t e
ended_open t None time lasts = refl
ended_open t (Some e) time lasts = count_ended-open t t e time lasts ∙ (omega arith)

-- ends rise
splits_kept : (r : Inside) → IsKept r → (instant t : Time) → SplitsAt (ends_by_time t)
    (count_ended t (all_extents (runs_of r) ++ open_at instant r.endless)) (all_extents (runs_of r) ++ open_at instant r.endless)
splits_kept r kept instant t =
    let xs = all_extents (runs_of r) in
    let ends = open_at instant r.endless in
    let rises = ends_rise (timeline_of r).members kept.lasting (no_step_from too_long None (timeline_of r).members kept.steady) instant in
    splits_rising t (xs ++ ends)
    (all_append HasScale xs ends (all_laid HasScale scales_run 0 (runs_of r) r.total kept.laid) (scales_open instant r.endless))
    (subst (λ (ys : List Extent). AreRising (ends_of ys)) (extents-parts instant xs r.endless) rises)

-- segments whose starts have media times, and whose numbers are not below the first one
named_all : (timeline : SegmentTimeline) (number : ℕ) (xs : List Extent) → timeline.first_number ≤ number →
    AllByRecursion (StartsTimed timeline.origin) xs → AllByRecursion (CanBeNamed timeline) (numbered number xs)
named_all timeline number [] above timed = tt
named_all timeline number (x ∷ xs) above timed =
    (record { numbered = above; timed = timed.0 }, named_all timeline (number + 1) xs (omega arith) timed.1)

-- ---- a `Runs` at a window

module _ {r : Inside} (kept : IsKept r) {timeline : SegmentTimeline} (view : timeline_of r ≡ timeline)
    (window : Window) (is_window : IsWindowOf timeline window) where
  abbrev xs : List Extent
  xs = all_extents (runs_of r)

  abbrev opened : Time → List Extent
  opened t = open_at t r.endless

  members_are : timeline.members ≡ members_of_parts xs r.endless
  members_are = sym (ap (λ (c : SegmentTimeline). c.members) view)

  long : length xs ≡ r.total
  long = omega (arith, length-laid 0 (runs_of r) r.total kept.laid)

  follows_on : FollowsOn timeline.ticks timeline.origin r.total r.endless
  follows_on = subst (λ (c : SegmentTimeline). FollowsOn c.ticks c.origin r.total r.endless) view kept.follows

  out_of_range_is : is_out_of_range timeline window ≡ open_breaks_limits timeline.ticks timeline.origin (instant_of window) r.endless
  out_of_range_is = cc (out_of_range-parts timeline window xs r.endless)

  pub open_extents_is : open_extents timeline window ≡ opened (instant_of window)
  open_extents_is = cc (open_extents-parts (instant_of window) xs r.endless)

  pub closed_total_is : closed_total timeline ≡ r.total
  closed_total_is = cc (total-parts xs r.endless, long)

  pub none_open_broken : r.endless ≡ None → false ≡ is_out_of_range timeline window
  none_open_broken is = sym (out_of_range_is ∙ ap (open_breaks_limits timeline.ticks timeline.origin (instant_of window)) is)

  pub none_open_tail : r.endless ≡ None → [] ≡ open_extents timeline window
  none_open_tail is = sym (open_extents_is ∙ ap (open_at (instant_of window)) is)

  -- the segments that go on to an open end, up to a bound
  module _ {e : Endless} (is : r.endless ≡ Some e) (bound : Bound)
      (high : StandsForSome (Some bound) (option_map nanoseconds window.until)) where
    has : HasUntil window.until bound
    has = some_high window.until bound high

    follows : Follows timeline.ticks timeline.origin r.total e
    follows = subst (λ (o : Option Endless). FollowsOn timeline.ticks timeline.origin r.total o) is follows_on

    instant : instant_of window ≡ nanoseconds has.count
    instant = ap (λ (o : Option ℤ). nanoseconds (unwrap_or o (pos 0))) has.is

    out_of_range_some : is_out_of_range timeline window ≡ open_breaks_limits timeline.ticks timeline.origin (nanoseconds has.count) (Some e)
    out_of_range_some = cc (out_of_range_is, instant)

    -- what the last segment tells
    module _ (count : ℕ) (count_is : count ≡ endless_count e (time_of_bound bound)) where
      broken_is : some_breaks e.start.scale timeline.origin e.start.n e.step count ≡ is_out_of_range timeline window
      broken_is = cc (
        alike_open_breaks timeline.ticks timeline.origin r.total (time_of_bound bound) (nanoseconds has.count) e has.stands
            bound.positive (omega arith) follows,
        out_of_range_some,
      )

      pub none_broken : count ≤ 0 → ltb 0 count ≡ is_out_of_range timeline window
      none_broken none = cc (le-ltb 0 count none, broken_is)

      pub last_broken : (limits : Limits) (end : ℕ) → limits.ticks ≡ r.scale.ticks → limits.origin ≡ r.origin → 0 < count →
          pos end ≡ (e.start.n +ℤ pos limits.origin) +ℤ pos (count * e.step) →
          breaks_limits limits.ticks limits.origin (media_extent limits end e.step) ≡ is_out_of_range timeline window
      last_broken limits end ticks origins some end_is =
          let origin : limits.origin ≡ timeline.origin = origins ∙ ap (λ (c : SegmentTimeline). c.origin) view in
          let scale : limits.ticks ≡ e.start.scale = ticks ∙ ap (λ (c : SegmentTimeline). c.ticks) view ∙ sym follows.scale in
          let once : 1 * e.step ≤ count * e.step = omega (arith, mul-le-mul_left e.step some) in
          let at : pos end -ℤ pos limits.origin ≡ e.start.n +ℤ pos (count * e.step) = omega (arith, ints) in
          cc (breaks_at limits end e.step (omega (arith, ints, follows.placed)), lt-ltb 0 count some, broken_is)

    module _ (is_reached : IsReached timeline window) where
      keeps_some : open_breaks_limits timeline.ticks timeline.origin (nanoseconds has.count) (Some e) ≡ false
      keeps_some = sym out_of_range_some ∙ is_reached

      same_count : endless_count e (time_of_bound bound) ≡ endless_count e (nanoseconds has.count)
      same_count = alike_open timeline.ticks timeline.origin r.total (time_of_bound bound) (nanoseconds has.count) (Some e) has.stands
          bound.positive (omega arith) follows keeps_some

      pub tail_room : HasRoom e (endless_count e (time_of_bound bound))
      tail_room = rw same_count
          (room_reached timeline.ticks timeline.origin r.total e (nanoseconds has.count) follows kept.countable keeps_some)

      pub tail_extents : endless_extents e (time_of_bound bound) ≡ open_extents timeline window
      tail_extents = cc (same_count, open_extents_is, instant)

      pub tail_before : e.before ≡ closed_total timeline
      tail_before = follows.place ∙ sym closed_total_is

  module _ (is_reached : IsReached timeline window) where
    abbrev all : List Extent
    all = xs ++ opened (instant_of window)

    abbrev whole : List Timing
    whole = numbered timeline.first_number all

    abbrev place : Bound → ℕ
    place bound = min (2 ^ 64 - 1) (reached_count timeline (time_of_bound bound))

    abbrev low : Timing → Bool
    low y = at_most y.end (low_of window)

    abbrev high : Timing → Bool
    high y = is_until window.until y.end

    -- how many end by the lower bound, and by the upper one
    abbrev first : ℕ
    first = count_ended (low_of window) all

    abbrev finish : ℕ
    finish = count_until timeline window

    all_are : extents (instant_of window) timeline.members ≡ all
    all_are = cc (members_are, extents-parts (instant_of window) xs r.endless)

    whole_is : expansion timeline window ≡ whole
    whole_is = ap (numbered timeline.first_number) all_are

    keeps : open_breaks_limits timeline.ticks timeline.origin (instant_of window) r.endless ≡ false
    keeps = sym out_of_range_is ∙ is_reached

    reached : AreReached timeline.origin r.total (instant_of window) r.endless
    reached = reached_open timeline.ticks timeline.origin r.total r.endless (instant_of window) follows_on kept.countable keeps

    near_xs : AllByRecursion EndsNear xs
    near_xs = all_laid EndsNear near_run 0 (runs_of r) r.total kept.laid

    long_all : length whole ≡ r.total + open_count (instant_of window) r.endless
    long_all =
        let by_length_append = length-append xs (opened (instant_of window)) in
        omega (arith, length-numbered timeline.first_number all, long, length-open (instant_of window) r.endless)

    splits_whole : (t : Time) → SplitsAt (λ (x : Timing). at_most x.end t) (count_ended t all) whole
    splits_whole t = splits-numbered (λ (end : Time). at_most end t) (count_ended t all) timeline.first_number all
        (splits_kept r kept (instant_of window) t)

    finish_is : finish ≡ count_by (λ (x : Extent). is_until window.until x.end) all
    finish_is = ap (count_by high) whole_is ∙ count-numbered (is_until window.until) timeline.first_number all

    high_splits : SplitsAt high finish whole
    high_splits = rw finish_is (splits-numbered (is_until window.until) _ timeline.first_number all
        (splits_until window.until all (splits_kept r kept (instant_of window))))

    finish_within : finish ≤ length whole
    finish_within = splits_within high finish whole high_splits

    few_all : finish ≤ 2 ^ 63
    few_all = omega (arith, finish_within, long_all, reached.few)

    reached_is : (s : Time) → reached_count timeline s ≡ count_ended s xs + open_count s r.endless
    reached_is s = ap (sum_by (reached_by s)) members_are ∙ reached-parts s xs r.endless

    lasts : LastsSome r.endless
    lasts = lasts_some timeline.ticks timeline.origin r.total r.endless follows_on

    -- the place by a bound
    placed : (bound : Bound) (t : Time) → StandsFor bound t → IsPlaceOf (place bound) (count_ended t all) whole
    placed bound t stands =
        let s = time_of_bound bound in
        let at = place_of-parts s (instant_of window) xs r.endless (2 ^ 64 - 1) bound.positive lasts
        (splits_kept r kept s s) (omega (arith, long, reached.few)) in
        let same = alike_ended s t stands all (all_append EndsNear xs (opened (instant_of window)) near_xs reached.near) in
        let counted = reached_is s in
        let number = length-numbered timeline.first_number all in
        elim at [ inl here ↦ inl (omega arith) | inr past ↦ inr (omega (arith, past.0), omega (arith, past.1)) ]

    -- the listed segments from a place on
    listed_whole : (from : ℕ) → listed_from from timeline window ≡ take (finish - max from first) (drop (max from first) whole)
    listed_whole from =
        filter_agree (is_listed window) (between low high) (listed_between window) (drop from (expansion timeline window))
        ∙ ap (λ (ys : List Timing). filter (between low high) (drop from ys)) whole_is
        ∙ filter-between low high first finish from whole (splits_whole (low_of window)) high_splits

    -- ---- the number of segments by the window's `until`

    pub finish_none : StandsForSome None (option_map nanoseconds window.until) → r.total ≡ finish
    finish_none unbound =
        let no_until = none_high window.until unbound in
        let open_none = none_open window.until (instant_of window) r.endless no_until
        (λ some. is_window (ap is_open members_are ∙ is_open-parts xs r.endless ∙ some)) in
        let counted = ap (λ (u : Option ℤ). count_by (λ (x : Extent). is_until u x.end) all) no_until ∙ count_all all in
        omega (arith, long_all, open_none, counted, finish_is, length-numbered timeline.first_number all)

    pub finish_some : (bound : Bound) → StandsForSome (Some bound) (option_map nanoseconds window.until) → place bound ≡ finish
    finish_some bound upper =
        let has = some_high window.until bound upper in
        let s = time_of_bound bound in
        let t = nanoseconds has.count in
        let instant : instant_of window ≡ t = ap (λ (o : Option ℤ). nanoseconds (unwrap_or o (pos 0))) has.is in
        let closed = alike_ended s t has.stands xs near_xs in
        let opens = alike_open timeline.ticks timeline.origin r.total s t r.endless has.stands bound.positive (omega arith) follows_on
        (rw instant at keeps) in
        let counted : finish ≡ count_ended t (xs ++ opened t) =
        finish_is ∙ ap (λ (o : Option ℤ). count_by (λ (x : Extent). is_until o x.end) all) has.is
        ∙ ap (λ (i : Time). count_ended t (xs ++ opened i)) instant in
        let whole = ended_open t r.endless (omega arith) lasts in
        let few : r.total + open_count t r.endless ≤ 2 ^ 63 = rw instant at reached.few in
        omega (arith, reached_is s, closed, opens, counted, count_ended-append t xs (opened t), whole, count_ended-le t xs, long, few)

    -- ---- `seek`

    pub seek_is : (bound : Bound) → StandsFor bound (low_of window) → IsFirstListed window (expansion timeline window) (place bound)
    seek_is bound stands =
        let here = placed bound (low_of window) stands in
        let low_splits = splits_whole (low_of window) in
        rw whole_is (record {
          none_before = filter_agree (is_listed window) (between low high) (listed_between window) (take (place bound) whole)
              ∙ ap (filter (between low high)) (take-place (place bound) first whole here) ∙ filter-before low high first whole low_splits;
          stands = elim (cases_lt first finish) [
            | inl less ↦
                let one = first-between low high first finish whole low_splits high_splits less in
                let same = filter_agree (is_listed window) (between low high) (listed_between window) (take 1 (drop first whole)) in
                inr (rw (drop-place (place bound) first whole here, same) one)
            | inr none ↦
                let zero_left : finish - max 0 first ≡ 0 = omega arith in
                inl (ap (listed window) (sym whole_is) ∙ listed_whole 0 ∙ ap (λ (n : ℕ). take n (drop (max 0 first) whole)) zero_left)
          ];
        })

    -- ---- `seek_end`

    pub seek_end_is : (bound : Bound) (t : Time) → StandsFor bound t → IsPlaceAfter t (expansion timeline window) (place bound)
    seek_end_is bound t stands =
        let here = placed bound t stands in
        let ends : Timing → Bool = λ x. at_most x.end t in
        let splits = splits_whole t in
        rw whole_is (record {
          none_before = rw (take-place (place bound) (count_ended t all) whole here) (splits_before ends (count_ended t all) whole splits);
          all_behind = rw (drop-place (place bound) (count_ended t all) whole here)
              (All-weaker (λ (x : Timing). at_most x.end t ≡ false) (λ x. before t x.end ≡ true) (λ x late. before-is t x.end ∙ ap not late)
              (drop (count_ended t all) whole) (splits_after ends (count_ended t all) whole splits));
        })

    -- ---- `count`, `count_from` and `walk`

    listed_at : (bound : Bound) → StandsFor bound (low_of window) → (from : ℕ) → listed_from from timeline window
        ≡ take (finish - max from (place bound)) (drop (max from (place bound)) whole)
    listed_at bound stands from = listed_whole from ∙ elim (placed bound (low_of window) stands) [
      | inl same ↦ ap (λ (n : ℕ). take (finish - max from n) (drop (max from n) whole)) (sym same)
      | inr past ↦
          let within = finish_within in
          let none : finish - max from (place bound) ≡ 0 = omega (arith, past.1) in
          let none_first : finish - max from first ≡ 0 = omega (arith, past.0) in
          cc
    ]

    taken_is : (begin left : ℕ) → take left (drop begin whole) ≡ numbered (timeline.first_number + begin) (take left (drop begin all))
    taken_is begin left =
        cc (drop-numbered begin timeline.first_number all, take-numbered left (timeline.first_number + begin) (drop begin all))

    pub walk_is : (bound : Bound) → StandsFor bound (low_of window) → (from begin left : ℕ) (tail : Option TimedRun) →
        extents_of_some tail ≡ open_extents timeline window → begin ≡ max from (place bound) → left ≡ finish - begin →
        numbered (r.scale.start_number + begin) (take left (drop begin (xs ++ extents_of_some tail))) ≡ listed_from from timeline window
    walk_is bound stands from begin left tail extents begin_is left_is =
        let number = ap (λ (c : SegmentTimeline). c.first_number) view in
        rw (number, extents, open_extents_is) (cc (listed_at bound stands from, taken_is begin left))

    pub count_from_is : (bound : Bound) → StandsFor bound (low_of window) → (from begin left : ℕ) → begin ≡ max from (place bound) →
        left ≡ finish - begin → left ≡ length (listed_from from timeline window)
    count_from_is bound stands from begin left begin_is left_is =
        let listed = ap length (listed_at bound stands from) in
        let first = max from (place bound) in
        omega (arith, listed, finish_within, length-take (finish - first) (drop first whole), length-drop first whole)

    -- what a walk asks for
    pub walk_laid : (tail : Option TimedRun) (begin left : ℕ) → IsTail (closed_total timeline) tail →
        extents_of_some tail ≡ open_extents timeline window → left ≡ finish - begin → 0 < left
        → AreLaidFrom 0 (runs_of r) tail (begin + left)
    walk_laid tail begin left is_tail extents left_is some =
        let laid : 0 + length xs ≡ r.total = omega (arith, long) in
        let tails : length (extents_of_some tail) ≡ length (opened (instant_of window)) = ap length (extents ∙ open_extents_is) in
        let both = length-append xs (opened (instant_of window)) in
        record {
          laid = rw laid kept.laid;
          tail_is = rw (laid, ← closed_total_is) is_tail;
          enough = omega (arith, finish_within, length-numbered timeline.first_number all, left_is, some, tails);
        }

    pub walk_countable : (begin left : ℕ) → left ≡ finish - begin → 0 < left → r.scale.start_number + (begin + left) < 2 ^ 64
    walk_countable begin left left_is some = omega (arith, few_all, left_is, some, r.scale.countable)

    steady : IsSteady timeline.members
    steady = subst (λ (c : SegmentTimeline). IsSteady c.members) view kept.steady

    lasting : AreLasting timeline.members
    lasting = subst (λ (c : SegmentTimeline). AreLasting c.members) view kept.lasting

    pub walk_paced : (from : ℕ) → ArePaced (listed_from from timeline window)
    walk_paced from =
        let begin = max from first in
        rw (listed_whole from, taken_is begin (finish - begin))
        (listed_paced timeline window all (timeline.first_number + begin) (finish - begin) begin all_are lasting steady is_reached)

    pub limits_are : (from : ℕ) → All IsWithinLimits (listed_from from timeline window)
    limits_are from = listed_within timeline window from lasting
        (subst (λ (c : SegmentTimeline). EndInTime c.members) view kept.in_time) steady is_reached

    -- ---- `resume`

    timed_all : AllByRecursion (StartsTimed timeline.origin) all
    timed_all = all_append (StartsTimed timeline.origin) xs (opened (instant_of window))
        (recursion_from_All (StartsTimed timeline.origin) xs
        (subst (λ (c : SegmentTimeline). All (StartsTimed c.origin) xs) view kept.timed))
        reached.timed

    pub within_is : (from : ℕ) → IsWithin timeline (listed_from from timeline window)
    within_is from =
        All-filter (is_listed window) (CanBeNamed timeline) (drop from (expansion timeline window))
        (All-drop (CanBeNamed timeline) from (expansion timeline window)
        (rw whole_is (All-from_recursion (CanBeNamed timeline) whole
        (named_all timeline timeline.first_number all (omega arith) timed_all))))

-- ---- where ends rise, the last run of which a segment has ended tells how many segments have

-- the first of its segments ends by the time
abbrev begun : Time → TimedRun → Bool
begun t s = at_most s.end t

some_repeated : (t : Time) (count : ℕ) (x : Extent) → 0 < count → at_most x.end t ≡ true → 0 < count_ended t (repeated count x)
unfolding repeated
some_repeated t zero x some early = absurd (omega arith)
some_repeated t (suc count) x some early = omega (arith, count_ended-in t x (repeated count (repeat_of x)) early)

none_repeated : (t : Time) (k count : ℕ) (x : Extent) (ys : List Extent) → 0 < count → at_most x.end t ≡ false
    → SplitsAt (ends_by_time t) k (repeated count x ++ ys) →
    count_ended t (repeated count x ++ ys) ≡ 0
unfolding repeated
none_repeated t k zero x ys some late is = absurd (omega arith)
none_repeated t zero (suc count) x ys some late is = none_ended t (x ∷ repeated count (repeat_of x) ++ ys) is
none_repeated t (suc k) (suc count) x ys some late is = absurd (false≢true (sym late ∙ is.0))

some_begun : (t : Time) (before total : ℕ) (xs : List TimedRun) (j : ℕ) (d : TimedRun) → AreLaid before xs total → j < length xs
    → begun t (get_or xs j d) ≡ true → 0 < count_ended t (all_extents xs)
some_begun t before total [] j d laid within early = absurd (omega arith)
some_begun t before total (s ∷ later) zero d (at, some, is, laid) within early =
    omega (arith, count_ended-append t (extents_of s) (all_extents later), some_repeated t s.count (head_of s) some early)
some_begun t before total (s ∷ later) (suc j) d (at, some, is, laid) within early =
    omega (
      arith,
      count_ended-append t (extents_of s) (all_extents later),
      some_begun t (before + s.count) total later j d laid (omega arith) early,
    )

-- what a binary search asks
begun_before : (t : Time) (k before total : ℕ) (xs : List TimedRun) → AreLaid before xs total
    → SplitsAt (ends_by_time t) k (all_extents xs) → IsPartitionedBy (begun t) xs
begun_before t k before total [] laid splits i j d order within early = absurd (omega arith)
begun_before t k before total (s ∷ later) laid splits zero zero d order within early = early
begun_before t k before total (s ∷ later) laid splits (suc i) zero d order within early = absurd (omega arith)
begun_before t k before total (s ∷ later) laid splits zero (suc j) d order within early = elim (cases_Bool (begun t s)) [
  | inl is ↦ is
  | inr late ↦ absurd (omega (
    arith,
    none_repeated t k s.count (head_of s) (all_extents later) laid.1 late splits,
    some_begun t before total (s ∷ later) (suc j) d laid within early,
  ))
]
begun_before t k before total (s ∷ later) laid splits (suc i) (suc j) d order within early =
    begun_before t (k - length (extents_of s)) (before + s.count) total later laid.3
    (splits_rest (ends_by_time t) k (extents_of s) (all_extents later) splits) i j d (omega arith) (omega arith) early

-- what it gives
abbrev BeginsAt : Time → List TimedRun → ℕ → Type 0
BeginsAt t xs i = IsPartitionPoint (λ s. begun t s ≡ true) (λ s. begun t s ≡ false) xs i

tail_begins : (t : Time) (s : TimedRun) (later : List TimedRun) (i : ℕ) → BeginsAt t (s ∷ later) (suc i) → BeginsAt t later i
tail_begins t s later i (early, late) = (
  λ m d low high. early (suc m) d (omega arith) (omega arith),
  λ m d low high. late (suc m) d (omega arith) (omega arith),
)

none_by : (t : Time) (k before total : ℕ) (xs : List TimedRun) → AreLaid before xs total → SplitsAt (ends_by_time t) k (all_extents xs)
    → BeginsAt t xs 0 → count_ended t (all_extents xs) ≡ 0
none_by t k before total [] laid splits point = refl
none_by t k before total (s ∷ later) laid splits point =
    none_repeated t k s.count (head_of s) (all_extents later) laid.1 (point.1 0 s (omega arith) (omega arith)) splits

counted_by : (t : Time) (k before total : ℕ) (xs : List TimedRun) (i : ℕ) (d : TimedRun) → AreLaid before xs total
    → SplitsAt (ends_by_time t) k (all_extents xs) → i < length xs → BeginsAt t xs (suc i) →
    before + count_ended t (all_extents xs) ≡ (get_or xs i d).before + count_ended t (extents_of (get_or xs i d))
counted_by t k before total [] i d laid splits within point = absurd (omega arith)
counted_by t k before total (s ∷ later) zero d laid splits within point = omega (
  arith,
  laid.0,
  count_ended-append t (extents_of s) (all_extents later),
  none_by t (k - length (extents_of s)) (before + s.count) total later laid.3
      (splits_rest (ends_by_time t) k (extents_of s) (all_extents later) splits) (tail_begins t s later 0 point),
)
counted_by t k before total (s ∷ later) (suc i) d laid splits within point =
    let some = some_begun t (before + s.count) total later i d laid.3 (omega arith) (point.0 (suc i) d (omega arith) (omega arith)) in
    omega (
      arith,
      count_ended-append t (extents_of s) (all_extents later),
      front_ended t k (extents_of s) (all_extents later) splits some,
      length-extents s,
      counted_by t (k - length (extents_of s)) (before + s.count) total later i d laid.3
          (splits_rest (ends_by_time t) k (extents_of s) (all_extents later) splits) (omega arith) (tail_begins t s later (suc i) point),
    )

-- ---- what a `Runs` keeps

splits_closed : (t : Time) (r : Inside) → IsKept r → (k : ℕ) × SplitsAt (ends_by_time t) k (all_extents (runs_of r))
splits_closed t r kept =
    let xs = all_extents (runs_of r) in
    let all = xs ++ open_at t r.endless in (
      min (count_ended t all) (length xs),
      splits_front (ends_by_time t) (count_ended t all) xs (open_at t r.endless) (splits_kept r kept t t),
    )

-- how many segments of the runs have ended
closed_kept : (t : Time) (r : Inside) → closed_count (timeline_of r) t ≡ count_ended t (all_extents (runs_of r))
closed_kept t r = closed-parts t (all_extents (runs_of r)) r.endless

-- what a search by a bound asks and finds
pub sorted_by : (bound : Bound) (r : Inside) → IsKept r → IsPartitionedBy (passes (BeginsBy bound)) (runs_of r)
sorted_by bound r kept =
    let splits = splits_closed (time_of_bound bound) r kept in
    begun_before (time_of_bound bound) splits.0 0 r.total (runs_of r) kept.laid splits.1

pub last_kept : (t : Time) (r : Inside) (i : ℕ) (s : TimedRun) → IsKept r → i < length (runs_of r) → BeginsAt t (runs_of r) (suc i)
    → s ≡ get_or (runs_of r) i s → IsLastBegun (timeline_of r) t s
last_kept t r i s kept within point read =
    let xs = runs_of r in
    let splits = splits_closed t r kept in
    record {
      is = run_at xs r.total i s kept.laid within read;
      ended = omega (arith, closed_kept t r, counted_by t splits.0 0 r.total xs i s kept.laid splits.1 within point)
          ∙ ap (λ (x : TimedRun). x.before + count_ended t (extents_of x)) (sym read);
      fits = omega (arith, closed_kept t r, count_ended-le t (all_extents xs), length-laid 0 xs r.total kept.laid, kept.countable);
    }

pub none_kept : (t : Time) (r : Inside) → IsKept r → BeginsAt t (runs_of r) 0 → closed_count (timeline_of r) t ≡ 0
none_kept t r kept point = let splits = splits_closed t r kept in closed_kept t r
    ∙ none_by t splits.0 0 r.total (runs_of r) kept.laid splits.1 point
