-- Where a walk over runs stands.
use Rattle.std.proofs.Common.{◌≡◌, min, leb, true, false, ℕ, zero, suc, ◌+◌, ◌-◌, ◌<◌, ◌≤◌, List, ◌∷◌, ◌++◌, inl, inr, length, take}
use Rattle.std.proofs.Common.{[], drop, get_or, refl, ◌∙◌, sym, ap, subst, append_assoc, append-nil, arith, length-append, ◌^◌, map, ℤ}
use Rattle.std.proofs.{Common.{pos, ◌+ℤ◌}, lemmas.Bool.{cases_lt, le-leb, leb-true, leb-false}}
use Rattle.std.proofs.{lemmas.List.Elements.All-from_recursion, lemmas.Int.ints, lemmas.List.{length-drop, drop_all, drop-append-le}}
use Rattle.std.proofs.{lemmas.List.{get_or-drop, take-append-le, take_rest, drop-map, length-map}, Math.Nat.mul-le-mul_left}
use Rattle.std.proofs.Math.Seq.{take-append-add, drop-append-add, take-nil}
use Rattle.std.specs.{Prelude.{Option, Some, None, option_map, slice_get}, List.Sorted.{IsPartitionPoint, IsPartitionedBy}}
use Rattle.timeline.specs.{RunTables.{passes, slice_runs}, declared.run_slice.Test.TheVariants.EndsBy}
use Rattle.timeline.specs.{declared.time_walk.TimeWalk.TheInside.Inside, declared.run.Run.Run, declared.span.SpanRun.SpanRun}
use Rattle.timeline.specs.{Expansions.{Extent, numbered, repeated, Timing}, RunSegments.{IsRun, IsRestOf, IsSplit, AreLaid}}
use Rattle.timeline.specs.RunSegments.{AreLaidFrom, AreLaidWith, ArePassed, all_extents, extents_of, extents_of_some, TimedRun, head_of}
use Rattle.timeline.specs.RunSegments.{timed}
use Rattle.timeline.specs.{Walks.{StandsIn, IsWalk, place_of, timings_left}, SpanRuns.IsNextRun}
use Rattle.timeline.proofs.{KeptLemmas.runs_laid, Repeats.{length-repeated, repeat-row, row, take-repeated, one_extent-row}}
use Rattle.timeline.proofs.NumberedLemmas.{numbered-same}
use Rattle.exact_time.specs.{Equal.ends_after, Time.Time}

-- ---- what is left behind the first ones

pub drop_behind : {X : Type 0} (k : ℕ) (xs ys : List X) → length xs ≤ k → drop k (xs ++ ys) ≡ drop (k - length xs) ys
drop_behind k xs ys past =
    let at : k ≡ length xs + (k - length xs) = omega arith in
    ap (λ (n : ℕ). drop n (xs ++ ys)) at ∙ drop-append-add xs ys (k - length xs)

module _ {X Y Z : Type 0} (f : X → Z) (g : Y → Z) (xs : List X) (ys : List Y) where
  pub skip_front : (k : ℕ) → k ≤ length xs → map f (take (length xs - k) (drop k xs)) ++ map g ys ≡ drop k (map f xs ++ map g ys)
  skip_front k within =
      cc (take_rest xs k, drop-map f k xs, drop-append-le k (map f xs) (map g ys) (omega (arith, length-map xs f)))

  pub skip_all : (k : ℕ) → length xs ≤ k → map g (take (length ys - (k - length xs)) (drop (k - length xs) ys))
      ≡ drop k (map f xs ++ map g ys)
  skip_all k past =
      let by_drop_behind = drop_behind k (map f xs) (map g ys) (omega (arith, length-map xs f)) in
      cc (take_rest ys (k - length xs), drop-map g (k - length xs) ys, length-map xs f)

pub first_rest : (xs : List TimedRun) (x : TimedRun) (ys : List TimedRun) → 0 < length xs → ((d : TimedRun) → x ≡ get_or xs 0 d)
    → ys ≡ drop 1 xs → xs ≡ x ∷ ys
first_rest [] x ys some first rest = absurd (omega arith)
first_rest (a ∷ xs) x ys some first rest = let same = first x in cc

pub length-extents : (s : TimedRun) → length (extents_of s) ≡ s.count
length-extents s = length-repeated s.count (head_of s)

-- ---- the next run, and what stands behind it

split_extents : (runs : List TimedRun) (tail now : Option TimedRun) (later : List TimedRun) (rest : Option TimedRun)
    → IsSplit runs tail now later rest →
    extents_of_some now ++ (all_extents later ++ extents_of_some rest) ≡ all_extents runs ++ extents_of_some tail
split_extents [] tail now later rest (now_is, later_is, rest_is) =
    cc (append-nil (extents_of_some tail))
split_extents (s ∷ runs) tail now later rest (now_is, later_is, rest_is) =
    cc (append_assoc (extents_of s) (all_extents runs) (extents_of_some tail))

-- a run stands at a place, before the others
record StandsAt (place : ℕ) (s : TimedRun) (later : List TimedRun) (rest : Option TimedRun) (finish : ℕ) : Type 0 where
  some : 0 < s.count
  is : IsRun s
  placed : s.before ≡ place
  laid : AreLaidFrom (s.before + s.count) later rest finish

-- where nothing follows, no more are wanted
abbrev Stands : ℕ → Option TimedRun → List TimedRun → Option TimedRun → ℕ → Type 0
Stands place None later rest finish = finish ≤ place
Stands place (Some s) later rest finish = StandsAt place s later rest finish

tail_stands : (place : ℕ) (tail : Option TimedRun) (finish : ℕ) → AreLaidFrom place [] tail finish → Stands place tail [] None finish
tail_stands place None finish laid = omega (arith, laid.enough)
tail_stands place (Some t) finish laid =
    let long = length-extents t in
    record {
      some = laid.tail_is.1;
      is = laid.tail_is.2;
      placed = omega (arith, laid.tail_is.0);
      laid = record { laid = omega arith; tail_is = tt; enough = omega (arith, laid.enough, laid.tail_is.0) };
    }

split_stands : (place : ℕ) (runs : List TimedRun) (tail now : Option TimedRun) (later : List TimedRun) (rest : Option TimedRun)
    (finish : ℕ) → IsSplit runs tail now later rest → AreLaidFrom place runs tail finish → Stands place now later rest finish
split_stands place [] tail now later rest finish (now_is, later_is, rest_is) laid =
    rw (now_is, later_is, rest_is) (tail_stands place tail finish laid)
split_stands place (t ∷ runs) tail now later rest finish (now_is, later_is, rest_is) laid =
    let at : t.before ≡ place = laid.laid.0 in
    let long = length-extents t in
    let both = length-append (extents_of t) (all_extents runs) in
    let whole : place + length (extents_of t ++ all_extents runs) ≡ t.before + t.count + length (all_extents runs) = omega arith in
    rw (now_is, later_is, rest_is) (record {
      some = laid.laid.1;
      is = laid.laid.2;
      placed = at;
      laid = record { laid = rw (← whole, at) laid.laid.3; tail_is = rw (← whole) laid.tail_is; enough = omega (arith, laid.enough) };
    })

next_place : (place : ℕ) (now : Option TimedRun) (later : List TimedRun) (rest : Option TimedRun) (finish : ℕ)
    → Stands place now later rest finish → place < finish → place_of now ≡ place
next_place place None later rest finish stands more = absurd (omega arith)
next_place place (Some s) later rest finish stands more = stands.placed

-- ---- the runs that end by a place are passed

-- what is left of the runs from a place on, where they begin at or before it
record IsPassed (before place finish : ℕ) (runs : List TimedRun) (tail : Option TimedRun) (left : List TimedRun) : Type 0 where
  begin : ℕ
  low : begin ≤ place
  laid : AreLaidFrom begin left tail finish
  extents : drop (place - before) (all_extents runs ++ extents_of_some tail)
      ≡ drop (place - begin) (all_extents left ++ extents_of_some tail)

pass : (k before place finish : ℕ) (runs : List TimedRun) (tail : Option TimedRun) → AreLaidFrom before runs tail finish
    → before ≤ place →
    ((j : ℕ) (d : TimedRun) → j < k → j < length runs → (get_or runs j d).before + (get_or runs j d).count ≤ place)
    → IsPassed before place finish runs tail (drop k runs)
pass zero before place finish runs tail laid low passed = record { begin = before; low = low; laid = laid; extents = refl }
pass (suc k) before place finish [] tail laid low passed = record { begin = before; low = low; laid = laid; extents = refl }
pass (suc k) before place finish (s ∷ runs) tail laid low passed =
    let here : s.before + s.count ≤ place = passed 0 s (omega arith) (omega arith) in
    let at : s.before ≡ before = laid.laid.0 in
    let long = length-extents s in
    let is : StandsAt before s runs tail finish = split_stands before (s ∷ runs) tail (Some s) runs tail finish (refl, refl, refl) laid in
    let rest : IsPassed (before + s.count) place finish runs tail (drop k runs) =
    pass k (before + s.count) place finish runs tail (rw at at is.laid) (omega arith)
    (λ j d less within. passed (suc j) d (omega arith) (omega arith)) in
    record {
      begin = rest.begin;
      low = rest.low;
      laid = rest.laid;
      extents = ap (drop (place - before)) (append_assoc (extents_of s) (all_extents runs) (extents_of_some tail))
          ∙ drop_behind (place - before) (extents_of s) (all_extents runs ++ extents_of_some tail) (omega arith)
          ∙ ap (λ (n : ℕ). drop n (all_extents runs ++ extents_of_some tail)) (omega arith) ∙ rest.extents;
    }

begins_after : (before total : ℕ) (runs : List TimedRun) (j : ℕ) (d : TimedRun) → AreLaid before runs total → j < length runs
    → before ≤ (get_or runs j d).before
begins_after before total [] j d laid within = absurd (omega arith)
begins_after before total (s ∷ runs) zero d laid within = omega (arith, laid.0)
begins_after before total (s ∷ runs) (suc j) d laid within =
    omega (arith, begins_after (before + s.count) total runs j d laid.3 (omega arith))

-- what a search by the runs' ends asks
pub sorted_ends : (place before total : ℕ) (runs : List TimedRun) → AreLaid before runs total → IsPartitionedBy (passes (EndsBy place)) runs
sorted_ends place before total [] laid i j d order within early = absurd (omega arith)
sorted_ends place before total (s ∷ runs) laid zero zero d order within early = early
sorted_ends place before total (s ∷ runs) laid (suc i) zero d order within early = absurd (omega arith)
sorted_ends place before total (s ∷ runs) laid (suc i) (suc j) d order within early =
    sorted_ends place (before + s.count) total runs laid.3 i j d (omega arith) (omega arith) early
sorted_ends place before total (s ∷ runs) laid zero (suc j) d order within early =
    le-leb (min (s.before + s.count) 18446744073709551615) place (omega (
      arith,
      laid.0,
      begins_after (before + s.count) total runs j d laid.3 (omega arith),
      leb-true (min ((get_or runs j d).before + (get_or runs j d).count) 18446744073709551615) place early,
    ))

-- ---- the walk from a place on

next_get : (runs : List TimedRun) (k : ℕ) (t : TimedRun) (later : List TimedRun) → drop k runs ≡ t ∷ later
    → (k < length runs) × (get_or runs k t ≡ t)
next_get runs k t later same =
    let long : length runs - k ≡ length (t ∷ later) = sym (length-drop k runs) ∙ ap length same in (
      omega (arith, long),
      ap (λ (n : ℕ). get_or runs n t) (omega arith) ∙ sym (get_or-drop k runs 0 t)
          ∙ ap (λ (xs : List TimedRun). get_or xs 0 t) same,
    )

high_in : (place finish : ℕ) (left : List TimedRun) (tail : Option TimedRun) (s : TimedRun) (later : List TimedRun)
    (rest : Option TimedRun) → place < finish → AreLaidFrom (s.before + s.count) later rest finish
    → ((t : TimedRun) (more : List TimedRun) → left ≡ t ∷ more → place < t.before + t.count)
    → IsSplit left tail (Some s) later rest → place < s.before + s.count
high_in place finish [] tail s later rest less laid next (now_is, later_is, rest_is) =
    let none = rw (later_is, rest_is) at laid in
    omega (arith, none.enough)
high_in place finish (t ∷ left) tail s later rest less laid next (now_is, later_is, rest_is) =
    let one : s ≡ t = cc in
    rw one (next t left refl)

-- so many segments are wanted behind the runs that end by the place
module _ (place left : ℕ) {runs : List TimedRun} {tail : Option TimedRun} (laid : 0 < left → AreLaidWith runs tail (place + left))
    (some : 0 < left) {k : ℕ} (within : k ≤ length runs)
    (point : IsPartitionPoint (λ s. leb (min (s.before + s.count) 18446744073709551615) place ≡ true)
    (λ s. leb (min (s.before + s.count) 18446744073709551615) place ≡ false) runs k)
    {behind : List TimedRun} (dropped : behind ≡ drop k runs)
    (now : Option TimedRun) (later : List TimedRun) (rest : Option TimedRun) (split : IsSplit behind tail now later rest) where
  abbrev finish : ℕ
  finish = place + left

  -- what a binary search by the runs' ends gives
  passed : ArePassed place runs k
  passed = record {
    within = within;
    passed = λ j d less.
        let early = leb-true (min ((get_or runs j d).before + (get_or runs j d).count) 18446744073709551615) place
        (point.0 j d (omega arith) less) in
        let is : IsRun (get_or runs j d) = All-from_recursion IsRun runs (runs_laid 0 runs _ (laid some).laid) j d (omega arith) in
        omega (arith, is.countable);
    next = λ d less.
        let late = leb-false (min ((get_or runs k d).before + (get_or runs k d).count) 18446744073709551615) place
        (point.1 k d (omega arith) less) in
        omega arith;
  }

  from_place : IsPassed 0 place finish runs tail behind
  from_place = rw dropped (pass k 0 place finish runs tail (laid some) (omega arith) (λ j d under within. passed.passed j d under))

  stands : Stands from_place.begin now later rest finish
  stands = split_stands from_place.begin behind tail now later rest finish split from_place.laid

  -- the runs can't be at their end
  pub begins_nowhere : now ≡ None → ⊥
  begins_nowhere at =
      let ended = subst (λ (o : Option TimedRun). Stands from_place.begin o later rest finish) at stands in
      omega (arith, ended, from_place.low)

  -- the run in which the place stands
  module _ {s : TimedRun} (at : now ≡ Some s) where
    here : StandsAt from_place.begin s later rest finish
    here = subst (λ (o : Option TimedRun). Stands from_place.begin o later rest finish) at stands

    low : s.before ≤ place
    low = omega (arith, here.placed, from_place.low)

    pub begins_in : IsRun s × (s.before ≤ place) × (place < s.before + s.count)
    begins_in = (
      here.is,
      low,
      high_in place finish behind tail s later rest (omega arith) here.laid
          (λ t more same. let next = next_get runs k t more (sym dropped ∙ same) in
          subst (λ (x : TimedRun). place < x.before + x.count) next.1 (passed.next t next.0))
          (subst (λ (o : Option TimedRun). IsSplit behind tail o later rest) at split),
    )

    -- the walk stands in the rest of the run
    module _ (part : TimedRun) (is : IsRestOf s place part) where
      pub part_laid : AreLaidFrom (part.before + part.count) later rest (part.before + left)
      part_laid = rw (is.end, is.placed) here.laid

      pub part_timings : (first : ℕ) →
          numbered (first + part.before) (take left (extents_of part ++ (all_extents later ++ extents_of_some rest)))
          ≡ numbered (first + place) (take left (drop place (all_extents runs ++ extents_of_some tail)))
      part_timings first =
          let others = all_extents later ++ extents_of_some rest in
          let long = length-extents s in
          let whole : place - 0 ≡ place = omega arith in
          let left_off : place - from_place.begin ≡ place - s.before = omega (arith, here.placed) in
          let number : first + part.before ≡ first + place = omega (arith, is.placed) in
          let in_run = drop-append-le (place - s.before) (extents_of s) others (omega (arith, low, begins_in.2)) in
          cc (from_place.extents, split_extents behind tail now later rest split, is.extents)

-- ---- the next segments

first_timing : (number left count : ℕ) (x : Extent) (later : List Extent) → 0 < count → 0 < left →
    slice_get (numbered number (take left (repeated count x ++ later))) 0 ≡ Some (record { start = x.start; end = x.end; number = number })
unfolding repeated
first_timing number zero count x later some wanted = absurd (omega arith)
first_timing number (suc left) zero x later some wanted = absurd (omega arith)
first_timing number (suc left) (suc count) x later some wanted = refl

drop_first : (number left : ℕ) (xs : List Extent) → drop 1 (numbered number (take left xs))
    ≡ numbered (number + 1) (take (left - 1) (drop 1 xs))
drop_first number zero xs = refl
drop_first number (suc left) [] = ap (numbered (number + 1)) (sym (take-nil (suc left - 1)))
drop_first number (suc left) (x ∷ xs) = ap (λ (n : ℕ). numbered (number + 1) (take n xs)) (omega arith)

-- the first number is of no matter where no segment is taken
numbered-some : (m n left : ℕ) (xs : List Extent) → (0 < left → m ≡ n) → numbered m (take left xs) ≡ numbered n (take left xs)
numbered-some m n zero xs same = refl
numbered-some m n (suc left) xs same = numbered-same m n (take (suc left) xs) (same (omega arith))

numbered-append : (number : ℕ) (xs ys : List Extent) → numbered number (xs ++ ys) ≡ numbered number xs ++ numbered (number + length xs) ys
numbered-append number [] ys = numbered-same number (number + 0) ys (omega arith)
numbered-append number (x ∷ xs) ys =
    ap (λ (ts : List Timing). record { start = x.start; end = x.end; number = number } ∷ ts)
    (cc (numbered-append (number + 1) xs ys, numbered-same (number + 1 + length xs) (number + suc (length xs)) ys (omega arith)))

-- ---- their ends

abbrev ends : ℕ → List Extent → List Time
ends number xs = map (λ y. y.end) (numbered number xs)

row_ends : (count number scale : ℕ) (start : ℤ) (step : ℕ) →
    ends number (repeated count (row scale start step)) ≡ ends_after (record { ticks = start; scale = scale }) step count
unfolding repeated ends_after
row_ends zero number scale start step = refl
row_ends (suc count) number scale start step =
    let end : Time = record { ticks = start +ℤ pos step; scale = scale } in
    cc (repeat-row scale start step, row_ends count (number + 1) scale (start +ℤ pos step) step)

run_ends : (s : TimedRun) → IsRun s → (number count : ℕ) → 0 < count → count ≤ s.count →
    ends number (repeated count (head_of s)) ≡ s.end ∷ ends_after s.end s.step (count - 1)
unfolding repeated ends_after
run_ends s is number zero some within = absurd (omega arith)
run_ends s is number (suc zero) some within = refl
run_ends s is number (suc (suc count)) some within =
    let fewer : suc count ≡ suc (suc count) - 1 = omega arith in
    ap (λ (x : Extent). ends number (repeated (suc (suc count)) x)) (one_extent-row s is (omega arith))
    ∙ row_ends (suc (suc count)) number s.end.scale s.start.ticks s.step
    ∙ ap (λ (z : ℤ). record { ticks = z; scale = s.end.scale } ∷ ends_after (record { ticks = z; scale = s.end.scale }) s.step (suc count))
    (sym (is.in_ticks (omega arith)))
    ∙ ap (λ (n : ℕ). s.end ∷ ends_after s.end s.step n) fewer

-- ---- where the walk stands in a run

walk_stands : (walk : Inside) (place finish : ℕ) (o : Option TimedRun) → Stands place o (slice_runs walk.later) (option_map timed walk.tail)
    finish → (0 < walk.left → place + walk.left ≤ finish) → StandsIn o walk
walk_stands walk place finish None stands within = elim (cases_lt 0 walk.left) [
  | inl some ↦ absurd (omega (arith, within some))
  | inr none ↦ omega arith
]
walk_stands walk place finish (Some t) stands within =
    let long = stands.laid.enough in (
      stands.some,
      stands.is,
      record {
        laid = stands.laid.laid;
        tail_is = stands.laid.tail_is;
        enough = elim (cases_lt 0 walk.left) [ inl some ↦ omega (arith, stands.placed, within some) | inr none ↦ omega arith ];
      },
    )

module _ (walk : Inside) (now : List Timing) (seen : timings_left walk ≡ now) (kept : IsWalk walk) (current : Run)
    (at : walk.now ≡ Some current) where
  abbrev s : TimedRun
  s = timed current

  abbrev number : ℕ
  number = walk.first_number + current.before

  abbrev behind : List Extent
  behind = all_extents (slice_runs walk.later) ++ extents_of_some (option_map timed walk.tail)

  in_run : (0 < s.count) × IsRun s × AreLaidFrom (s.before + s.count) (slice_runs walk.later) (option_map timed walk.tail)
      (s.before + walk.left)
  in_run = subst (λ (o : Option Run). StandsIn (option_map timed o) walk) at kept.stands

  countable : 0 < walk.left → walk.first_number + (s.before + walk.left) < 2 ^ 64
  countable = subst (λ (o : Option Run). 0 < walk.left → walk.first_number + (place_of (option_map timed o) + walk.left) < 2 ^ 64) at
      kept.countable

  now_is : now ≡ numbered number (take walk.left (extents_of s ++ behind))
  now_is = sym seen ∙ ap (λ (o : Option Run). numbered (walk.first_number + place_of (option_map timed o))
      (take walk.left (extents_of_some (option_map timed o) ++ behind))) at

  pub first_left : 0 < walk.left → slice_get now 0 ≡ Some (record { start = s.start; end = s.end; number = number })
  first_left some = cc (now_is, first_timing number walk.left s.count (head_of s) behind in_run.0 some)

  -- the walk goes on in the same run
  pub goes_on_in : (left : ℕ) → left ≡ walk.left - 1 → (part : TimedRun) → IsRestOf s (s.before + 1) part →
      numbered (walk.first_number + part.before) (take left (extents_of part ++ behind)) ≡ drop 1 now
  goes_on_in left left_is part is =
      let one : s.before + 1 - s.before ≡ 1 = omega arith in
      let at_one : drop (s.before + 1 - s.before) (extents_of s) ≡ drop 1 (extents_of s) = ap (λ (n : ℕ). drop n (extents_of s)) one in
      let first : walk.first_number + part.before ≡ number + 1 = omega (arith, is.placed) in
      let rest = drop-append-le 1 (extents_of s) behind (omega (arith, length-extents s, in_run.0)) in
      cc (now_is, is.extents, drop_first number walk.left (extents_of s ++ behind))

  -- it goes on behind the run
  module _ (next : Option TimedRun) (later : List TimedRun) (rest : Option TimedRun)
      (split : IsSplit (slice_runs walk.later) (option_map timed walk.tail) next later rest) where
    abbrev following : List Extent
    following = extents_of_some next ++ (all_extents later ++ extents_of_some rest)

    following_is : following ≡ behind
    following_is = split_extents (slice_runs walk.later) (option_map timed walk.tail) next later rest split

    next_stands : Stands (s.before + s.count) next later rest (s.before + walk.left)
    next_stands = split_stands (s.before + s.count) (slice_runs walk.later) (option_map timed walk.tail) next later rest
        (s.before + walk.left) split in_run.2

    place : s.count < walk.left → place_of next ≡ s.before + s.count
    place more = next_place (s.before + s.count) next later rest (s.before + walk.left) next_stands (omega arith)

    pub goes_on_behind : (left : ℕ) → left ≡ walk.left - 1 → s.count ≤ 1 →
        numbered (walk.first_number + place_of next) (take left following) ≡ drop 1 now
    goes_on_behind left left_is few =
        let long = length-extents s in
        let rest = drop-append-le 1 (extents_of s) behind (omega (arith, in_run.0)) in
        let none = drop_all 1 (extents_of s) (omega arith) in
        let same = numbered-some (walk.first_number + place_of next) (number + 1) left following
        (λ some. omega (arith, place (omega (arith, in_run.0)), in_run.0)) in
        cc (now_is, following_is, drop_first number walk.left (extents_of s ++ behind))

    goes_on_behind_run : s.count < walk.left →
        now ≡ numbered number (extents_of s) ++ numbered (walk.first_number + place_of next) (take (walk.left - s.count) following)
    goes_on_behind_run more =
        let all : walk.left ≡ length (extents_of s) + (walk.left - s.count) = omega (arith, length-extents s) in
        let after : number + length (extents_of s) ≡ walk.first_number + place_of next = omega (arith, place more, length-extents s) in
        let taken = take-append-add (extents_of s) behind (walk.left - s.count) in
        cc (now_is, following_is, numbered-append number (extents_of s) (take (walk.left - s.count) behind))

  pub kept_behind : (new : Inside) → new.first_number ≡ walk.first_number → (0 < s.count → new.left ≡ walk.left - s.count) →
      IsSplit (slice_runs walk.later) (option_map timed walk.tail) (option_map timed new.now) (slice_runs new.later)
      (option_map timed new.tail) → IsWalk new
  kept_behind new first_is left split =
      let left_is = left in_run.0 in
      let next = option_map timed new.now in
      let later = slice_runs new.later in
      let rest = option_map timed new.tail in
      record {
        stands = walk_stands new (s.before + s.count) (s.before + walk.left) next (next_stands next later rest split) (λ some. omega arith);
        countable = λ some. omega (arith, place next later rest split (omega arith), countable (omega arith));
      }

  -- ---- a call of `next_run`

  module _ (some : 0 < walk.left) (count : ℕ) (count_is : count ≡ min current.count walk.left) where
    abbrev run : SpanRun
    run = record { first = record { start = current.start; end = current.end; number = number }; step = current.step; count = count }

    is_next : (new : List Timing) → now ≡ numbered number (repeated count (head_of s)) ++ new → IsNextRun now run new
    is_next new next = record {
      next = next;
      some = omega (arith, in_run.0);
      ends = run_ends s in_run.1 number count (omega (arith, in_run.0)) (omega arith);
      room =
          let fewer : count - 1 ≤ s.count = omega arith in
          omega (arith, ints, in_run.1.near, mul-le-mul_left s.step fewer);
      countable = omega (arith, countable some);
    }

    -- the walk ends in the run
    pub last_run : (first : ℕ) (xs : List Extent) → walk.left - count ≡ 0 → IsNextRun now run (numbered first (take (walk.left - count) xs))
    last_run first xs none =
        let left_is : walk.left ≡ count = omega arith in
        let empty : numbered first (take (walk.left - count) xs) ≡ [] = ap (λ (n : ℕ). numbered first (take n xs)) none in
        let by_take = take-append-le walk.left (extents_of s) behind (omega (arith, length-extents s)) in
        let by_repeated = take-repeated walk.left s.count (head_of s) (omega arith) in
        is_next (numbered first (take (walk.left - count) xs)) (cc (now_is, append-nil (numbered number (repeated count (head_of s)))))

    pub next_run : (next : Option TimedRun) (later : List TimedRun) (rest : Option TimedRun) → 0 < walk.left - count →
        IsSplit (slice_runs walk.later) (option_map timed walk.tail) next later rest →
        IsNextRun now run (numbered (walk.first_number + place_of next)
        (take (walk.left - count) (extents_of_some next ++ (all_extents later ++ extents_of_some rest))))
    next_run next later rest more split =
        let whole : s.count ≡ count = omega arith in
        is_next _ (rw (← whole) (goes_on_behind_run next later rest split (omega arith)))
