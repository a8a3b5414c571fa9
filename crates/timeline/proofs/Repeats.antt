-- Segments that are repeated: their number, the k-th one, their parts, and how many of them end by a time.
use Rattle.std.proofs.Common.{◌≡◌, ℕ, zero, suc, ◌+◌, ◌-◌, ◌*◌, ◌/◌, ◌<◌, ◌≤◌, min, Bool, true, false, not, cond, List, ◌∷◌, ◌++◌, length}
use Rattle.std.proofs.Common.{[], take, drop, ℤ, pos, negsuc, ◌+ℤ◌, ◌-ℤ◌, ◌*ℤ◌, ◌≤ℤ◌, ◌<ℤ◌, refl, ◌∙◌, sym, ap, inl, inr, arith, ◌^◌}
use Rattle.std.proofs.{lemmas.Int.ints, lemmas.List.Sums.sum_by-cons, lemmas.Bool.{cases_lt, cases_Bool, cond-true, cond-false}}
use Rattle.std.proofs.{lemmas.Bool.cases_order, Math.Nat.{mul-le-mul_left, one-le-mul}}
use Rattle.std.specs.Prelude.{int_le, slice_get, Some, unsigned_abs}
use Rattle.exact_time.specs.Time.{Time, difference, before, at_most}
use Rattle.timeline.specs.{Ratios.{natural, steps_within}, Expansions.{Extent, repeated, repeat_of, ended_by, lasting}}
use Rattle.timeline.specs.RunSegments.{count_ended, GoesOnAs, IsLonger, IsRun, IsRestOf, extents_of, TimedRun, head_of}
use Rattle.timeline.proofs.Ratios.{quotient-is, quotient-low, quotient-high, steps_within-is, at_most-floor, floor_ticks, floor-low}
use Rattle.timeline.proofs.Ratios.{floor-high, int_le-true, int_le-false, int_le-from, not_int_le-from, int_add-mul}
use Rattle.exact_time.proofs.TimeOrder.{before-is}

-- the k-th one after a segment
unfoldable pub again : ℕ → Extent → Extent
again zero x = x
again (suc k) x = again k (repeat_of x)

repeated-same : (m n : ℕ) (x : Extent) → m ≡ n → repeated m x ≡ repeated n x
repeated-same m n x same = ap (λ (k : ℕ). repeated k x) same

pub length-repeated : (n : ℕ) (x : Extent) → length (repeated n x) ≡ n
unfolding repeated
length-repeated zero x = refl
length-repeated (suc n) x = ap suc (length-repeated n (repeat_of x))

pub repeated-add : (i j : ℕ) (x : Extent) → repeated (i + j) x ≡ repeated i x ++ repeated j (again i x)
unfolding repeated again
repeated-add zero j x = repeated-same (0 + j) j x (omega arith)
repeated-add (suc i) j x = cc (repeated-same (suc i + j) (suc (i + j)) x (omega arith), repeated-add i j (repeat_of x))

pub drop-repeated : (k n : ℕ) (x : Extent) → drop k (repeated n x) ≡ repeated (n - k) (again k x)
unfolding repeated again
drop-repeated zero n x = repeated-same n (n - 0) x (omega arith)
drop-repeated (suc k) zero x = repeated-same 0 (0 - suc k) (again k (repeat_of x)) (omega arith)
drop-repeated (suc k) (suc n) x = drop-repeated k n (repeat_of x)
    ∙ repeated-same (n - k) (suc n - suc k) (again k (repeat_of x)) (omega arith)

pub take-repeated : (k n : ℕ) (x : Extent) → k ≤ n → take k (repeated n x) ≡ repeated k x
unfolding repeated
take-repeated zero n x within = refl
take-repeated (suc k) zero x within = absurd (omega arith)
take-repeated (suc k) (suc n) x within = ap (λ (xs : List Extent). x ∷ xs) (take-repeated k n (repeat_of x) (omega arith))

pub slice_get-repeated : (k n : ℕ) (x : Extent) → k < n → slice_get (repeated n x) k ≡ Some (again k x)
unfolding repeated again
slice_get-repeated k zero x within = absurd (omega arith)
slice_get-repeated zero (suc n) x within = refl
slice_get-repeated (suc k) (suc n) x within = slice_get-repeated k n (repeat_of x) (omega arith)

-- ---- in ticks of one scale

-- the segment of so many ticks from a start on
abbrev pub row : ℕ → ℤ → ℕ → Extent
row scale start step = record {
  start = record { ticks = start; scale = scale };
  end = record { ticks = start +ℤ pos step; scale = scale };
}

pub row-same : (scale : ℕ) (a b : ℤ) (step : ℕ) → a ≡ b → row scale a step ≡ row scale b step
row-same scale a b step same = ap (λ (z : ℤ). row scale z step) same

-- what such a segment is
pub row-is : (x : Extent) (step : ℕ) → x.start.scale ≡ x.end.scale → x.end.ticks ≡ x.start.ticks +ℤ pos step
    → x ≡ row x.end.scale x.start.ticks step
row-is x step scale ticks =
    let start : Time = record { ticks = x.start.ticks; scale = x.start.scale } in
    let whole : record { start = start; end = record { ticks = x.end.ticks; scale = x.end.scale } }
    ≡ row x.end.scale x.start.ticks step = cc in whole

pub repeat-row : (scale : ℕ) (start : ℤ) (step : ℕ) → repeat_of (row scale start step) ≡ row scale (start +ℤ pos step) step
repeat-row scale start step =
    let same : (start +ℤ pos step) +ℤ ((start +ℤ pos step) -ℤ start) ≡ (start +ℤ pos step) +ℤ pos step = omega (arith, ints) in cc

pub again-row : (k scale : ℕ) (start : ℤ) (step : ℕ) → again k (row scale start step) ≡ row scale (start +ℤ pos (k * step)) step
unfolding again
again-row zero scale start step = row-same scale start (start +ℤ pos (0 * step)) step (omega (arith, ints))
again-row (suc k) scale start step = ap (again k) (repeat-row scale start step) ∙ again-row k scale (start +ℤ pos step) step
    ∙ row-same scale ((start +ℤ pos step) +ℤ pos (k * step)) (start +ℤ pos (suc k * step)) step (omega (arith, ints))

-- ---- how many end at or before a tick

-- how many of end, end + step, end + 2 * step .. are at most `last`
abbrev pub ends_by : ℤ → ℤ → ℕ → ℕ
ends_by last end step = cond (int_le end last) (natural (last -ℤ end) / step + 1) 0

pub ends_by-past : (last end : ℤ) (step : ℕ) → int_le end last ≡ false → ends_by last end step ≡ 0
ends_by-past last end step past = cond-false (int_le end last) _ 0 past

pub ends_by-before : (last end : ℤ) (step : ℕ) → last <ℤ end → ends_by last end step ≡ 0
ends_by-before last end step past = ends_by-past last end step (not_int_le-from end last past)

-- what a quotient of the distance gives
pub ends_by-at : (last end : ℤ) (step distance : ℕ) → last ≡ end +ℤ pos distance → ends_by last end step ≡ distance / step + 1
ends_by-at last end step distance at =
    let gap : last -ℤ end ≡ pos distance = omega (arith, ints) in
    cc (cond-true (int_le end last) (natural (last -ℤ end) / step + 1) 0 (int_le-from end last (omega (arith, ints))))

pub natural-pos : (z : ℤ) → pos 0 ≤ℤ z → z ≡ pos (natural z)
natural-pos (pos n) h = refl
natural-pos (negsuc n) h = absurd h.le

-- of those, the first one's distance tells the number
ends_by-early : (last end : ℤ) (step : ℕ) → int_le end last ≡ true → (last ≡ end +ℤ pos (natural (last -ℤ end)))
    × (ends_by last end step ≡ natural (last -ℤ end) / step + 1)
ends_by-early last end step early =
    let le = int_le-true end last early in
    let d = natural-pos (last -ℤ end) (omega (arith, ints)) in
    (omega (arith, ints), cond-true (int_le end last) (natural (last -ℤ end) / step + 1) 0 early)

-- the same from the first start
pub ends_by-start : (last start : ℤ) (step distance : ℕ) → 0 < step → last ≡ start +ℤ pos distance
    → ends_by last (start +ℤ pos step) step ≡ distance / step
ends_by-start last start step distance some at = elim (cases_lt distance step) [
  | inl below ↦ ends_by-before last (start +ℤ pos step) step (omega (arith, ints))
      ∙ sym (quotient-is distance step 0 (omega arith) (omega arith))
  | inr above ↦
      let k = distance - step in
      ends_by-at last (start +ℤ pos step) step k (omega (arith, ints))
      ∙ sym (quotient-is distance step (k / step + 1) (omega (arith, quotient-low k step)) (omega (arith, quotient-high k step some)))
]

pub ends_by-next : (last end : ℤ) (step : ℕ) → 0 < step → int_le end last ≡ true
    → ends_by last end step ≡ 1 + ends_by last (end +ℤ pos step) step
ends_by-next last end step some within =
    let here = ends_by-early last end step within in
    omega (arith, here.1, ends_by-start last end step (natural (last -ℤ end)) some here.0)

-- the k-th end after the first is at most `last` exactly where more than k are
pub ends_by-in : (last end : ℤ) (step k : ℕ) → k < ends_by last end step → (end +ℤ pos (k * step)) ≤ℤ last
ends_by-in last end step k within = elim (cases_Bool (int_le end last)) [
  | inl early ↦
      let m = natural (last -ℤ end) in
      let here = ends_by-early last end step early in
      let most : k ≤ m / step = omega (arith, here.1) in
      omega (arith, ints, here.0, mul-le-mul_left step most, quotient-low m step)
  | inr late ↦ absurd (omega (arith, ends_by-past last end step late))
]

pub ends_by-out : (last end : ℤ) (step k : ℕ) → 0 < step → ends_by last end step ≤ k → last <ℤ (end +ℤ pos (k * step))
ends_by-out last end step k some past = elim (cases_Bool (int_le end last)) [
  | inl early ↦
      let m = natural (last -ℤ end) in
      let here = ends_by-early last end step early in
      let least : m / step + 1 ≤ k = omega (arith, here.1) in
      omega (arith, ints, here.0, mul-le-mul_left step least, quotient-high m step some)
  | inr late ↦ omega (arith, ints, int_le-false end last late)
]

pub count_ended-in : (t : Time) (x : Extent) (xs : List Extent) → at_most x.end t ≡ true → count_ended t (x ∷ xs) ≡ 1 + count_ended t xs
count_ended-in t x xs early = cc (sum_by-cons (λ (y : Extent). cond (at_most y.end t) 1 0) x xs)

pub count_ended-out : (t : Time) (x : Extent) (xs : List Extent) → at_most x.end t ≡ false → count_ended t (x ∷ xs) ≡ count_ended t xs
count_ended-out t x xs late = sum_by-cons (λ (y : Extent). cond (at_most y.end t) 1 0) x xs
    ∙ ap (λ (b : Bool). cond b 1 0 + count_ended t xs) late ∙ omega arith

pub count_ended-row : (n : ℕ) (t : Time) (scale : ℕ) (start : ℤ) (step : ℕ) → 0 < t.scale → 0 < step →
    count_ended t (repeated n (row scale start step)) ≡ min n (ends_by (floor_ticks t scale) (start +ℤ pos step) step)
unfolding repeated
count_ended-row zero t scale start step time some = omega arith
count_ended-row (suc n) t scale start step time some =
    let last = floor_ticks t scale in
    let next : count_ended t (repeated n (repeat_of (row scale start step))) ≡ min n (ends_by last ((start +ℤ pos step) +ℤ pos step) step) =
    cc (repeat-row scale start step, count_ended-row n t scale (start +ℤ pos step) step time some) in
    let here = at_most-floor (start +ℤ pos step) scale t time in
    elim (cases_Bool (int_le (start +ℤ pos step) last)) [
      | inl early ↦
          let one = count_ended-in t (row scale start step) (repeated n (repeat_of (row scale start step))) (here ∙ early) in
          omega (arith, ends_by-next last (start +ℤ pos step) step some early)
      | inr late ↦
          let none = count_ended-out t (row scale start step) (repeated n (repeat_of (row scale start step))) (here ∙ late) in
          let lt = int_le-false (start +ℤ pos step) last late in
          let none_next = ends_by-before last ((start +ℤ pos step) +ℤ pos step) step (omega (arith, ints)) in
          omega (arith, ends_by-past last (start +ℤ pos step) step late)
    ]

-- ---- the segments of an open end, by ticks

steps_by_ticks : (n u step k : ℕ) → 0 < u → 0 < step → (k + step) * u ≤ n → n < (k + step + 1) * u → n / (u * step) ≡ k / step + 1
steps_by_ticks n u step k whole some low high = quotient-is n (u * step) (k / step + 1)
    (omega (arith, mul-le-mul_left u (quotient-low k step))) (omega (arith, mul-le-mul_left u (quotient-high k step some)))

steps_from_start : (t : Time) (scale : ℕ) (start : ℤ) (step : ℕ) → 0 < t.scale → 0 < scale → 0 < step
    → (start +ℤ pos step) ≤ℤ floor_ticks t scale →
    steps_within (difference t (row scale start step).start) (lasting (row scale start step))
    ≡ natural (floor_ticks t scale -ℤ (start +ℤ pos step)) / step + 1
steps_from_start t scale start step time whole some le =
    let last = floor_ticks t scale in
    let big = t.ticks *ℤ pos scale in
    let u = t.scale in
    let k = natural (last -ℤ (start +ℤ pos step)) in
    let k_is = natural-pos (last -ℤ (start +ℤ pos step)) (omega (arith, ints)) in
    let last_is : last ≡ start +ℤ pos (k + step) = omega (arith, ints) in
    let next_is : last +ℤ pos 1 ≡ start +ℤ pos (k + step + 1) = omega (arith, ints) in
    let last_times : last *ℤ pos u ≡ start *ℤ pos u +ℤ pos ((k + step) * u) = ap (λ (z : ℤ). z *ℤ pos u) last_is
    ∙ int_add-mul start (k + step) u in
    let next_times : (last +ℤ pos 1) *ℤ pos u ≡ start *ℤ pos u +ℤ pos ((k + step + 1) * u) = ap (λ (z : ℤ). z *ℤ pos u) next_is
    ∙ int_add-mul start (k + step + 1) u in
    let low = floor-low t scale time in
    let high = floor-high t scale time in
    let n = natural (big -ℤ start *ℤ pos u) in
    let n_is = natural-pos (big -ℤ start *ℤ pos u) (omega (arith, ints)) in
    let low_n : (k + step) * u ≤ n = omega (arith, ints) in
    let high_n : n < (k + step + 1) * u = omega (arith, ints) in
    let lasts : (start +ℤ pos step) *ℤ pos scale -ℤ start *ℤ pos scale ≡ pos (step * scale) =
    omega (arith, ints, int_add-mul start step scale) in
    let lasts_n : natural ((start +ℤ pos step) *ℤ pos scale -ℤ start *ℤ pos scale) ≡ step * scale = ap natural lasts in
    steps_within-is (difference t (row scale start step).start) (lasting (row scale start step)) n (u * step) (scale * scale)
    (one-le-mul whole whole) (one-le-mul time some) refl (omega (arith, ap (λ (m : ℕ). (u * scale) * m) lasts_n))
    ∙ steps_by_ticks n u step k time some low_n high_n

pub ended_by-row : (t : Time) (scale : ℕ) (start : ℤ) (step : ℕ) → 0 < t.scale → 0 < scale → 0 < step →
    ended_by t (row scale start step) ≡ ends_by (floor_ticks t scale) (start +ℤ pos step) step
ended_by-row t scale start step time whole some =
    let x = row scale start step in
    let last = floor_ticks t scale in
    let here = at_most-floor (start +ℤ pos step) scale t time in
    let turned = before-is t x.end in
    elim (cases_Bool (int_le (start +ℤ pos step) last)) [
      | inl early ↦
          cond-false (before t x.end) 0 (steps_within (difference t x.start) (lasting x)) (turned ∙ ap not (here ∙ early))
          ∙ steps_from_start t scale start step time whole some (int_le-true (start +ℤ pos step) last early)
          ∙ sym (cond-true (int_le (start +ℤ pos step) last) (natural (last -ℤ (start +ℤ pos step)) / step + 1) 0 early)
      | inr late ↦ cond-true (before t x.end) 0 (steps_within (difference t x.start) (lasting x)) (turned ∙ ap not (here ∙ late))
          ∙ sym (ends_by-past last (start +ℤ pos step) step late)
    ]

-- ---- the segments of a run

-- several segments are so many ticks of one scale
pub one_extent-row : (s : TimedRun) → IsRun s → 1 < s.count → head_of s ≡ row s.end.scale s.start.ticks s.step
one_extent-row s is several = row-is (head_of s) s.step (is.one_scale several) (is.in_ticks several)

-- the run from the k-th segment on
pub moved_to : (s : TimedRun) (place k : ℕ) (start end : Time) → IsRun s → place ≡ s.before + k → 0 < k → k < s.count →
    start.ticks ≡ s.start.ticks +ℤ pos (k * s.step) → start.scale ≡ s.start.scale →
    end.ticks ≡ s.end.ticks +ℤ pos (k * s.step) → end.scale ≡ s.end.scale → unsigned_abs start.ticks < 2 ^ 64
    → unsigned_abs end.ticks < 2 ^ 64 →
    IsRestOf s place (record { start = start; end = end; step = s.step; count = s.count - k; before = place })
moved_to s place k start end is at some within start_n start_scale end_n end_scale start_near end_near =
    let several : 1 < s.count = omega arith in
    let one_scale : start.scale ≡ end.scale = omega (arith, is.one_scale several) in
    let in_ticks : end.ticks ≡ start.ticks +ℤ pos s.step = omega (arith, ints, is.in_ticks several) in
    let whole : s.count ≡ (s.count - k) + k = omega arith in
    let times : (s.count - k) * s.step + k * s.step ≡ s.count * s.step = omega (arith, ap (λ (m : ℕ). m * s.step) whole) in
    let head : record { start = start; end = end } ≡ row s.end.scale (s.start.ticks +ℤ pos (k * s.step)) s.step =
    row-is (record { start = start; end = end }) s.step one_scale in_ticks ∙ rw (end_scale, start_n) refl in
    let skipped : place - s.before ≡ k = omega arith in
    let by_drop_repeated = drop-repeated k s.count (row s.end.scale s.start.ticks s.step) in
    record {
      is = record {
        start_is = omega (arith, start_scale, is.start_is);
        end_is = omega (arith, end_scale, is.end_is);
        start_near = start_near;
        end_near = end_near;
        lasting = is.lasting;
        one_scale = λ _. one_scale;
        in_ticks = λ _. in_ticks;
        near = omega (arith, ints, is.near);
        countable = omega (arith, is.countable);
      };
      some = omega arith;
      placed = refl;
      end = omega arith;
      extents = cc (head, skipped, one_extent-row s is several, again-row k s.end.scale s.start.ticks s.step);
    }

-- ---- one more segment

pub moved_time : (t r : Time) (n k : ℕ) → r.ticks ≡ t.ticks +ℤ pos n → r.scale ≡ t.scale → n ≡ k
    → r ≡ record { ticks = t.ticks +ℤ pos k; scale = t.scale }
moved_time t r n k ticks scale same = rw (← same, ← scale, ← ticks) refl

pub longer : (s : TimedRun) (x : Extent) → IsRun s → s.before + s.count ≤ 2 ^ 63 → GoesOnAs s x
    → IsLonger s x (record { start = s.start; end = s.end; step = s.step; count = s.count + 1; before = s.before })
unfolding repeated again
longer s x is room on =
    let head : head_of s ≡ row s.end.scale s.start.ticks s.step = row-is (head_of s) s.step on.one_scale on.in_ticks in
    let next : again s.count (head_of s) ≡ x = ap (again s.count) head ∙ again-row s.count s.end.scale s.start.ticks s.step
    ∙ sym (rw (on.start_is, on.end_is) (row-is _ s.step on.one_scale (omega (arith, ints, on.in_ticks)))) in
    record {
      is = record {
        start_is = is.start_is;
        end_is = is.end_is;
        start_near = is.start_near;
        end_near = is.end_near;
        lasting = is.lasting;
        one_scale = λ _. on.one_scale;
        in_ticks = λ _. on.in_ticks;
        near = omega (arith, ints, on.near, ap (λ (t : Time). t.ticks) on.end_is);
        countable = omega (arith, room);
      };
      placed = refl;
      one_more = refl;
      extents = cc (repeated-add s.count 1 (head_of s));
    }

-- ---- how many end at or before a time

count_of_one : (t : Time) (x : Extent) (step : ℕ) → 0 < t.scale → count_ended t (x ∷ [])
    ≡ min 1 (ends_by (floor_ticks t x.end.scale) x.end.ticks step)
count_of_one t x step time =
    let last = floor_ticks t x.end.scale in
    let here = at_most-floor x.end.ticks x.end.scale t time in
    elim (cases_Bool (int_le x.end.ticks last)) [
      | inl early ↦ omega (arith, (ends_by-early last x.end.ticks step early).1, count_ended-in t x [] (here ∙ early))
      | inr late ↦ omega (arith, ends_by-past last x.end.ticks step late, count_ended-out t x [] (here ∙ late))
    ]

pub count_ended-run : (t : Time) (s : TimedRun) → 0 < t.scale → IsRun s → count_ended t (extents_of s)
    ≡ min s.count (ends_by (floor_ticks t s.end.scale) s.end.ticks s.step)
unfolding repeated
count_ended-run t s time is = elim (cases_order s.count 1) [
  | inl one ↦
      cc (count_of_one t (head_of s) s.step time)
  | inr other ↦ elim other [
    | inl fewer ↦
        let none : s.count ≡ 0 = omega arith in
        ap (λ (n : ℕ). count_ended t (repeated n (head_of s))) none ∙ omega arith
    | inr several ↦
        cc (one_extent-row s is several, count_ended-row s.count t s.end.scale s.start.ticks s.step time is.lasting, is.in_ticks several)
  ]
]
