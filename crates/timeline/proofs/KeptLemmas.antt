-- What the runs and the open end of a `Runs` have.
use Rattle.std.proofs.Common.{◌≡◌, ℕ, zero, suc, ◌+◌, ◌-◌, ◌*◌, ◌<◌, ◌≤◌, ◌^◌, false, List, ◌∷◌, ◌++◌, length}
use Rattle.std.proofs.Common.{get_or, ℤ, pos, ◌+ℤ◌, ◌≤ℤ◌, ◌<ℤ◌, neg_ℤ, refl, ◌∙◌, sym, ap, subst, inl, inr, arith, length-append, []}
use Rattle.std.proofs.{lemmas.Int.ints, lemmas.List.Elements.All-from_recursion, lemmas.Bool.Decides.nat_tests}
use Rattle.std.proofs.{lemmas.Bool.{cases_lt, lt-ltb}, Math.Nat.mul-le-mul_left}
use Rattle.std.specs.{Prelude.{Option, Some, None}, List.AllByRecursion}
use Rattle.exact_time.specs.Time.{Time}
use Rattle.timeline.specs.{Ratios.natural, Bounds.IsNear, Expansions.{Extent, repeated, repeat_of}}
use Rattle.timeline.specs.{declared.run.Endless.Endless, RunSegments.{IsRun, AreLaid}}
use Rattle.timeline.specs.{RunSegments.{HasRoom, all_extents, extents_of, endless_count, first_of, TimedRun, head_of}, Kept.Follows}
use Rattle.timeline.specs.Kept.{FollowsOn}
use Rattle.timeline.proofs.{Repeats.{row, repeat-row, length-repeated, natural-pos, one_extent-row}}
use Rattle.timeline.proofs.LimitLemmas.{abs-bounds, breaks_ticks, open_breaks, AreAlike, near-from, some_breaks, alike_breaks, alike_count}
use Rattle.timeline.proofs.SegmentTimelineLemmas.{open_at, open_count, open_breaks_limits, HasScale, LastsSome}

pub all_append : {X : Type 0} (P : X → Type 0) (xs ys : List X) → AllByRecursion P xs → AllByRecursion P ys → AllByRecursion P (xs ++ ys)
all_append P [] ys xs_are ys_are = ys_are
all_append P (x ∷ xs) ys xs_are ys_are = (xs_are.0, all_append P xs ys xs_are.1 ys_are)

abbrev pub EndsNear : Extent → Type 0
EndsNear x = IsNear x.end

-- ---- segments that are repeated

pub scales_repeated : (n : ℕ) (x : Extent) → HasScale x → AllByRecursion HasScale (repeated n x)
unfolding repeated
scales_repeated zero x is = tt
scales_repeated (suc n) x is = (is, scales_repeated n (repeat_of x) is)

pub near_rows : (n scale : ℕ) (start : ℤ) (step : ℕ) → 0 < scale → neg_ℤ (pos (2 ^ 64)) <ℤ start
    → (start +ℤ pos (n * step)) <ℤ pos (2 ^ 65 * scale) →
    AllByRecursion EndsNear (repeated n (row scale start step))
unfolding repeated
near_rows zero scale start step some low high = tt
near_rows (suc n) scale start step some low high = (
  near-from (start +ℤ pos step) scale some (omega (arith, ints)) (omega (arith, ints)),
  subst (λ (x : Extent). AllByRecursion EndsNear (repeated n x)) (sym (repeat-row scale start step))
      (near_rows n scale (start +ℤ pos step) step some (omega (arith, ints)) (omega (arith, ints))),
)

-- only where there are some
all_some : (P : Extent → Type 0) (n : ℕ) (x : Extent) → (0 < n → AllByRecursion P (repeated n x)) → AllByRecursion P (repeated n x)
unfolding repeated
all_some P zero x some = tt
all_some P (suc n) x some = some (omega arith)

-- ---- the runs

pub near_run : (s : TimedRun) → IsRun s → AllByRecursion EndsNear (extents_of s)
unfolding repeated
near_run s is = all_some EndsNear s.count (head_of s) (λ some.
    let scale : 0 < s.end.scale = is.end_is in
    elim (cases_lt 1 s.count) [
      | inl several ↦
          let bounds = abs-bounds s.start.ticks (2 ^ 64) is.start_near in
          let ticks = is.in_ticks several in
          subst (λ (x : Extent). AllByRecursion EndsNear (repeated s.count x)) (sym (one_extent-row s is several))
          (near_rows s.count s.end.scale s.start.ticks s.step is.end_is bounds.1 (omega (arith, ints, is.near)))
      | inr few ↦
          let one : 1 ≡ s.count = omega arith in
          let bounds = abs-bounds s.end.ticks (2 ^ 64) is.end_near in
          subst (λ (n : ℕ). AllByRecursion EndsNear (repeated n (head_of s))) one
          (near-from s.end.ticks s.end.scale is.end_is (omega (arith, ints, bounds.0)) bounds.1, tt)
    ])

pub length-laid : (before : ℕ) (runs : List TimedRun) (total : ℕ) → AreLaid before runs total → before + length (all_extents runs) ≡ total
length-laid before [] total laid = omega (arith, laid)
length-laid before (s ∷ later) total (at, some, is, laid) =
    let by_length_append = length-append (extents_of s) (all_extents later) in
    omega (arith, length-repeated s.count (head_of s), length-laid (before + s.count) later total laid)

pub scales_run : (s : TimedRun) → IsRun s → AllByRecursion HasScale (extents_of s)
scales_run s is = scales_repeated s.count (head_of s) is.end_is

pub all_laid : (P : Extent → Type 0) → ((s : TimedRun) → IsRun s → AllByRecursion P (extents_of s))
    → (before : ℕ) (runs : List TimedRun) (total : ℕ) →
    AreLaid before runs total → AllByRecursion P (all_extents runs)
all_laid P each before [] total laid = tt
all_laid P each before (s ∷ later) total (at, some, is, laid) =
    all_append P (extents_of s) (all_extents later) (each s is) (all_laid P each (before + s.count) later total laid)

pub runs_laid : (before : ℕ) (runs : List TimedRun) (total : ℕ) → AreLaid before runs total → AllByRecursion IsRun runs
runs_laid before [] total laid = tt
runs_laid before (s ∷ later) total (at, some, is, laid) = (is, runs_laid (before + s.count) later total laid)

pub run_at : (runs : List TimedRun) (total i : ℕ) (s : TimedRun) → AreLaid 0 runs total → i < length runs → s ≡ get_or runs i s → IsRun s
run_at runs total i s laid within read =
    subst (λ (x : TimedRun). IsRun x) (sym read) (All-from_recursion IsRun runs (runs_laid 0 runs total laid) i s within)

-- ---- the segments that go on to an open end

pub scales_open : (t : Time) (e : Option Endless) → AllByRecursion HasScale (open_at t e)
scales_open t None = tt
scales_open t (Some e) = scales_repeated (endless_count e t) (first_of e) e.start.positive

pub lasts_some : (ticks origin total : ℕ) (e : Option Endless) → FollowsOn ticks origin total e → LastsSome e
lasts_some ticks origin total None follows = tt
lasts_some ticks origin total (Some e) follows = follows.is.lasting

-- so many segments, of which the last one ends before the limit
few_enough : (total origin count step : ℕ) (start : ℤ) → pos 0 ≤ℤ (start +ℤ pos origin)
    → 2 * total ≤ 2 * natural (start +ℤ pos origin) + step → 0 < step → 0 < count →
    ((start +ℤ pos (count * step)) +ℤ pos origin) <ℤ pos (2 ^ 63) → total + count < 2 ^ 63
few_enough total origin count step start placed room lasts some media =
    let first = natural (start +ℤ pos origin) in
    let first_is : start +ℤ pos origin ≡ pos first = natural-pos (start +ℤ pos origin) placed in
    let last : first + count * step < 2 ^ 63 = omega (arith, ints) in
    let more : count - 1 ≤ (count - 1) * step = omega (arith, mul-le-mul_left (count - 1) lasts) in
    let split : count * step ≡ (count - 1) * step + step = let whole : count ≡ (count - 1) + 1 = omega arith in
    omega (arith, ap (λ (n : ℕ). n * step) whole) in
    omega arith

-- ---- media times of starts

abbrev pub StartsTimed : ℕ → Extent → Type 0
StartsTimed origin x = natural (x.start.ticks +ℤ pos origin) < 2 ^ 64

timed_rows : (origin n scale : ℕ) (start : ℤ) (step : ℕ) → pos 0 ≤ℤ (start +ℤ pos origin)
    → ((start +ℤ pos (n * step)) +ℤ pos origin) <ℤ pos (2 ^ 64) →
    AllByRecursion (StartsTimed origin) (repeated n (row scale start step))
unfolding repeated
timed_rows origin zero scale start step low high = tt
timed_rows origin (suc n) scale start step low high =
    let here = natural-pos (start +ℤ pos origin) low in (
      omega (arith, ints),
      subst (λ (x : Extent). AllByRecursion (StartsTimed origin) (repeated n x)) (sym (repeat-row scale start step))
          (timed_rows origin n scale (start +ℤ pos step) step (omega (arith, ints)) (omega (arith, ints))),
    )

-- ---- the whole segments, where no segment that is reached breaks the limits

pub record AreReached (origin total : ℕ) (t : Time) (e : Option Endless) : Type 0 where
  pub few : total + open_count t e ≤ 2 ^ 63
  pub near : AllByRecursion EndsNear (open_at t e)
  pub timed : AllByRecursion (StartsTimed origin) (open_at t e)

module _ (ticks origin total : ℕ) (e : Endless) (t : Time) (follows : Follows ticks origin total e) where
  abbrev count : ℕ
  count = endless_count e t

  abbrev last : ℤ
  last = e.start.n +ℤ pos (count * e.step)

  open_breaks-some : open_breaks_limits ticks origin t (Some e) ≡ some_breaks e.start.scale origin e.start.n e.step count
  open_breaks-some = cc (follows.scale, open_breaks e.start.scale origin e.start.n e.step count e.start.positive)

  module _ (small : total ≤ 2 ^ 63) (keeps : open_breaks_limits ticks origin t (Some e) ≡ false) where
    fine : 0 < count → breaks_ticks e.start.scale origin last e.step ≡ false
    fine some = cc (lt-ltb 0 count some, open_breaks-some)

    -- where the last one ends
    media : 0 < count → (last +ℤ pos origin) <ℤ pos (2 ^ 63)
    media some = let h = fine some in grind (arith, ints, nat_tests)

    far : 0 < count → last ≤ℤ pos (100000000000 * e.start.scale)
    far some = let h = fine some in grind (arith, ints, nat_tests)

    few : total + count ≤ 2 ^ 63
    few = elim (cases_lt 0 count) [
      | inl some ↦
          omega (arith, few_enough total origin count e.step e.start.n follows.placed follows.room follows.is.lasting some (media some))
      | inr none ↦ omega arith
    ]

    pub room_reached : HasRoom e count
    room_reached = record {
      near = λ some.
          let more : 1 * e.step ≤ count * e.step = omega (arith, mul-le-mul_left e.step some) in
          omega (arith, ints, media some, follows.placed);
      countable = omega (arith, few, follows.place);
    }

    reached_some : AreReached origin total t (Some e)
    reached_some = record {
      few = few;
      near = all_some EndsNear count (first_of e) (λ some.
          let bounds = abs-bounds e.start.n (2 ^ 64) e.start.bounded in
          let scale : 0 < e.start.scale = e.start.positive in
          near_rows count e.start.scale e.start.n e.step e.start.positive bounds.1 (omega (arith, ints, far some)));
      timed = all_some (StartsTimed origin) count (first_of e) (λ some.
          timed_rows origin count e.start.scale e.start.n e.step follows.placed (omega (arith, ints, media some)));
    }

pub reached_open : (ticks origin total : ℕ) (e : Option Endless) (t : Time) → FollowsOn ticks origin total e → total ≤ 2 ^ 63
    → open_breaks_limits ticks origin t e ≡ false → AreReached origin total t e
reached_open ticks origin total None t follows small keeps = record { few = omega arith; near = tt; timed = tt }
reached_open ticks origin total (Some e) t follows small keeps = reached_some ticks origin total e t follows small keeps

-- ---- times that are alike

pub alike_open : (ticks origin total : ℕ) (s t : Time) (e : Option Endless) → AreAlike s t → 0 < s.scale → 0 < t.scale
    → FollowsOn ticks origin total e →
    open_breaks_limits ticks origin t e ≡ false → open_count s e ≡ open_count t e
alike_open ticks origin total s t None alike positive_s positive_t follows keeps = refl
alike_open ticks origin total s t (Some e) alike positive_s positive_t follows keeps =
    let bounds = abs-bounds e.start.n (2 ^ 64) e.start.bounded in
    alike_count s t alike positive_s positive_t e.start.scale origin e.start.n e.step e.start.positive follows.is.lasting bounds.0 bounds.1
    follows.short
    (sym (open_breaks-some ticks origin total e t follows) ∙ keeps)

pub alike_open_breaks : (ticks origin total : ℕ) (s t : Time) (e : Endless) → AreAlike s t → 0 < s.scale → 0 < t.scale
    → Follows ticks origin total e →
    some_breaks e.start.scale origin e.start.n e.step (endless_count e s) ≡ open_breaks_limits ticks origin t (Some e)
alike_open_breaks ticks origin total s t e alike positive_s positive_t follows =
    let bounds = abs-bounds e.start.n (2 ^ 64) e.start.bounded in
    alike_breaks s t alike positive_s positive_t e.start.scale origin e.start.n e.step e.start.positive follows.is.lasting bounds.0
    bounds.1 follows.short
    ∙ sym (open_breaks-some ticks origin total e t follows)
