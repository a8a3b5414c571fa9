-- The limits of segments, by ticks.
use Rattle.std.proofs.Common.{◌≡◌, ℕ, zero, suc, ◌+◌, ◌-◌, ◌*◌, ◌<◌, ◌≤◌, ◌^◌, Bool, true, false, ◌&&◌, ◌||◌, ltb, leb, ℤ, pos, ◌+ℤ◌, ◌-ℤ◌}
use Rattle.std.proofs.{Common.{◌*ℤ◌, ◌≤ℤ◌, refl, ◌∙◌, sym, ap, inl, inr, arith, ◌⊎◌, ◌<ℤ◌, neg_ℤ}, lemmas.Int.{ints, by_lt_z, clamps}}
use Rattle.std.proofs.{Math.Bool.or-false, Math.Nat.mul-le-mul_left, lemmas.Bool.{lt-ltb, cases_order, and_from, true≢false}}
use Rattle.std.proofs.lemmas.Bool.Decides.{nat_tests}
use Rattle.std.specs.{Prelude.{int_le, int_lt, unsigned_abs}, List.list_any, Int.{int_max, int_min}}
use Rattle.exact_time.specs.Time.{seconds, before, Time, at_most, nanoseconds}
use Rattle.timeline.specs.{Expansions.{lasting, repeated, ended_by}, Limits.{breaks_limits, media_extent}, declared.limits.Limits.Limits}
use Rattle.timeline.specs.Bounds.{IsNear}
use Rattle.timeline.proofs.{Ratios.{int_le-mul, int_add-mul, int_le-from, not_int_le-from, floor_ticks, at_most-floor}, Repeats.row}
use Rattle.timeline.proofs.Repeats.{repeat-row, ends_by, ends_by-in, ends_by-out, ended_by-row}

pub int_le-cancel : (x y : ℤ) (u : ℕ) → 0 < u → int_le (x *ℤ pos u) (y *ℤ pos u) ≡ int_le x y
int_le-cancel x y u some = by_lt_z y x
    (λ below.
    let next : (y +ℤ pos 1) ≤ℤ x = omega (arith, ints) in
    not_int_le-from (x *ℤ pos u) (y *ℤ pos u) (omega (arith, ints, int_le-mul (y +ℤ pos 1) x u next, int_add-mul y 1 u))
    ∙ sym (not_int_le-from x y below))
    (λ above. int_le-from (x *ℤ pos u) (y *ℤ pos u) (int_le-mul x y u above) ∙ sym (int_le-from x y above))

-- the three limits of a segment of so many ticks
abbrev pub breaks_ticks : ℕ → ℕ → ℤ → ℕ → Bool
breaks_ticks ticks origin end step =
    int_le (pos (2 ^ 63) -ℤ pos origin) end || ltb (1000000 * ticks) step || int_lt (pos (100000000000 * ticks)) end

pub ltb-scaled : (a b u m n : ℕ) → 0 < u → m ≡ a * u → n ≡ b * u → ltb m n ≡ ltb a b
ltb-scaled a b u m n some m_is n_is = grind (arith, nat_tests, λ (h : suc a ≤ b). mul-le-mul_left u h, λ (h : b ≤ a). mul-le-mul_left u h)

lasts_long : (scale : ℕ) (start : ℤ) (step : ℕ) → 0 < scale → before (seconds 1000000) (lasting (row scale start step))
    ≡ ltb (1000000 * scale) step
lasts_long scale start step some =
    let lasts : (start +ℤ pos step) *ℤ pos scale -ℤ start *ℤ pos scale ≡ pos (step * scale) =
    omega (arith, ints, int_add-mul start step scale) in
    cc (ltb-scaled (1000000 * scale) step scale (1000000 * (scale * scale)) (step * scale * 1) some (omega arith) (omega arith))

ends_far : (scale : ℕ) (end : ℤ) → before (seconds 100000000000) (record { ticks = end; scale = scale })
    ≡ int_lt (pos (100000000000 * scale)) end
ends_far scale end = grind (arith, ints, nat_tests)

pub breaks-row : (ticks origin : ℕ) (start : ℤ) (step : ℕ) → 0 < ticks → breaks_limits ticks origin (row ticks start step)
    ≡ breaks_ticks ticks origin (start +ℤ pos step) step
breaks-row ticks origin start step some =
    let a = int_le-cancel (pos (2 ^ 63) -ℤ pos origin) (start +ℤ pos step) ticks some in
    let b = lasts_long ticks start step some in
    let d = ends_far ticks (start +ℤ pos step) in
    cc

-- the segment that ends at a media time
pub breaks_at : (limits : Limits) (end step : ℕ) → step ≤ end →
    breaks_limits limits.ticks limits.origin (media_extent limits end step) ≡ breaks_ticks limits.ticks limits.origin
    (pos end -ℤ pos limits.origin) step
breaks_at limits end step within =
    let same : (pos (end - step) -ℤ pos limits.origin) +ℤ pos step ≡ pos end -ℤ pos limits.origin = omega (arith, ints) in
    cc (breaks-row limits.ticks limits.origin (pos (end - step) -ℤ pos limits.origin) step limits.positive)

pub breaks_media : (limits : Limits) (end step : ℕ) → step ≤ end → breaks_limits limits.ticks limits.origin (media_extent limits end step)
    ≡ (leb (2 ^ 63) end || ltb (1000000 * limits.ticks) step || ltb (limits.origin + limits.ticks * 100000000000) end)
breaks_media limits end step within =
    let a : int_le (pos (2 ^ 63) -ℤ pos limits.origin) (pos end -ℤ pos limits.origin) ≡ leb (2 ^ 63) end = grind (arith, ints, nat_tests) in
    let d : int_lt (pos (100000000000 * limits.ticks)) (pos end -ℤ pos limits.origin)
    ≡ ltb (limits.origin + limits.ticks * 100000000000) end = grind (arith, ints, nat_tests) in
    cc (breaks_at limits end step within)

-- ---- of segments that are equally long, the last one breaks the limits first

-- a segment that ends later breaks the limits where an earlier one does
pub breaks-later : (ticks origin : ℕ) (end later : ℤ) (step : ℕ) → end ≤ℤ later → breaks_ticks ticks origin end step ≡ true
    → breaks_ticks ticks origin later step ≡ true
breaks-later ticks origin end later step before h = grind (arith, ints, nat_tests)

absorbed : (a b : Bool) → (a ≡ true → b ≡ true) → (a || b) ≡ b
absorbed a b later = grind (arith, nat_tests)

some_break : (ticks origin : ℕ) (start : ℤ) (step n : ℕ) → 0 < ticks
    → list_any (breaks_limits ticks origin) (repeated (suc n) (row ticks start step))
    ≡ breaks_ticks ticks origin (start +ℤ pos (suc n * step)) step
unfolding repeated
some_break ticks origin start step zero some =
    let end : start +ℤ pos step ≡ start +ℤ pos (suc 0 * step) = omega (arith, ints) in
    or-false (breaks_limits ticks origin (row ticks start step)) ∙ breaks-row ticks origin start step some
    ∙ ap (λ (z : ℤ). breaks_ticks ticks origin z step) end
some_break ticks origin start step (suc n) some =
    let end : (start +ℤ pos step) +ℤ pos (suc n * step) ≡ start +ℤ pos (suc (suc n) * step) = omega (arith, ints) in
    let last = start +ℤ pos (suc (suc n) * step) in
    let later = absorbed (breaks_ticks ticks origin (start +ℤ pos step) step) (breaks_ticks ticks origin last step)
    (breaks-later ticks origin (start +ℤ pos step) last step (omega (arith, ints))) in
    cc (repeat-row ticks start step, breaks-row ticks origin start step some, some_break ticks origin (start +ℤ pos step) step n some)

-- the segments that go on from a start: some breaks the limits where the last one does
pub open_breaks : (ticks origin : ℕ) (start : ℤ) (step count : ℕ) → 0 < ticks
    → list_any (breaks_limits ticks origin) (repeated count (row ticks start step))
    ≡ (ltb 0 count && breaks_ticks ticks origin (start +ℤ pos (count * step)) step)
unfolding repeated
open_breaks ticks origin start step zero some = refl
open_breaks ticks origin start step (suc n) some = rw (lt-ltb 0 (suc n) (omega arith)) (some_break ticks origin start step n some)

-- ---- the segments that go on to an open end, at a time and at a bound that stands for it

-- the two times are one to every segment's end
abbrev pub AreAlike : Time → Time → Type 0
AreAlike s t = (end : Time) → IsNear end → at_most end s ≡ at_most end t

pub abs-lt : (z : ℤ) (n : ℕ) → z <ℤ pos n → neg_ℤ (pos n) <ℤ z → unsigned_abs z < n
abs-lt z n h k = grind (arith, ints)

pub near-from : (z : ℤ) (scale : ℕ) → 0 < scale → z <ℤ pos (2 ^ 65 * scale) → neg_ℤ (pos (2 ^ 64)) <ℤ z
    → IsNear (record { ticks = z; scale = scale })
near-from z scale some below above = record {
  positive = some;
  near = abs-lt z (2 ^ 65 * scale) below (omega (arith, ints));
}

-- so many segments are reached, and the last one breaks the limits
abbrev Breaks : ℕ → ℕ → ℤ → ℕ → ℕ → Type 0
Breaks ticks origin start step count = (0 < count) × (breaks_ticks ticks origin (start +ℤ pos (count * step)) step ≡ true)

-- a segment before one that is far breaks the limits
breaks_before_far : (ticks origin : ℕ) (start : ℤ) (step count : ℕ) → 0 < ticks
    → pos (2 ^ 65 * ticks) ≤ℤ ((start +ℤ pos step) +ℤ pos (count * step)) →
    breaks_ticks ticks origin (start +ℤ pos (count * step)) step ≡ true
breaks_before_far ticks origin start step count some far = grind (arith, ints, nat_tests)

-- whether some of so many segments breaks the limits
abbrev pub some_breaks : ℕ → ℕ → ℤ → ℕ → ℕ → Bool
some_breaks ticks origin start step count = ltb 0 count && breaks_ticks ticks origin (start +ℤ pos (count * step)) step

more_break : (ticks origin : ℕ) (start : ℤ) (step c d : ℕ) → c ≤ d → Breaks ticks origin start step c
    → some_breaks ticks origin start step d ≡ true
more_break ticks origin start step c d within (some, breaks) = and_from (ltb 0 d) (breaks_ticks ticks origin (start +ℤ pos (d * step)) step)
    (lt-ltb 0 d (omega arith))
    (breaks-later ticks origin (start +ℤ pos (c * step)) (start +ℤ pos (d * step)) step
    (omega (arith, ints, mul-le-mul_left step within)) breaks)

-- where two times are alike, the end behind those by the earlier one is far
module _ (s t : Time) (alike : AreAlike s t) (positive_s : 0 < s.scale) (positive_t : 0 < t.scale)
    (ticks origin : ℕ) (start : ℤ) (step : ℕ) (some : 0 < ticks) (lasts : 0 < step) (high : start <ℤ pos (2 ^ 64))
    (low : neg_ℤ (pos (2 ^ 64)) <ℤ start) (short : step < 2 ^ 64) where
  fewer : ends_by (floor_ticks s ticks) (start +ℤ pos step) step < ends_by (floor_ticks t ticks) (start +ℤ pos step) step
      → (some_breaks ticks origin start step (ended_by s (row ticks start step)) ≡ true)
      × (some_breaks ticks origin start step (ended_by t (row ticks start step)) ≡ true)
  fewer less =
      let c = ends_by (floor_ticks s ticks) (start +ℤ pos step) step in
      let d = ends_by (floor_ticks t ticks) (start +ℤ pos step) step in
      let end = (start +ℤ pos step) +ℤ pos (c * step) in
      let out = ends_by-out (floor_ticks s ticks) (start +ℤ pos step) step c lasts (omega arith) in
      let within = ends_by-in (floor_ticks t ticks) (start +ℤ pos step) step c less in
      let out_s : at_most (record { ticks = end; scale = ticks }) s ≡ false = at_most-floor end ticks s positive_s
      ∙ not_int_le-from end (floor_ticks s ticks) out in
      let in_t : at_most (record { ticks = end; scale = ticks }) t ≡ true = at_most-floor end ticks t positive_t
      ∙ int_le-from end (floor_ticks t ticks) within in
      by_lt_z end (pos (2 ^ 65 * ticks))
      (λ below. absurd (true≢false (sym in_t ∙ sym (alike (record { ticks = end; scale = ticks })
      (near-from end ticks some below (omega (arith, ints)))) ∙ out_s)))
      (λ far.
      let has : 0 < c = elim (cases_order 0 c) [
        | inl none ↦ absurd (omega (arith, ints, ap (λ (n : ℕ). n * step) none))
        | inr one ↦ omega arith
      ] in
      let broken : Breaks ticks origin start step c = (has, breaks_before_far ticks origin start step c some far) in (
        rw (ended_by-row s ticks start step positive_s some lasts) (more_break ticks origin start step c c (omega arith) broken),
        rw (ended_by-row t ticks start step positive_t some lasts) (more_break ticks origin start step c d (omega arith) broken),
      ))

-- the segments up to two times that are alike: as many, or both too many
module _ (s t : Time) (alike : AreAlike s t) (positive_s : 0 < s.scale) (positive_t : 0 < t.scale)
    (ticks origin : ℕ) (start : ℤ) (step : ℕ) (some : 0 < ticks) (lasts : 0 < step) (high : start <ℤ pos (2 ^ 64))
    (low : neg_ℤ (pos (2 ^ 64)) <ℤ start) (short : step < 2 ^ 64) where
  as_many_or_both : (ended_by s (row ticks start step) ≡ ended_by t (row ticks start step))
      ⊎ ((some_breaks ticks origin start step (ended_by s (row ticks start step)) ≡ true)
      × (some_breaks ticks origin start step (ended_by t (row ticks start step)) ≡ true))
  as_many_or_both =
      let c = ends_by (floor_ticks s ticks) (start +ℤ pos step) step in
      let d = ends_by (floor_ticks t ticks) (start +ℤ pos step) step in
      let alike_t : AreAlike t s = λ end near. sym (alike end near) in
      elim (cases_order c d) [
        | inl same ↦ inl (ended_by-row s ticks start step positive_s some lasts ∙ same
            ∙ sym (ended_by-row t ticks start step positive_t some lasts))
        | inr apart ↦ elim apart [
          | inl less ↦ inr (fewer s t alike positive_s positive_t ticks origin start step some lasts high low short less)
          | inr more ↦
              let broken = fewer t s alike_t positive_t positive_s ticks origin start step some lasts high low short more in
              inr (broken.1, broken.0)
        ]
      ]

  pub alike_breaks : some_breaks ticks origin start step (ended_by s (row ticks start step))
      ≡ some_breaks ticks origin start step (ended_by t (row ticks start step))
  alike_breaks = elim as_many_or_both [ inl same ↦ ap (some_breaks ticks origin start step) same | inr both ↦ both.0 ∙ sym both.1 ]

  pub alike_count : some_breaks ticks origin start step (ended_by t (row ticks start step)) ≡ false
      → ended_by s (row ticks start step) ≡ ended_by t (row ticks start step)
  alike_count keeps = elim as_many_or_both [ inl same ↦ same | inr both ↦ absurd (true≢false (sym both.1 ∙ keeps)) ]

-- ---- bounds: a time past every segment's end may be brought nearer

pub abs-bounds : (z : ℤ) (n : ℕ) → unsigned_abs z < n → (z <ℤ pos n) × (neg_ℤ (pos n) <ℤ z)
abs-bounds z n h = grind (arith, ints)

-- every segment ends by a time that is far
pub at_most-far : (end : Time) (count : ℤ) → IsNear end → pos (2 ^ 95) ≤ℤ count → at_most end (nanoseconds count) ≡ true
at_most-far end count near far =
    let within = abs-bounds end.ticks (2 ^ 65 * end.scale) near.near in
    int_le-from (end.ticks *ℤ pos 1000000000) (count *ℤ pos end.scale)
    (omega (arith, ints, within.0, int_le-mul (pos (2 ^ 95)) count end.scale far))

-- no segment ends by a time that is long before
pub not_at_most-far : (end : Time) (count : ℤ) → IsNear end → count ≤ℤ neg_ℤ (pos (2 ^ 95)) → at_most end (nanoseconds count) ≡ false
not_at_most-far end count near far =
    let within = abs-bounds end.ticks (2 ^ 65 * end.scale) near.near in
    let less = int_le-mul count (neg_ℤ (pos (2 ^ 95))) end.scale far in
    not_int_le-from (end.ticks *ℤ pos 1000000000) (count *ℤ pos end.scale) (omega (arith, ints, within.1, less))

-- a time that is brought between two far ones stands for itself
pub at_most-clamped : (count near : ℤ) → near ≡ int_max (neg_ℤ (pos (2 ^ 95))) (int_min count (pos (2 ^ 95))) →
    (end : Time) → IsNear end → at_most end (nanoseconds near) ≡ at_most end (nanoseconds count)
at_most-clamped count near is end is_near = by_lt_z (pos (2 ^ 95)) count
    (λ above. at_most-far end near is_near (omega (arith, ints, clamps)) ∙ sym (at_most-far end count is_near (omega (arith, ints))))
    (λ under. by_lt_z count (neg_ℤ (pos (2 ^ 95)))
    (λ below. not_at_most-far end near is_near (omega (arith, ints, clamps))
    ∙ sym (not_at_most-far end count is_near (omega (arith, ints))))
    (λ over. let same : near ≡ count = omega (arith, ints, clamps) in ap (λ (z : ℤ). at_most end (nanoseconds z)) same))
