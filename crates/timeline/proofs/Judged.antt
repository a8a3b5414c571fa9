-- Judging segments in ticks of one scale.
use Rattle.std.proofs.Common.{◌≡◌, ℕ, zero, suc, ◌+◌, ◌-◌, ◌*◌, ◌<◌, ◌≤◌, ◌^◌, Bool, true, false, cond, ltb, List, ◌∷◌, ◌++◌, map, ℤ, pos}
use Rattle.std.proofs.{Common.{◌+ℤ◌, ◌-ℤ◌, ◌*ℤ◌, Option, Some, None, ◌∙◌, sym, ap, inl, inr, arith}, lemmas.Int.ints}
use Rattle.std.proofs.{lemmas.Bool.{cases_Bool, cond-true, cond-false, lt-leb, eq-eqb, ne_eqb}, lemmas.Bool.Decides.nat_tests}
use Rattle.std.proofs.Math.Nat.{one-le-mul}
use Rattle.std.specs.Prelude.{unsigned_abs, ◌⊎◌, ◌==◌}
use Rattle.exact_time.specs.Time.{Time, seconds, before, at_most}
use Rattle.timeline.specs.{declared.fault.TimeFault.TimeFault, declared.fault.TimeFault.TheVariants.{Step, Range}}
use Rattle.timeline.specs.{declared.builder.RunsBuilder.RunsBuilder, declared.limits.Limits.Limits, Expansions.{Extent, Member, Closed}}
use Rattle.timeline.specs.{Expansions.{lasting, repeat_of, repeated}, Limits.{breaks_limits, media_extent, too_long}, Faults.is_apart}
use Rattle.timeline.specs.{Faults.segment_fault, Building.{placed_in, extent_in, breaks_in, fault_of, former_end}}
use Rattle.timeline.proofs.{Ratios.{int_add-mul, int_le-false}, Repeats.{row, repeat-row}, LimitLemmas.{breaks_ticks, breaks-row}}
use Rattle.timeline.proofs.LimitLemmas.{breaks-later, int_le-cancel, ltb-scaled}

-- ---- whole numbers

abs_of_negated : (z : ℤ) (n : ℕ) → z +ℤ pos n ≡ pos 0 → unsigned_abs z ≡ n
abs_of_negated z n h = grind (arith, ints)

-- what keeps the limits keeps each of them
pub keeps : (ticks origin : ℕ) (x : Extent) → breaks_limits ticks origin x ≡ false →
    (at_most (record { ticks = pos (2 ^ 63) -ℤ pos origin; scale = ticks }) x.end ≡ false) × (too_long x ≡ false)
    × (before (seconds 100000000000) x.end ≡ false)
keeps ticks origin x kept = grind (arith, nat_tests)

pub not_long : (ticks origin : ℕ) (x : Extent) → breaks_limits ticks origin x ≡ false → too_long x ≡ false
not_long ticks origin x kept = (keeps ticks origin x kept).1

-- ---- the fault of the first member

pub passes : (a b : Bool) (rest : Option TimeFault) → cond a (Some Range) (cond b (Some Step) rest) ≡ None →
    (a ≡ false) × (b ≡ false) × (rest ≡ None)
passes a b rest none = grind (arith, nat_tests)

pub fault_of_two : (a b : Bool) (fault : TimeFault) (rest : Option TimeFault) → cond a (Some Range) (cond b (Some Step) None) ≡ Some fault
    → cond a (Some Range) (cond b (Some Step) rest) ≡ Some fault
fault_of_two a b fault rest is = grind (arith, nat_tests)

module _ (breaks : Extent → Bool) where
  pub head_passes : (former : Option Time) (x : Extent) (later : List Member) → breaks x ≡ false → is_apart former x ≡ false →
      segment_fault breaks former (Closed x ∷ later) ≡ segment_fault breaks (Some x.end) later
  head_passes former x later kept near = cond-false (breaks x) _ _ kept ∙ cond-false (is_apart former x) _ _ near

  pub head_breaks : (former : Option Time) (x : Extent) (later : List Member) → breaks x ≡ true
      → segment_fault breaks former (Closed x ∷ later) ≡ Some Range
  head_breaks former x later broken = cond-true (breaks x) _ _ broken

-- ---- media times of one scale

module _ (l : Limits) where
  abbrev pub o : ℕ
  o = l.origin

  abbrev pub t : ℕ
  t = l.ticks

  abbrev media : ℕ → ℤ
  media s = pos s -ℤ pos o

  media-add : (s d : ℕ) → media (s + d) ≡ media s +ℤ pos d
  media-add s d = omega (arith, ints)

  pub extent_in-row : (s d : ℕ) → extent_in l s d ≡ row t (media s) d
  extent_in-row s d = cc (media-add s d)

  pub repeat-extent_in : (s d : ℕ) → repeat_of (extent_in l s d) ≡ extent_in l (s + d) d
  repeat-extent_in s d = cc (extent_in-row s d, repeat-row t (media s) d, media-add s d, extent_in-row (s + d) d)

  -- the time between two of them
  media_times : (s d : ℕ) → media (s + d) *ℤ pos t ≡ media s *ℤ pos t +ℤ pos (d * t)
  media_times s d = rw (media-add s d) (int_add-mul (media s) d t)

  pub lasting-extent_in : (s d : ℕ) → lasting (extent_in l s d) ≡ record { ticks = pos (d * t); scale = t * t }
  lasting-extent_in s d =
      let times = media_times s d in
      let same : media (s + d) *ℤ pos t -ℤ media s *ℤ pos t ≡ pos (d * t) = omega (arith, ints) in cc

  abs_gap : (s f gap : ℕ) → (s ≡ f + gap) ⊎ (f ≡ s + gap) → unsigned_abs (media s *ℤ pos t -ℤ media f *ℤ pos t) ≡ gap * t
  abs_gap s f gap (inl later) =
      let same : media s *ℤ pos t -ℤ media f *ℤ pos t ≡ pos (gap * t) = rw later (omega (arith, ints, media_times f gap)) in
      ap unsigned_abs same
  abs_gap s f gap (inr earlier) =
      rw earlier (abs_of_negated (media s *ℤ pos t -ℤ media (s + gap) *ℤ pos t) (gap * t) (omega (arith, ints, media_times s gap)))

  -- ---- how far a segment is from the one before it

  pub is_apart-in : (s d f gap : ℕ) → 0 < t → (s ≡ f + gap) ⊎ (f ≡ s + gap) → is_apart (Some (placed_in l f)) (extent_in l s d)
      ≡ ltb d (2 * gap)
  is_apart-in s d f gap some between =
      let by_ltb_scaled = ltb-scaled d (2 * gap) (t * (t * t)) (d * t * (t * t)) (2 * (gap * t) * (t * t))
      (one-le-mul some (one-le-mul some some)) (omega arith) (omega arith) in
      cc (abs_gap s f gap between, lasting-extent_in s d)

  -- a segment begins where the one before it ends
  pub touching : (s d : ℕ) → 0 < t → is_apart (Some (placed_in l s)) (extent_in l s d) ≡ false
  touching s d some = is_apart-in s d s 0 some (inl (omega arith)) ∙ lt-leb (suc d) (2 * 0) (omega arith)

  -- ---- limits

  abbrev pub breaks : ℕ → ℕ → Bool
  breaks s d = breaks_in l (extent_in l s d)

  pub media_extent-in : (s d e : ℕ) → e ≡ s + d → media_extent l e d ≡ extent_in l s d
  media_extent-in s d e is = let start : e - d ≡ s = omega arith in cc

  breaks-ticks : (s d : ℕ) → 0 < t → breaks s d ≡ breaks_ticks t o (media s +ℤ pos d) d
  breaks-ticks s d some = ap (breaks_limits t o) (extent_in-row s d) ∙ breaks-row t o (media s) d some

  -- segments of one duration break the limits from some one on
  pub breaks-mono : (s later d : ℕ) → 0 < t → s ≤ later → breaks s d ≡ true → breaks later d ≡ true
  breaks-mono s later d some le h = breaks-ticks later d some
      ∙ breaks-later t o (media s +ℤ pos d) (media later +ℤ pos d) d (omega (arith, ints)) (sym (breaks-ticks s d some) ∙ h)

  -- a segment within the limits ends before 2^63 ticks
  pub within-end : (d e : ℕ) → 0 < t → breaks_limits t o (media_extent l e d) ≡ false → e < 2 ^ 63
  within-end d e some kept = omega (
    arith,
    ints,
    int_le-false (media (2 ^ 63)) (media e) (sym (int_le-cancel (media (2 ^ 63)) (media e) t some)
        ∙ (keeps t o (media_extent l e d) kept).0),
  )

  -- ---- a run of segments of one duration

  pub fault_of-none : (former : Option Time) (x : Extent) → fault_of l former x ≡ None → (breaks_in l x ≡ false)
      × (is_apart former x ≡ false)
  fault_of-none former x none = let both = passes _ _ None none in (both.0, both.1)

  -- the first one has no fault, so the last one tells whether one breaks the limits
  pub run_fault : (d count s : ℕ) (former : Option Time) (later : List Member) → 0 < t → breaks s d ≡ false
      → is_apart former (extent_in l s d) ≡ false →
      segment_fault (breaks_in l) former (map Closed (repeated (suc count) (extent_in l s d)) ++ later)
      ≡ cond (breaks (s + count * d) d) (Some Range) (segment_fault (breaks_in l) (Some (placed_in l (s + suc count * d))) later)
  unfolding repeated
  run_fault d zero s former later some kept near =
      let first : s + 0 * d ≡ s = omega arith in
      let end : s + d ≡ s + suc 0 * d = omega arith in
      let by_head_passes = head_passes (breaks_in l) former (extent_in l s d) later kept near in
      cc (cond-false (breaks (s + 0 * d) d) (Some Range) _ (ap (λ (n : ℕ). breaks n d) first ∙ kept))
  run_fault d (suc count) s former later some kept near =
      let last : (s + d) + count * d ≡ s + suc count * d = omega arith in
      let end : (s + d) + suc count * d ≡ s + suc (suc count) * d = omega arith in
      head_passes (breaks_in l) former (extent_in l s d)
      (map Closed (repeated (suc count) (repeat_of (extent_in l s d))) ++ later) kept near
      ∙ ap (λ (y : Extent). segment_fault (breaks_in l) (Some (placed_in l (s + d))) (map Closed (repeated (suc count) y) ++ later))
      (repeat-extent_in s d) ∙ elim (cases_Bool (breaks (s + d) d)) [
        | inl broken ↦
            head_breaks (breaks_in l) (Some (placed_in l (s + d))) (extent_in l (s + d) d)
            (map Closed (repeated count (repeat_of (extent_in l (s + d) d))) ++ later) broken
            ∙ sym (cond-true _ (Some Range) _ (breaks-mono (s + d) (s + suc count * d) d some (omega arith) broken))
        | inr fine ↦
            cc (run_fault d count (s + d) (Some (placed_in l (s + d))) later some fine (touching (s + d) d some))
      ]

  pub run_breaks : (s d count e : ℕ) (former : Option Time) → 0 < t → 0 < count → fault_of l former (extent_in l s d) ≡ None → d ≤ e
      → e ≤ s + count * d → breaks_limits t o (media_extent l e d) ≡ true →
      (later : List Member) → segment_fault (breaks_in l) former (map Closed (repeated count (extent_in l s d)) ++ later) ≡ Some Range
  run_breaks s d zero e former some has none low high broken later = absurd (omega arith)
  run_breaks s d (suc count) e former some has none low high broken later =
      let first = fault_of-none former (extent_in l s d) none in
      let early : breaks (e - d) d ≡ true = cc (media_extent-in (e - d) d e (omega arith)) in
      run_fault d count s former later some first.0 first.1
      ∙ cond-true (breaks (s + count * d) d) (Some Range) _ (breaks-mono (e - d) (s + count * d) d some (omega arith) early)

  pub run_passes : (s d count e : ℕ) (former : Option Time) → 0 < t → 0 < count → fault_of l former (extent_in l s d) ≡ None
      → e ≡ s + count * d → breaks_limits t o (media_extent l e d) ≡ false →
      (later : List Member) → segment_fault (breaks_in l) former (map Closed (repeated count (extent_in l s d)) ++ later)
      ≡ segment_fault (breaks_in l) (Some (placed_in l e)) later
  run_passes s d zero e former some has none end kept later = absurd (omega arith)
  run_passes s d (suc count) e former some has none end kept later =
      let first = fault_of-none former (extent_in l s d) none in
      let last : breaks (s + count * d) d ≡ false = cc (media_extent-in (s + count * d) d e (omega arith)) in
      cc (run_fault d count s former later some first.0 first.1, cond-false (breaks (s + count * d) d) (Some Range) _ last)

pub former_end-some : (l : RunsBuilder) → 0 < l.total → former_end l ≡ Some (placed_in l.limits l.former)
former_end-some l some = cond-false (l.total == 0) None _ (ne_eqb l.total 0 (omega arith))

pub former_end-none : (l : RunsBuilder) → l.total ≡ 0 → former_end l ≡ None
former_end-none l none = cond-true (l.total == 0) None _ (eq-eqb l.total 0 none)
