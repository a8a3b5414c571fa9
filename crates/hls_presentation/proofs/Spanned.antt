-- What a track has in a section is given, where its segments have maps and last some time.
use Rattle.std.proofs.Common.{◌≡◌, ℕ, ◌+◌, ◌/◌, ◌<◌, ◌≤◌, ◌^◌, ◌⊎◌, inl, inr, true, false, eqb, List, [], ◌∷◌, map, length, All, Option}
use Rattle.std.proofs.{Common.{Some, None, is_none, Ok, refl, sym, ◌∙◌, subst, arith}, lemmas.Bool.{eq-eqb, eqb-true, eqb-false}}
use Rattle.std.proofs.{lemmas.List.length-map, lemmas.List.Elements.{All-head, All-tail}, lemmas.List.Sums.sum_by-cons}
use Rattle.std.specs.List.{list_any}
use Rattle.exact_time.specs.Time.{in_units}
use Rattle.timeline.specs.{Expansions.{Closed, SegmentTimeline}, Faults.{lasts_no_time, segment_fault}, Limits.span_breaks_limits}
use Rattle.url_parts.specs.declared.address.Part.{Part}
use Rattle.hls_media.specs.declared.media.MediaSegment.{MediaSegment}
use Rattle.presentation.specs.declared.parts.Content.{Content}
use Rattle.hls_presentation.specs.Presenting.{content_of, content_with, initialization_in, is_micros, extent_at, extents_from, part_of}
use Rattle.hls_presentation.specs.{Presenting.{parts_of, runs_of, ticks_by_second, timeline_with}, Sections.length_of}
use Rattle.hls_presentation.proofs.{Came.{closed, length_extents}, Grouping.IsRowed, Timed.{IsSet, fit_micros, fit_nanos, set}}

pub record IsTimed (nanos : ℕ) (s : MediaSegment) : Type 0 where
  pub map : is_none s.map ≡ false
  pub lasting : eqb s.duration 0 ≡ false
  pub short : s.duration ≤ 10 ^ 15
  pub whole : nanos ≡ 1000 → is_micros s ≡ true

-- the nanoseconds of a tick
abbrev pub IsUnit : ℕ → Type 0
IsUnit nanos = (nanos ≡ 1) ⊎ (nanos ≡ 1000)

lasts : (d : ℕ) → eqb d 0 ≡ false → 0 < d
lasts d is = (let some : d ≡ 0 → ⊥ = eqb-false d 0 is in omega (arith, some))

timed : (nanos start : ℕ) (s : MediaSegment) → IsUnit nanos → IsTimed nanos s → start + s.duration < 2 ^ 63
    → IsSet (extent_at nanos start (start + s.duration))
timed nanos start s (inl is) one small =
    subst (λ n. IsSet (extent_at n start (start + s.duration))) (sym is)
    (set 1000000000 _ _ (fit_nanos start s.duration (lasts s.duration one.lasting) one.short small))
timed nanos start s (inr is) one small =
    subst (λ n. IsSet (extent_at n start (start + s.duration))) (sym is)
    (set 1000000 _ _ (fit_micros start s.duration (lasts s.duration one.lasting) one.short (eqb-true _ 0 (one.whole is)) small))

module _ (nanos : ℕ) (unit : IsUnit nanos) where
  all_last : (start : ℕ) (group : List MediaSegment) → All (IsTimed nanos) group → start + length_of group < 2 ^ 63
      → list_any lasts_no_time (extents_from nanos start group) ≡ false
  all_last start [] all small = refl
  all_last start (s ∷ rest) all small =
      let sum = sum_by-cons (λ (s : MediaSegment). s.duration) s rest in
      let one = timed nanos start s unit (All-head (IsTimed nanos) s rest all) (omega (arith, small, sum)) in
      rw one.lasting (all_last (start + s.duration) rest (All-tail (IsTimed nanos) s rest all) (omega (arith, small, sum)))

  none_apart : (start : ℕ) (group : List MediaSegment) → All (IsTimed nanos) group → start + length_of group < 2 ^ 63
      → segment_fault span_breaks_limits (Some (in_units (ticks_by_second nanos) (start / nanos)))
      (map Closed (extents_from nanos start group)) ≡ None
  none_apart start [] all small = refl
  none_apart start (s ∷ rest) all small =
      let sum = sum_by-cons (λ (s : MediaSegment). s.duration) s rest in
      let one = timed nanos start s unit (All-head (IsTimed nanos) s rest all) (omega (arith, small, sum)) in
      rw (one.kept, one.next) (none_apart (start + s.duration) rest (All-tail (IsTimed nanos) s rest all) (omega (arith, small, sum)))

  none_faulty : (group : List MediaSegment) → All (IsTimed nanos) group → length_of group < 2 ^ 63
      → segment_fault span_breaks_limits None (map Closed (extents_from nanos 0 group)) ≡ None
  none_faulty [] all small = refl
  none_faulty (s ∷ rest) all small =
      let sum = sum_by-cons (λ (s : MediaSegment). s.duration) s rest in
      let one = timed nanos 0 s unit (All-head (IsTimed nanos) s rest all) (omega (arith, small, sum)) in
      rw one.kept (none_apart (0 + s.duration) rest (All-tail (IsTimed nanos) s rest all) (omega (arith, small, sum)))

  runs_ok : (group : List MediaSegment) → All (IsTimed nanos) group → length_of group < 2 ^ 63
      → (runs : SegmentTimeline) × (runs_of nanos group ≡ Ok runs)
  runs_ok group all small =
      let xs = extents_from nanos 0 group in
      let last = all_last 0 group all (omega (arith, small)) in
      let fits = none_faulty group all small in
      let paired : eqb (length (map Closed xs)) (length (parts_of group)) ≡ true = eq-eqb _ _ (length-map xs Closed
      ∙ length_extents nanos 0 group ∙ sym (length-map group part_of)) in
      (timeline_with (ticks_by_second nanos) (parts_of group) xs, rw (last, fits, closed xs, paired) refl)

  -- the first segment has a map
  first_map : (map : Option Part) → is_none map ≡ false → (part : Part) × (initialization_in map ≡ Ok part)
  first_map None is = absurd (cc)
  first_map (Some part) is = (part, refl)

  pub content_ok : (group : List MediaSegment) → IsRowed (IsTimed nanos) group → (content : Content) × (content_of nanos group ≡ Ok content)
  content_ok [] is = absurd (let none = is.whole.some in omega (arith, none))
  content_ok (s ∷ rest) is =
      let first = first_map s.map (All-head (IsTimed nanos) s rest is.whole.all).map in
      let runs = runs_ok (s ∷ rest) is.whole.all is.short in
      (content_with first.0 runs.0, rw (first.1, runs.1) refl)
