-- The segments of a track in a section, one after another.
use Rattle.meaning.specs.declared.difference.Aspect.TheVariants as aspect
use Rattle.differences.specs.declared.deviation.How.TheVariants as how
use Rattle.std.proofs.Common.{◌≡◌, ℕ, ◌+◌, ◌^◌, ◌==◌, Bool, true, false, List, [], ◌∷◌, ◌++◌, length, min, bytes_eq, refl, sym}
use Rattle.std.proofs.{Common.{◌∙◌, ap, arith}, lemmas.Bool.{eq-eqb, eqb-true}}
use Rattle.std.specs.Option.{option_eq}
use Rattle.exact_time.specs.{declared.tick.Tick.Tick, Tick.time_of, Time.{Time}}
use Rattle.url_parts.specs.declared.address.Part.{Part}
use Rattle.meaning.specs.{Differences.{in_entry, is_same_part, is_same_range}, Meanings.{Segment}}
use Rattle.differences.specs.declared.{collected.Collected.Collected, deviation.Deviation.Deviation, segments.Begins.Begins}
use Rattle.differences.specs.declared.times.Tolerance.{Tolerance}
use Rattle.differences.specs.Collecting.{added, all_added, noted}
use Rattle.differences.specs.Deviating.{deviation, end_apart, number_deviations, segment_deviations, segments_deviations}
use Rattle.differences.specs.Deviating.{segments_greatest, unless}
use Rattle.comparison.specs.{Comparing.{behind, entry_made}, declared.spot.Spot.Spot}
use Rattle.differences.specs.Segments.{entry_noted, noted_from, segment_noted, time_noted}
use Rattle.differences.proofs.Collecting.{noted_after, noted_more, noted_none}

pub spot_is : (x : Spot) (s t k : ℕ) → x.section ≡ s → x.track ≡ t → x.segment ≡ k → x ≡ record { section = s; track = t; segment = k }
spot_is x s t k same_s same_t same_k = rw (← same_s, ← same_t, ← same_k) refl

module _ (begins : Begins) (at : Spot) (c : Collected) where
  pub next_segment : (a b : Segment) (xs ys : List Segment)
      → noted_from begins at c (a ∷ xs) (b ∷ ys) ≡ noted_from begins (behind at) (segment_noted begins at c a b) xs ys
  next_segment a b xs ys = sym (noted_more c
      (segment_deviations begins.tolerance.within (10 ^ begins.tolerance.digits) (in_entry at.track at.section at.segment)
      (time_of begins.mine) (time_of begins.theirs) a b)
      (segments_deviations begins.tolerance.within (10 ^ begins.tolerance.digits) at.track at.section (at.segment + 1)
      (time_of begins.mine) (time_of begins.theirs) xs ys) (end_apart (time_of begins.mine) (time_of begins.theirs) a b)
      (segments_greatest (time_of begins.mine) (time_of begins.theirs) xs ys))

  counted_alike : (m n : ℕ) (same : Bool) (found : Deviation) → (m == n) ≡ same → m ≡ n → c ≡ all_added c (unless same found)
  counted_alike m n true found is alike = refl
  counted_alike m n false found is alike = let e = eq-eqb m n alike in absurd (cc)

  counted_apart : (m n : ℕ) (same : Bool) (found : Deviation) → (m == n) ≡ same → (m ≡ n → ⊥)
      → added c found ≡ all_added c (unless same found)
  counted_apart m n true found is apart = absurd (apart (eqb-true m n is))
  counted_apart m n false found is apart = refl

  abbrev count_how : (m n : ℕ) → Deviation
  count_how m n = deviation (in_entry at.track at.section at.segment aspect.Count) (how.Counts m n)

  pub at_end : (m n : ℕ) (xs ys : List Segment) → at.segment + length xs ≡ m → at.segment + length ys ≡ n
      → min (length xs) (length ys) ≡ 0
      → noted_from begins at c xs ys ≡ all_added c (number_deviations (in_entry at.track at.section at.segment aspect.Count) m n)
  at_end m n [] [] is_m is_n end = noted_none c ∙ counted_alike m n (m == n) (count_how m n) refl (omega (arith, is_m, is_n))
  at_end m n (x ∷ xs) [] is_m is_n end = noted_none (added c (count_how (at.segment + length (x ∷ xs)) (at.segment + 0)))
      ∙ rw (is_m, is_n) (counted_apart m n (m == n) (count_how m n) refl (λ same. omega (arith, is_m, is_n, same)))
  at_end m n [] (y ∷ ys) is_m is_n end = noted_none (added c (count_how (at.segment + 0) (at.segment + length (y ∷ ys))))
      ∙ rw (is_m, is_n) (counted_apart m n (m == n) (count_how m n) refl (λ same. omega (arith, is_m, is_n, same)))
  at_end m n (x ∷ xs) (y ∷ ys) is_m is_n end = absurd (omega (arith, end))

-- the parts of a segment, one after another
module _ (begins : Begins) (at : Spot) (c : Collected) (a b : Segment) where
  abbrev pub address : List Deviation
  address = unless (bytes_eq a.part.address b.part.address)
      (deviation (in_entry at.track at.section at.segment aspect.Address) how.Value)

  abbrev pub range : List Deviation
  range = unless (option_eq is_same_range a.part.range b.part.range)
      (deviation (in_entry at.track at.section at.segment aspect.Range) how.Value)

  pub segment_parts : time_noted begins at (all_added (all_added c address) range) a b ≡ segment_noted begins at c a b
  segment_parts = noted_after (all_added c address) range _ (end_apart (time_of begins.mine) (time_of begins.theirs) a b)
      ∙ noted_after c address _ (end_apart (time_of begins.mine) (time_of begins.theirs) a b)

module _ (tolerance : Tolerance) (spot : Spot) (c : Collected) (i j : Part) (at_first : spot.segment ≡ 0) where
  -- the init segment
  abbrev pub part : List Deviation
  part = unless (is_same_part i j) (deviation (in_entry spot.track spot.section spot.segment aspect.Initialization) how.Value)

  -- from the first segments on
  module _ (m n : Tick) (a b : Segment) (rest_a rest_b : List Segment) where
    abbrev begins : Begins
    begins = record { mine = m; theirs = n; tolerance = tolerance }

    abbrev since : (x y : Time) → (k : ℕ) → Collected
    since x y k = noted c (unless (is_same_part i j) (deviation (in_entry spot.track spot.section k aspect.Initialization) how.Value)
        ++ segments_deviations tolerance.within (10 ^ tolerance.digits) spot.track spot.section k x y (a ∷ rest_a) (b ∷ rest_b))
        (segments_greatest x y (a ∷ rest_a) (b ∷ rest_b))

    pub in_both : (xs ys : List Segment) → xs ≡ a ∷ rest_a → ys ≡ b ∷ rest_b → time_of m ≡ a.start → time_of n ≡ b.start
        → noted_from begins (record spot { segment = 1 }) (segment_noted begins spot (all_added c part) a b) rest_a rest_b
        ≡ entry_noted tolerance spot c (entry_made i xs) (entry_made j ys)
    in_both xs ys some_a some_b begin_a begin_b =
        let one : 1 ≡ spot.segment + 1 = omega (arith, at_first) in
        ap (λ (k : ℕ). noted_from begins (record spot { segment = k }) (segment_noted begins spot (all_added c part) a b) rest_a rest_b) one
        ∙ sym (next_segment begins spot (all_added c part) a b rest_a rest_b)
        ∙ noted_after c part (segments_deviations tolerance.within (10 ^ tolerance.digits) spot.track spot.section spot.segment
        (time_of m) (time_of n) (a ∷ rest_a) (b ∷ rest_b)) (segments_greatest (time_of m) (time_of n) (a ∷ rest_a) (b ∷ rest_b))
        ∙ ap (λ x. since x (time_of n) spot.segment) begin_a ∙ ap (λ y. since a.start y spot.segment) begin_b
        ∙ ap (since a.start b.start) at_first ∙ sym (ap (λ zs. entry_noted tolerance spot c (entry_made i zs) (entry_made j ys)) some_a
        ∙ ap (λ zs. entry_noted tolerance spot c (entry_made i (a ∷ rest_a)) (entry_made j zs)) some_b)
