-- Nothing differs exactly where two presentations agree.
use Rattle.std.proofs.Common.{◌≡◌, ℕ, ◌+◌, ◌≤◌, ◌&&◌, Bool, true, false, List, [], ◌∷◌, ◌++◌, length, Option, Some, None}
use Rattle.std.proofs.Common.{bytes_eq, refl, sym}
use Rattle.std.proofs.{Common.{◌∙◌, ap, subst, arith}}
use Rattle.std.proofs.{lemmas.Bool.Decides.{Decides-eqb, Decides-int_eq, Decides-and, Decides-or, nat_tests}}
use Rattle.std.proofs.{lemmas.Slice.Eq.bytes_eq-Decides}
use Rattle.std.proofs.lemmas.List.Elements.{All-head, All-tail}
use Rattle.std.specs.{Bool.Decides, Option.option_eq, Prelude.nat_le}
use Rattle.exact_time.specs.Time.{Time, cross, difference}
use Rattle.meaning.specs.{declared.difference.Aspect.Aspect, declared.difference.Difference.Difference, Meanings.{Segment, Entry, Track}}
use Rattle.meaning.specs.{Meanings.Meaning, Same.{Pairwise, SameSegment, SameEntries, SameTrack, begin_of, rounded_down}}
use Rattle.meaning.specs.Differences.{in_entry, is_same_kind, is_same_range}
use Rattle.meaning.proofs.DifferenceLemmas.{Decides-kind, Decides-option, Decides-part, Decides-range, same_part}
use Rattle.meaning.proofs.SameLemmas.{Pairwise-wider, Pairwise-length}
use Rattle.differences.specs.{Agreeing.{AgreesWithin, HasSections, HaveEntries, IsAlike, IsEntries}, Sizes.{is_alike, size_of}, declared.deviation.Deviation.Deviation}
use Rattle.differences.specs.Deviating.{deviations, entries_deviations, entry_deviations, heads_deviations}
use Rattle.differences.specs.Deviating.{segment_deviations, segments_deviations, tracks_deviations, unless}

-- there is none exactly where P holds
abbrev Finds : List Deviation → Type 0 → Type 0
Finds found P = (P → found ≡ []) × (found ≡ [] → P)

Finds-unless : {P : Type 0} (same : Bool) (found : Deviation) → Decides same P → Finds (unless same found) P
Finds-unless true found h = (λ p. refl, λ e. h.0 refl)
Finds-unless false found h = (λ p. let e = h.1 p in absurd (cc), λ e. absurd (cc))

-- what comes later may rest on what comes first
Finds-then : {P Q : Type 0} (first later : List Deviation) → Finds first P → (P → Finds later Q) → Finds (first ++ later) (P × Q)
Finds-then [] later h k = (λ p. (k p.0).0 p.1, λ e. let p = h.1 refl in (p, (k p).1 e))
Finds-then (x ∷ xs) later h k = (λ p. let e = h.0 p.0 in absurd (cc), λ e. absurd (cc))

Finds-or : {P Q : Type 0} (first later : List Deviation) → Finds first P → Finds later Q → Finds (first ++ later) (P × Q)
Finds-or first later h k = Finds-then first later h (λ p. k)

Finds-like : {P Q : Type 0} (found : List Deviation) → (P → Q) → (Q → P) → Finds found P → Finds found Q
Finds-like found there back h = (λ q. h.0 (back q), λ e. there (h.1 e))

Finds-never : (found : Deviation) (later : List Deviation) → Finds (found ∷ later) ⊥
Finds-never found later = (λ p. absurd p, λ e. absurd (cc))

-- ---- the tests

Decides-le : (a b : ℕ) → Decides (nat_le a b) (a ≤ b)
Decides-le a b = (λ e. grind (arith, nat_tests), λ h. grind (arith, nat_tests))

Decides-time : (within unit : ℕ) (x y : Time) → Decides (is_alike within unit x y) (IsAlike within unit x y)
Decides-time within unit x y = Decides-or _ _ (Decides-le (size_of x y) within) (Decides-or _ _ (Decides-int_eq (cross x y) (cross y x))
    (Decides-int_eq (cross (rounded_down unit x) y) (cross y (rounded_down unit x))))

abbrev SameHead : Track → Track → Type 0
SameHead a b = (a.kind ≡ b.kind) × (a.language ≡ b.language)

Decides-head : (a b : Track) → Decides (is_same_kind a.kind b.kind && option_eq bytes_eq a.language b.language) (SameHead a b)
Decides-head a b = Decides-and _ _ (Decides-kind a.kind b.kind) (Decides-option bytes_eq bytes_eq-Decides a.language b.language)

-- ---- the parts of a presentation

module _ (within unit : ℕ) where
  Finds-segment : (at : Aspect → Difference) (begin_a begin_b : Time) (a b : Segment)
      → Finds (segment_deviations within unit at begin_a begin_b a b) (SameSegment (IsAlike within unit) begin_a begin_b a b)
  Finds-segment at begin_a begin_b a b = Finds-like _
      (λ h. record { part = same_part a.part b.part h.0 h.1.0; time = h.1.1 })
      (λ same. (ap (λ x. x.address) same.part, (ap (λ x. x.range) same.part, same.time)))
      (Finds-or _ _ (Finds-unless _ _ (bytes_eq-Decides a.part.address b.part.address))
      (Finds-or _ _ (Finds-unless _ _ (Decides-option is_same_range Decides-range a.part.range b.part.range))
      (Finds-unless _ _ (Decides-time within unit (difference a.end begin_a) (difference b.end begin_b)))))

  Finds-segments : (t s k : ℕ) (begin_a begin_b : Time) (xs ys : List Segment)
      → Finds (segments_deviations within unit t s k begin_a begin_b xs ys)
      (Pairwise (SameSegment (IsAlike within unit) begin_a begin_b) xs ys)
  Finds-segments t s k begin_a begin_b [] [] = (λ h. refl, λ e. tt)
  Finds-segments t s k begin_a begin_b (a ∷ xs) (b ∷ ys) = Finds-or _ _ (Finds-segment (in_entry t s k) begin_a begin_b a b)
      (Finds-segments t s (k + 1) begin_a begin_b xs ys)
  Finds-segments t s k begin_a begin_b [] (b ∷ ys) = Finds-never _ _
  Finds-segments t s k begin_a begin_b (a ∷ xs) [] = Finds-never _ _

  Finds-entry : (t s : ℕ) (a b : Option Entry) → Finds (entry_deviations within unit t s a b) (SameEntries (IsAlike within unit) a b)
  Finds-entry t s None None = (λ h. refl, λ e. tt)
  Finds-entry t s (Some a) (Some b) = Finds-like _ (λ h. record { initialization = h.0; segments = h.1 })
      (λ same. (same.initialization, same.segments))
      (Finds-or _ _ (Finds-unless _ _ (Decides-part a.initialization b.initialization))
      (Finds-segments t s 0 (begin_of a.segments) (begin_of b.segments) a.segments b.segments))
  Finds-entry t s None (Some b) = Finds-never _ _
  Finds-entry t s (Some a) None = Finds-never _ _

  Finds-entries : (t s : ℕ) (xs ys : List (Option Entry)) → length xs ≡ length ys
      → Finds (entries_deviations within unit t s xs ys) (Pairwise (SameEntries (IsAlike within unit)) xs ys)
  Finds-entries t s [] [] same = (λ h. refl, λ e. tt)
  Finds-entries t s (a ∷ xs) (b ∷ ys) same = Finds-or _ _ (Finds-entry t s a b) (Finds-entries t (s + 1) xs ys (omega (arith, same)))
  Finds-entries t s [] (b ∷ ys) same = absurd (omega (arith, same))
  Finds-entries t s (a ∷ xs) [] same = absurd (omega (arith, same))

  -- the tracks, in lists of one length: what they are, and what they have
  abbrev SameBody : Track → Track → Type 0
  SameBody a b = Pairwise (SameEntries (IsAlike within unit)) a.entries b.entries

  Finds-heads : (t : ℕ) (xs ys : List Track) → length xs ≡ length ys → Finds (heads_deviations t xs ys) (Pairwise SameHead xs ys)
  Finds-heads t [] [] same = (λ h. refl, λ e. tt)
  Finds-heads t (a ∷ xs) (b ∷ ys) same = Finds-or _ _ (Finds-unless _ _ (Decides-head a b)) (Finds-heads (t + 1) xs ys (omega arith))
  Finds-heads t [] (b ∷ ys) same = absurd (omega arith)
  Finds-heads t (a ∷ xs) [] same = absurd (omega arith)

  Finds-bodies : (n t : ℕ) (xs ys : List Track) → HaveEntries n xs → HaveEntries n ys → length xs ≡ length ys
      → Finds (tracks_deviations within unit t xs ys) (Pairwise SameBody xs ys)
  Finds-bodies n t [] [] mine theirs same = (λ h. refl, λ e. tt)
  Finds-bodies n t (a ∷ xs) (b ∷ ys) mine theirs same = Finds-or _ _ (Finds-entries t 0 a.entries b.entries (All-head (IsEntries n) a xs mine ∙ sym (All-head (IsEntries n) b ys theirs)))
      (Finds-bodies n (t + 1) xs ys (All-tail (IsEntries n) a xs mine) (All-tail (IsEntries n) b ys theirs) (omega (arith, same)))
  Finds-bodies n t [] (b ∷ ys) mine theirs same = absurd (omega (arith, same))
  Finds-bodies n t (a ∷ xs) [] mine theirs same = absurd (omega (arith, same))

  both : (xs ys : List Track) → Pairwise SameHead xs ys → Pairwise SameBody xs ys → Pairwise (SameTrack (IsAlike within unit)) xs ys
  both [] [] heads bodies = tt
  both (a ∷ xs) (b ∷ ys) heads bodies = (record { kind = heads.0.0; language = heads.0.1; entries = bodies.0 }, both xs ys heads.1 bodies.1)
  both [] (b ∷ ys) heads bodies = heads
  both (a ∷ xs) [] heads bodies = heads

  pub Finds-all : (a b : Meaning) → HasSections a → HasSections b → Finds (deviations within unit a b) (AgreesWithin within unit a b)
  unfolding deviations
  Finds-all a b mine theirs = Finds-like _
      (λ (h : (a.sections ≡ b.sections) × ((length a.tracks ≡ length b.tracks)
      × (Pairwise SameHead a.tracks b.tracks × Pairwise SameBody a.tracks b.tracks))). record {
        sections = h.0;
        tracks = both a.tracks b.tracks h.1.1.0 h.1.1.1;
      })
      (λ same. (
        same.sections,
        (
          Pairwise-length _ a.tracks b.tracks same.tracks,
          (
            Pairwise-wider _ SameHead (λ x y h. (h.kind, h.language)) a.tracks b.tracks same.tracks,
            Pairwise-wider _ SameBody (λ x y h. h.entries) a.tracks b.tracks same.tracks,
          ),
        ),
      ))
      (Finds-then _ _ (Finds-unless _ _ (Decides-eqb a.sections b.sections))
      (λ sections. Finds-then _ _ (Finds-unless _ _ (Decides-eqb (length a.tracks) (length b.tracks)))
      (λ same. Finds-or _ _ (Finds-heads 0 a.tracks b.tracks same)
      (Finds-bodies b.sections 0 a.tracks b.tracks (subst (λ n. HaveEntries n a.tracks) sections mine) theirs same))))
