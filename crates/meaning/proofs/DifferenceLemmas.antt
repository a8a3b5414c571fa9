-- No first difference is found exactly where two presentations agree.
use Rattle.std.proofs.Common.{◌≡◌, ℕ, zero, suc, ◌+◌, Bool, true, false, List, [], ◌∷◌, length, Option, Some, None, bytes_eq, refl, sym}
use Rattle.std.proofs.{Common.{◌∙◌, ap, subst, arith}, lemmas.Bool.Decides.{Decides-eqb, Decides-int_eq, Decides-and, Decides-or}}
use Rattle.std.proofs.{lemmas.Bool.Decides.Decides-like, lemmas.Slice.Eq.bytes_eq-Decides}
use Rattle.std.specs.{Bool.Decides, Option.{option_eq, option_or}}
use Rattle.exact_time.specs.Time.{Time, cross, difference}
use Rattle.bridge_io.specs.{declared.media.Kind.Kind, declared.media.Kind.TheVariants.{Video, Audio, Text}}
use Rattle.url_parts.specs.{declared.address.Part.Part, declared.range.Range.Range}
use Rattle.meaning.specs.{declared.difference.Aspect.Aspect, declared.difference.Difference.Difference, Meanings.{Segment, Entry, Track}}
use Rattle.meaning.specs.{Meanings.Meaning, Same.{Pairwise, SameSegment, SameEntries, SameTrack, IsSameOrRounded, Agrees, begin_of}}
use Rattle.meaning.specs.{Same.rounded_down, Differences.{rank_of, is_same_kind, is_same_range, is_same_part, is_same_or_rounded}}
use Rattle.meaning.specs.Differences.{is_same_head, unless, segment_difference, segments_difference, entry_difference, entries_difference}
use Rattle.meaning.specs.Differences.{heads_difference, tracks_difference, first_difference, in_entry}
use Rattle.meaning.proofs.SameLemmas.{Pairwise-wider, Pairwise-length}

-- nothing is found exactly where P holds
abbrev Finds : Option Difference → Type 0 → Type 0
Finds found P = (P → found ≡ None) × (found ≡ None → P)

Finds-unless : {P : Type 0} (same : Bool) (found : Difference) → Decides same P → Finds (unless same found) P
Finds-unless true found h = (λ p. refl, λ e. h.0 refl)
Finds-unless false found h = (λ p. let e = h.1 p in absurd (cc), λ e. absurd (cc))

-- a later search may rest on what the first one didn't find
Finds-then : {P Q : Type 0} (first later : Option Difference) → Finds first P → (P → Finds later Q) → Finds (option_or first later) (P × Q)
Finds-then None later h k = (λ p. (k p.0).0 p.1, λ e. let p = h.1 refl in (p, (k p).1 e))
Finds-then (Some found) later h k = (λ p. h.0 p.0, λ e. absurd (cc))

Finds-or : {P Q : Type 0} (first later : Option Difference) → Finds first P → Finds later Q → Finds (option_or first later) (P × Q)
Finds-or first later h k = Finds-then first later h (λ p. k)

Finds-like : {P Q : Type 0} (found : Option Difference) → (P → Q) → (Q → P) → Finds found P → Finds found Q
Finds-like found there back h = (λ q. h.0 (back q), λ e. there (h.1 e))

Finds-never : (found : Difference) → Finds (Some found) ⊥
Finds-never found = (λ p. absurd p, λ e. absurd (cc))

-- ---- the tests

kind_at : ℕ → Kind
kind_at zero = Video
kind_at (suc zero) = Audio
kind_at (suc (suc n)) = Text

kind_at-rank : (a : Kind) → kind_at (rank_of a) ≡ a
unfolding kind_at
kind_at-rank Video = refl
kind_at-rank Audio = refl
kind_at-rank Text = refl

pub Decides-kind : (a b : Kind) → Decides (is_same_kind a b) (a ≡ b)
Decides-kind a b = Decides-like (is_same_kind a b) (λ same. sym (kind_at-rank a) ∙ ap kind_at same
    ∙ kind_at-rank b) (λ e. ap rank_of e) (Decides-eqb (rank_of a) (rank_of b))

same_range : (a b : Range) → a.first ≡ b.first → a.count ≡ b.count → a ≡ b
same_range a b first count = subst (λ n. a ≡ record { first = n; count = b.count }) first
    (subst (λ n. a ≡ record { first = a.first; count = n }) count refl)

pub Decides-range : (a b : Range) → Decides (is_same_range a b) (a ≡ b)
Decides-range a b = Decides-like (is_same_range a b) (λ same. same_range a b same.0 same.1)
    (λ e. (ap (λ r. r.first) e, ap (λ r. r.count) e)) (Decides-and _ _ (Decides-eqb a.first b.first) (Decides-eqb a.count b.count))

pub Decides-option : {A : Type 0} (E : A → A → Bool) → ((a b : A) → Decides (E a b) (a ≡ b)) → (x y : Option A)
    → Decides (option_eq E x y) (x ≡ y)
Decides-option E each None None = (λ h. refl, λ e. refl)
Decides-option E each None (Some y) = (λ h. absurd (cc), λ e. absurd (cc))
Decides-option E each (Some x) None = (λ h. absurd (cc), λ e. absurd (cc))
Decides-option E each (Some x) (Some y) = Decides-like (E x y) (λ same. ap Some same) (λ e. (cc)) (each x y)

pub same_part : (a b : Part) → a.address ≡ b.address → a.range ≡ b.range → a ≡ b
same_part a b address range = subst (λ x. a ≡ record { address = x; range = b.range }) address
    (subst (λ x. a ≡ record { address = a.address; range = x }) range refl)

pub Decides-part : (a b : Part) → Decides (is_same_part a b) (a ≡ b)
Decides-part a b = Decides-like (is_same_part a b) (λ same. same_part a b same.0 same.1) (λ e. (ap (λ p. p.address) e, ap (λ p. p.range) e))
    (Decides-and _ _ (bytes_eq-Decides a.address b.address) (Decides-option is_same_range Decides-range a.range b.range))

Decides-time : (unit : ℕ) (x y : Time) → Decides (is_same_or_rounded unit x y) (IsSameOrRounded unit x y)
Decides-time unit x y = Decides-or _ _ (Decides-int_eq (cross x y) (cross y x))
    (Decides-int_eq (cross (rounded_down unit x) y) (cross y (rounded_down unit x)))

abbrev SameHead : Track → Track → Type 0
SameHead a b = (a.kind ≡ b.kind) × (a.language ≡ b.language)

Decides-head : (a b : Track) → Decides (is_same_head a b) (SameHead a b)
Decides-head a b = Decides-and _ _ (Decides-kind a.kind b.kind) (Decides-option bytes_eq bytes_eq-Decides a.language b.language)

-- ---- the parts of a presentation

module _ (unit : ℕ) where
  Finds-segment : (at : Aspect → Difference) (begin_a begin_b : Time) (a b : Segment)
      → Finds (segment_difference unit at begin_a begin_b a b) (SameSegment (IsSameOrRounded unit) begin_a begin_b a b)
  Finds-segment at begin_a begin_b a b = Finds-like _
      (λ h. record { part = same_part a.part b.part h.0 h.1.0; time = h.1.1 })
      (λ same. (ap (λ x. x.address) same.part, (ap (λ x. x.range) same.part, same.time)))
      (Finds-or _ _ (Finds-unless _ _ (bytes_eq-Decides a.part.address b.part.address))
      (Finds-or _ _ (Finds-unless _ _ (Decides-option is_same_range Decides-range a.part.range b.part.range))
      (Finds-unless _ _ (Decides-time unit (difference a.end begin_a) (difference b.end begin_b)))))

  Finds-segments : (t s k : ℕ) (begin_a begin_b : Time) (xs ys : List Segment)
      → Finds (segments_difference unit t s k begin_a begin_b xs ys) (Pairwise (SameSegment (IsSameOrRounded unit) begin_a begin_b) xs ys)
  Finds-segments t s k begin_a begin_b [] [] = (λ h. refl, λ e. tt)
  Finds-segments t s k begin_a begin_b (a ∷ xs) (b ∷ ys) = Finds-or _ _ (Finds-segment (in_entry t s k) begin_a begin_b a b)
      (Finds-segments t s (k + 1) begin_a begin_b xs ys)
  Finds-segments t s k begin_a begin_b [] (b ∷ ys) = Finds-never _
  Finds-segments t s k begin_a begin_b (a ∷ xs) [] = Finds-never _

  Finds-entry : (t s : ℕ) (a b : Option Entry) → Finds (entry_difference unit t s a b) (SameEntries (IsSameOrRounded unit) a b)
  Finds-entry t s None None = (λ h. refl, λ e. tt)
  Finds-entry t s (Some a) (Some b) = Finds-like _ (λ h. record { initialization = h.0; segments = h.1 })
      (λ same. (same.initialization, same.segments))
      (Finds-or _ _ (Finds-unless _ _ (Decides-part a.initialization b.initialization))
      (Finds-segments t s 0 (begin_of a.segments) (begin_of b.segments) a.segments b.segments))
  Finds-entry t s None (Some b) = Finds-never _
  Finds-entry t s (Some a) None = Finds-never _

  Finds-entries : (t s : ℕ) (xs ys : List (Option Entry))
      → Finds (entries_difference unit t s xs ys) (Pairwise (SameEntries (IsSameOrRounded unit)) xs ys)
  Finds-entries t s [] [] = (λ h. refl, λ e. tt)
  Finds-entries t s (a ∷ xs) (b ∷ ys) = Finds-or _ _ (Finds-entry t s a b) (Finds-entries t (s + 1) xs ys)
  Finds-entries t s [] (b ∷ ys) = Finds-never _
  Finds-entries t s (a ∷ xs) [] = Finds-never _

  -- the tracks, in lists of one length: what they are, and what they have
  abbrev SameBody : Track → Track → Type 0
  SameBody a b = Pairwise (SameEntries (IsSameOrRounded unit)) a.entries b.entries

  Finds-heads : (t : ℕ) (xs ys : List Track) → length xs ≡ length ys → Finds (heads_difference t xs ys) (Pairwise SameHead xs ys)
  Finds-heads t [] [] same = (λ h. refl, λ e. tt)
  Finds-heads t (a ∷ xs) (b ∷ ys) same = Finds-or _ _ (Finds-unless _ _ (Decides-head a b)) (Finds-heads (t + 1) xs ys (omega arith))
  Finds-heads t [] (b ∷ ys) same = absurd (omega arith)
  Finds-heads t (a ∷ xs) [] same = absurd (omega arith)

  Finds-bodies : (t : ℕ) (xs ys : List Track) → length xs ≡ length ys → Finds (tracks_difference unit t xs ys) (Pairwise SameBody xs ys)
  Finds-bodies t [] [] same = (λ h. refl, λ e. tt)
  Finds-bodies t (a ∷ xs) (b ∷ ys) same = Finds-or _ _ (Finds-entries t 0 a.entries b.entries) (Finds-bodies (t + 1) xs ys (omega arith))
  Finds-bodies t [] (b ∷ ys) same = absurd (omega arith)
  Finds-bodies t (a ∷ xs) [] same = absurd (omega arith)

  both : (xs ys : List Track) → Pairwise SameHead xs ys → Pairwise SameBody xs ys → Pairwise (SameTrack (IsSameOrRounded unit)) xs ys
  both [] [] heads bodies = tt
  both (a ∷ xs) (b ∷ ys) heads bodies = (record { kind = heads.0.0; language = heads.0.1; entries = bodies.0 }, both xs ys heads.1 bodies.1)
  both [] (b ∷ ys) heads bodies = heads
  both (a ∷ xs) [] heads bodies = heads

  pub Finds-first : (a b : Meaning) → Finds (first_difference unit a b) (Agrees unit a b)
  unfolding first_difference
  Finds-first a b = Finds-like _
      (λ (h : (a.sections ≡ b.sections) × ((length a.tracks ≡ length b.tracks)
      × (Pairwise SameHead a.tracks b.tracks × Pairwise SameBody a.tracks b.tracks))). record {
        sections = h.0;
        tracks = both a.tracks b.tracks h.1.1.0 h.1.1.1;
      })
      (λ same. (
        same.sections,
        (
          Pairwise-length _ a.tracks b.tracks same.tracks,
          (
            Pairwise-wider _ SameHead (λ x y h. (h.kind, h.language)) a.tracks b.tracks same.tracks,
            Pairwise-wider _ SameBody (λ x y h. h.entries) a.tracks b.tracks same.tracks,
          ),
        ),
      ))
      (Finds-or _ _ (Finds-unless _ _ (Decides-eqb a.sections b.sections))
      (Finds-then _ _ (Finds-unless _ _ (Decides-eqb (length a.tracks) (length b.tracks)))
      (λ same. Finds-or _ _ (Finds-heads 0 a.tracks b.tracks same) (Finds-bodies 0 a.tracks b.tracks same))))
