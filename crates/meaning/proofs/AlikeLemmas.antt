-- What means the same differs from another at the same place.
use Rattle.meaning.specs.declared.difference.Aspect.TheVariants as aspect
use Rattle.std.proofs.Common.{◌≡◌, ℕ, ◌+◌, ◌==◌, ◌&&◌, ◌||◌, Bool, true, false, List, [], ◌∷◌, length, Option, Some, None, bytes_eq, refl}
use Rattle.std.proofs.{Common.{sym, ◌∙◌, ap}, lemmas.Bool.Decides.Decides-int_eq}
use Rattle.std.specs.{Bool.Decides, Option.{option_eq, option_or}}
use Rattle.exact_time.specs.{Time.{Time, IsTime, IsSame, cross, difference}, TickOrder.{IsAtMost-trans, same_from_both, same_is_at_most}}
use Rattle.exact_time.specs.TickOrder.{same_is_at_least}
use Rattle.url_parts.specs.declared.address.Part.{Part}
use Rattle.meaning.specs.{declared.difference.Aspect.Aspect, declared.difference.Difference.Difference, Meanings.{Segment, Entry, Track}}
use Rattle.meaning.specs.{Meanings.Meaning, Same.{Pairwise, SameSegment, SameEntries, SameTrack, Same, IsSameTime, begin_of, rounded_down}}
use Rattle.meaning.specs.Differences.{is_same_kind, is_same_range, is_same_part, is_same_time, is_same_or_rounded, unless, in_all, in_track}
use Rattle.meaning.specs.Differences.{in_entry, segment_difference, segments_difference, entry_difference, entries_difference}
use Rattle.meaning.specs.Differences.{heads_difference, tracks_difference, first_difference}
use Rattle.meaning.proofs.SameLemmas.{Pairwise-length}

-- ---- the tests

alike : {P Q : Type 0} (a b : Bool) → Decides a P → Decides b Q → (P → Q) → (Q → P) → a ≡ b
alike true true first second there back = refl
alike false false first second there back = refl
alike true false first second there back = (let e = second.1 (there (first.0 refl)) in absurd (cc))
alike false true first second there back = (let e = first.1 (back (second.0 refl)) in absurd (cc))

same_then : (x y z : Time) → IsTime y → IsSame x y → IsSame y z → IsSame x z
same_then x y z is_y first second = same_from_both x z
    (IsAtMost-trans x y z is_y (same_is_at_most x y first) (same_is_at_most y z second))
    (IsAtMost-trans z y x is_y (same_is_at_least y z second) (same_is_at_least x y first))

time_alike : (x y z : Time) → IsSameTime y z → is_same_time x y ≡ is_same_time x z
time_alike x y z same =
    alike _ _ (Decides-int_eq (cross x y) (cross y x)) (Decides-int_eq (cross x z) (cross z x))
    (λ is. same_then x y z same.0 is same.1.1) (λ is. same_then x z y same.1.0 is (sym same.1.1))

rounded_alike : (unit : ℕ) (x y z : Time) → IsSameTime y z → is_same_or_rounded unit x y ≡ is_same_or_rounded unit x z
rounded_alike unit x y z same =
    ap (λ b. b || is_same_time (rounded_down unit x) y) (time_alike x y z same)
    ∙ ap (λ b. is_same_time x z || b) (time_alike (rounded_down unit x) y z same)

or_alike : (first first' later later' : Option Difference) → first ≡ first' → later ≡ later'
    → option_or first later ≡ option_or first' later'
or_alike first first' later later' same behind = ap (λ found. option_or found later) same ∙ ap (option_or first') behind

-- ---- the parts of a presentation

abbrev difference_by : (Aspect → Difference) → (a b : Part) → Bool → Option Difference
difference_by at a b timed = option_or (unless (bytes_eq a.address b.address) (at aspect.Address))
    (option_or (unless (option_eq is_same_range a.range b.range) (at aspect.Range)) (unless timed (at aspect.Time)))

module _ (unit : ℕ) where
  segment_alike : (at : Aspect → Difference) (begin_a begin_b begin_c : Time) (a b c : Segment) → SameSegment IsSameTime begin_b begin_c b c
      → segment_difference unit at begin_a begin_b a b ≡ segment_difference unit at begin_a begin_c a c
  segment_alike at begin_a begin_b begin_c a b c same =
      ap (λ part. difference_by at a.part part (is_same_or_rounded unit (difference a.end begin_a) (difference b.end begin_b))) same.part
      ∙ ap (difference_by at a.part c.part) (rounded_alike unit (difference a.end begin_a) (difference b.end begin_b)
      (difference c.end begin_c) same.time)

  segments_alike : (t s k : ℕ) (begin_a begin_b begin_c : Time) (xs ys zs : List Segment)
      → Pairwise (SameSegment IsSameTime begin_b begin_c) ys zs
      → segments_difference unit t s k begin_a begin_b xs ys ≡ segments_difference unit t s k begin_a begin_c xs zs
  segments_alike t s k begin_a begin_b begin_c [] [] [] same = refl
  segments_alike t s k begin_a begin_b begin_c (a ∷ xs) [] [] same = refl
  segments_alike t s k begin_a begin_b begin_c [] (b ∷ ys) (c ∷ zs) same = refl
  segments_alike t s k begin_a begin_b begin_c (a ∷ xs) (b ∷ ys) (c ∷ zs) same = or_alike _ _ _ _
      (segment_alike (in_entry t s k) begin_a begin_b begin_c a b c same.0)
      (segments_alike t s (k + 1) begin_a begin_b begin_c xs ys zs same.1)
  segments_alike t s k begin_a begin_b begin_c xs [] (c ∷ zs) same = absurd same
  segments_alike t s k begin_a begin_b begin_c xs (b ∷ ys) [] same = absurd same

  entry_alike : (t s : ℕ) (a b c : Option Entry) → SameEntries IsSameTime b c
      → entry_difference unit t s a b ≡ entry_difference unit t s a c
  entry_alike t s None None None same = refl
  entry_alike t s (Some a) None None same = refl
  entry_alike t s None (Some b) (Some c) same = refl
  entry_alike t s (Some a) (Some b) (Some c) same = or_alike _ _ _ _
      (ap (λ part. unless (is_same_part a.initialization part) (in_entry t s 0 aspect.Initialization)) same.initialization)
      (segments_alike t s 0 (begin_of a.segments) (begin_of b.segments)
      (begin_of c.segments) a.segments b.segments c.segments same.segments)
  entry_alike t s a None (Some c) same = absurd same
  entry_alike t s a (Some b) None same = absurd same

  entries_alike : (t s : ℕ) (xs ys zs : List (Option Entry)) → Pairwise (SameEntries IsSameTime) ys zs
      → entries_difference unit t s xs ys ≡ entries_difference unit t s xs zs
  entries_alike t s [] [] [] same = refl
  entries_alike t s (a ∷ xs) [] [] same = refl
  entries_alike t s [] (b ∷ ys) (c ∷ zs) same = refl
  entries_alike t s (a ∷ xs) (b ∷ ys) (c ∷ zs) same = or_alike _ _ _ _ (entry_alike t s a b c same.0)
      (entries_alike t (s + 1) xs ys zs same.1)
  entries_alike t s xs [] (c ∷ zs) same = absurd same
  entries_alike t s xs (b ∷ ys) [] same = absurd same

  heads_alike : (t : ℕ) (xs ys zs : List Track) → Pairwise (SameTrack IsSameTime) ys zs
      → heads_difference t xs ys ≡ heads_difference t xs zs
  heads_alike t [] ys zs same = refl
  heads_alike t (a ∷ xs) [] [] same = refl
  heads_alike t (a ∷ xs) (b ∷ ys) (c ∷ zs) same = or_alike _ _ _ _
      (ap (λ kind. unless (is_same_kind a.kind kind && option_eq bytes_eq a.language b.language) (in_track t aspect.Track)) same.0.kind
      ∙ ap (λ language. unless (is_same_kind a.kind c.kind && option_eq bytes_eq a.language language)
      (in_track t aspect.Track)) same.0.language)
      (heads_alike (t + 1) xs ys zs same.1)
  heads_alike t (a ∷ xs) [] (c ∷ zs) same = absurd same
  heads_alike t (a ∷ xs) (b ∷ ys) [] same = absurd same

  tracks_alike : (t : ℕ) (xs ys zs : List Track) → Pairwise (SameTrack IsSameTime) ys zs
      → tracks_difference unit t xs ys ≡ tracks_difference unit t xs zs
  tracks_alike t [] ys zs same = refl
  tracks_alike t (a ∷ xs) [] [] same = refl
  tracks_alike t (a ∷ xs) (b ∷ ys) (c ∷ zs) same = or_alike _ _ _ _ (entries_alike t 0 a.entries b.entries c.entries same.0.entries)
      (tracks_alike (t + 1) xs ys zs same.1)
  tracks_alike t (a ∷ xs) [] (c ∷ zs) same = absurd same
  tracks_alike t (a ∷ xs) (b ∷ ys) [] same = absurd same

  pub first_alike : (a b c : Meaning) → Same IsSameTime b c → first_difference unit a b ≡ first_difference unit a c
  unfolding first_difference
  first_alike a b c same = or_alike _ _ _ _ (ap (λ n. unless (a.sections == n) (in_all aspect.Sections)) same.sections)
      (or_alike _ _ _ _ (ap (λ n. unless (length a.tracks == n) (in_all aspect.Tracks)) (Pairwise-length _ b.tracks c.tracks same.tracks))
      (or_alike _ _ _ _ (heads_alike 0 a.tracks b.tracks c.tracks same.tracks) (tracks_alike 0 a.tracks b.tracks c.tracks same.tracks)))
