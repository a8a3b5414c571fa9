-- The first of all differences is the first difference.
use Rattle.meaning.specs.declared.difference.Aspect.TheVariants as aspect
use Rattle.meaning.specs.Differences as meant
use Rattle.std.proofs.Common.{◌≡◌, ℕ, ◌+◌, ◌*◌, ◌/◌, ◌%◌, ◌≤◌, ◌==◌, ◌||◌, Bool, true, false, ◌-ℤ◌, List, [], ◌∷◌, ◌++◌, length, Option}
use Rattle.std.proofs.Common.{None, Some}
use Rattle.std.proofs.{Common.{option_map, refl, subst, sym, ◌∙◌, ap, arith}}
use Rattle.std.proofs.lemmas.List.Elements.{All-head, All-tail}
use Rattle.std.proofs.{lemmas.{Bool.Decides.{Decides-int_eq, nat_tests}, Bool.eqb-true, Int.ints}}
use Rattle.std.proofs.Math.Nat.{mod-add-div}
use Rattle.std.specs.{Int.div_ceil, Option.option_or, Prelude.{nat_le, unsigned_abs}}
use Rattle.exact_time.specs.Time.{Time, cross, difference}
use Rattle.bridge_io.specs.Firsts.{first_of}
use Rattle.meaning.specs.{declared.difference.Aspect.Aspect, declared.difference.Difference.Difference}
use Rattle.meaning.specs.{Meanings.{Segment, Entry, Meaning, Track}}
use Rattle.meaning.specs.{Same.{begin_of}, Differences.{first_difference, in_all, in_entry, is_same_or_rounded, is_same_time}}
use Rattle.differences.specs.{Agreeing.{HasSections, HaveEntries, IsEntries, first_deviation}, Sizes.{is_alike, is_near, size_of}, declared.deviation.Deviation.Deviation}
use Rattle.differences.specs.Deviating.{deviations, entries_deviations, entry_deviations, heads_deviations}
use Rattle.differences.specs.Deviating.{segment_deviations, segments_deviations, tracks_deviations, unless}

abbrev first_at : List Deviation → Option Difference
first_at found = option_map (λ x. x.at) (first_of found)

first_of_both : (xs ys : List Deviation) → first_at (xs ++ ys) ≡ option_or (first_at xs) (first_at ys)
first_of_both [] ys = refl
first_of_both (x ∷ xs) ys = refl

first_unless : (same : Bool) (found : Deviation) → first_at (unless same found) ≡ meant.unless same found.at
first_unless true found = refl
first_unless false found = refl

-- ---- a time

none_over : (n d : ℕ) → div_ceil n d ≤ 0 → n ≡ 0
none_over n d none = let parts : n % d + d * (n / d) ≡ n = mod-add-div n d in
    let q : n / d ≡ 0 = omega (arith, none) in let r : n % d ≡ 0 = omega (arith, none) in
    sym parts ∙ ap (λ m. n % d + d * m) q ∙ omega (arith, r)

not_apart : (x y : Time) → size_of x y ≤ 0 → cross x y ≡ cross y x
unfolding size_of
not_apart x y none =
    let n = none_over (unsigned_abs (cross x y -ℤ cross y x) * 1000000000) (x.scale * y.scale) none in
    omega (arith, ints, n)

alike_by : (near same rounded : Bool) → (near ≡ true → same ≡ true) → (near || (same || rounded)) ≡ (same || rounded)
alike_by true same rounded h = rw (h refl) refl
alike_by false same rounded h = refl

same_alike : (unit : ℕ) (x y : Time) → is_alike 0 unit x y ≡ is_same_or_rounded unit x y
same_alike unit x y = alike_by (is_near 0 x y) (is_same_time x y) _
    (λ near. (Decides-int_eq (cross x y) (cross y x)).1 (not_apart x y (let e : nat_le (size_of x y) 0 ≡ true = near in
    grind (arith, nat_tests))))

-- ---- the parts of a presentation

module _ (unit : ℕ) where
  first_segment : (at : Aspect → Difference) (begin_a begin_b : Time) (a b : Segment)
      → first_at (segment_deviations 0 unit at begin_a begin_b a b) ≡ meant.segment_difference unit at begin_a begin_b a b
  first_segment at begin_a begin_b a b = rw (
    first_of_both,
    first_of_both,
    first_unless,
    first_unless,
    first_unless,
    same_alike unit (difference a.end begin_a) (difference b.end begin_b),
  ) refl

  first_segments : (t s k : ℕ) (begin_a begin_b : Time) (xs ys : List Segment)
      → first_at (segments_deviations 0 unit t s k begin_a begin_b xs ys) ≡ meant.segments_difference unit t s k begin_a begin_b xs ys
  first_segments t s k begin_a begin_b [] [] = refl
  first_segments t s k begin_a begin_b (a ∷ xs) (b ∷ ys) =
      first_of_both (segment_deviations 0 unit (in_entry t s k) begin_a begin_b a b) _
      ∙ ap (λ o. option_or o (first_at (segments_deviations 0 unit t s (k + 1) begin_a begin_b xs ys)))
      (first_segment (in_entry t s k) begin_a begin_b a b)
      ∙ ap (option_or (meant.segment_difference unit (in_entry t s k) begin_a begin_b a b))
      (first_segments t s (k + 1) begin_a begin_b xs ys)
  first_segments t s k begin_a begin_b [] (b ∷ ys) = refl
  first_segments t s k begin_a begin_b (a ∷ xs) [] = refl

  first_entry : (t s : ℕ) (a b : Option Entry) → first_at (entry_deviations 0 unit t s a b) ≡ meant.entry_difference unit t s a b
  first_entry t s None None = refl
  first_entry t s (Some a) None = refl
  first_entry t s None (Some b) = refl
  first_entry t s (Some a) (Some b) = rw (
    first_of_both,
    first_unless,
    first_segments t s 0 (begin_of a.segments) (begin_of b.segments) a.segments b.segments,
  ) refl

  first_entries : (t s : ℕ) (xs ys : List (Option Entry)) → length xs ≡ length ys
      → first_at (entries_deviations 0 unit t s xs ys) ≡ meant.entries_difference unit t s xs ys
  first_entries t s [] [] same = refl
  first_entries t s (a ∷ xs) (b ∷ ys) same =
      first_of_both (entry_deviations 0 unit t s a b) _
      ∙ ap (λ o. option_or o (first_at (entries_deviations 0 unit t (s + 1) xs ys))) (first_entry t s a b)
      ∙ ap (option_or (meant.entry_difference unit t s a b)) (first_entries t (s + 1) xs ys (omega (arith, same)))
  first_entries t s [] (b ∷ ys) same = absurd (omega (arith, same))
  first_entries t s (a ∷ xs) [] same = absurd (omega (arith, same))

  first_head : (t : ℕ) (xs ys : List Track) → length xs ≡ length ys → first_at (heads_deviations t xs ys) ≡ meant.heads_difference t xs ys
  first_head t [] [] same = refl
  first_head t (a ∷ xs) [] same = absurd (omega (arith, same))
  first_head t [] (b ∷ ys) same = absurd (omega (arith, same))
  first_head t (a ∷ xs) (b ∷ ys) same = rw (first_of_both, first_unless, first_head (t + 1) xs ys (omega (arith, same))) refl

  first_track : (n t : ℕ) (xs ys : List Track) → HaveEntries n xs → HaveEntries n ys
      → first_at (tracks_deviations 0 unit t xs ys) ≡ meant.tracks_difference unit t xs ys
  first_track n t [] ys mine theirs = refl
  first_track n t (a ∷ xs) [] mine theirs = refl
  first_track n t (a ∷ xs) (b ∷ ys) mine theirs =
      first_of_both (entries_deviations 0 unit t 0 a.entries b.entries) _
      ∙ ap (λ o. option_or o (first_at (tracks_deviations 0 unit (t + 1) xs ys)))
      (first_entries t 0 a.entries b.entries (All-head (IsEntries n) a xs mine ∙ sym (All-head (IsEntries n) b ys theirs)))
      ∙ ap (option_or (meant.entries_difference unit t 0 a.entries b.entries))
      (first_track n (t + 1) xs ys (All-tail (IsEntries n) a xs mine) (All-tail (IsEntries n) b ys theirs))

-- what comes later rests on two numbers being the same
by_numbers : (same : Bool) (found : Difference) (x y : Option Difference) → (same ≡ true → x ≡ y)
    → option_or (meant.unless same found) x ≡ option_or (meant.unless same found) y
by_numbers true found x y h = h refl
by_numbers false found x y h = refl

pub first_is : (unit : ℕ) (a b : Meaning) → HasSections a → HasSections b → first_deviation 0 unit a b ≡ first_difference unit a b
unfolding deviations first_difference
first_is unit a b mine theirs =
    let heads = heads_deviations 0 a.tracks b.tracks in let tracks = tracks_deviations 0 unit 0 a.tracks b.tracks in
    rw (first_of_both, first_of_both, first_unless, first_unless)
    (by_numbers (a.sections == b.sections) (in_all aspect.Sections) _ _ (λ sections.
    by_numbers (length a.tracks == length b.tracks) (in_all aspect.Tracks) (first_at (heads ++ tracks)) _ (λ same.
    let n : a.sections ≡ b.sections = eqb-true a.sections b.sections sections in
    first_of_both heads tracks
    ∙ ap (λ o. option_or o (first_at tracks)) (first_head unit 0 a.tracks b.tracks (eqb-true (length a.tracks) (length b.tracks) same))
    ∙ ap (option_or (meant.heads_difference 0 a.tracks b.tracks))
    (first_track unit b.sections 0 a.tracks b.tracks (subst (λ n. HaveEntries n a.tracks) n mine) theirs))))
