-- What means the same deviates from another alike.
use Rattle.meaning.specs.declared.difference.Aspect.TheVariants as aspect
use Rattle.differences.specs.declared.deviation.How.TheVariants as how
use Rattle.std.proofs.Common.{◌≡◌, ℕ, zero, suc, ◌+◌, ◌*◌, ◌%◌, ◌<◌, ◌||◌, min, Bool, true, false, List, [], ◌∷◌, ◌++◌, length}
use Rattle.std.proofs.Common.{Option, Some, None, bytes_eq, refl, sym, ◌∙◌, ap, arith, ℤ, pos, ◌-ℤ◌, ◌*ℤ◌, ◌<ℤ◌}
use Rattle.std.proofs.lemmas.Int.{ints, unsigned_abs-mul}
use Rattle.std.proofs.{lemmas.Bool.Decides.Decides-int_eq, lemmas.List.map-append, Math.Nat.{mod-add-div, mul-div-mul_right}}
use Rattle.std.specs.{Int.div_ceil, Option.option_eq, Prelude.{int_lt, max, nat_le, unsigned_abs}}
use Rattle.exact_time.specs.Time.{Time, IsTime, IsSame, before, cross, difference}
use Rattle.presentation.specs.Counting.{capped}
use Rattle.exact_time.specs.TickOrder.{IsAtMost-trans, before_then_at_most, same_from_both, same_is_at_most, same_is_at_least, share}
use borrow.Author.Differences.{up, down}
use Rattle.meaning.specs.{declared.difference.Aspect.Aspect, declared.difference.Difference.Difference, Meanings.{Segment, Entry, Track}}
use Rattle.meaning.specs.Same.{Pairwise, SameSegment, SameEntries, SameTrack, IsSameTime, begin_of, rounded_down}
use Rattle.meaning.specs.Differences.{in_all, in_entry, in_track, is_same_kind, is_same_part, is_same_range, is_same_or_rounded}
use Rattle.meaning.specs.Differences.{is_same_time}
use Rattle.meaning.proofs.SameLemmas.{Pairwise-length}
use Rattle.url_parts.specs.declared.address.Part.{Part}
use Rattle.comparison.proofs.Ratios.{same_tests}
use Rattle.differences.specs.Alike.{SameDeviateAlike, SameGreatest, without_start, without_starts}
use Rattle.differences.specs.Sizes.{apart, is_alike, size_of}
use Rattle.differences.specs.declared.deviation.{Deviation.Deviation, How.How}
use Rattle.differences.specs.Deviating.{deviation, deviations, end_apart, entries_deviations, entries_greatest, entry_deviations}
use Rattle.differences.specs.Deviating.{entry_greatest, head_deviations}
use Rattle.differences.specs.Deviating.{heads_deviations, number_deviations, segments_greatest, tracks_greatest}
use Rattle.differences.specs.Deviating.{segment_deviations, segments_deviations, tracks_deviations, unless}

-- ---- sizes

least_scaled : (r k : ℕ) → 0 < k → min 1 (r * k) ≡ min 1 r
least_scaled zero k some = omega arith
least_scaled (suc r) k some = omega arith

div_ceil_scaled : (n d k : ℕ) → 0 < k → div_ceil (n * k) (d * k) ≡ div_ceil n d
div_ceil_scaled n d k some =
    let whole = mul-div-mul_right {m = k} n d some in
    let rest : (n * k) % (d * k) ≡ n % d * k =
    omega (arith, mod-add-div (n * k) (d * k), ap (λ q. d * k * q) whole, ap (λ n. n * k) (mod-add-div n d)) in
    rw (whole, rest, least_scaled (n % d) k some) refl

scaled_size : (x y z : Time) → cross y z ≡ cross z y
    → unsigned_abs (cross x y -ℤ cross y x) * z.scale ≡ unsigned_abs (cross x z -ℤ cross z x) * y.scale
scaled_size x y z same =
    let one : up (difference x y).ticks + share y x ≡ down (difference x y).ticks + share x y = omega (arith, ints) in
    let other : up (difference x z).ticks + share z x ≡ down (difference x z).ticks + share x z = omega (arith, ints) in
    let equal : up y.ticks * z.scale + down z.ticks * y.scale ≡ up z.ticks * y.scale + down y.ticks * z.scale =
    omega (arith, ints, same) in
    let both : (cross x y -ℤ cross y x) *ℤ pos z.scale ≡ (cross x z -ℤ cross z x) *ℤ pos y.scale =
    omega (arith, ints, ap (λ n. n * z.scale) one, ap (λ n. n * y.scale) other, ap (λ n. n * x.scale) equal) in
    sym (unsigned_abs-mul (cross x y -ℤ cross y x) (pos z.scale)) ∙ ap unsigned_abs both
    ∙ unsigned_abs-mul (cross x z -ℤ cross z x) (pos y.scale)

size_alike : (x y z : Time) → IsSameTime y z → size_of x y ≡ size_of x z
unfolding size_of
size_alike x y z same =
    let n : ℕ = unsigned_abs (cross x y -ℤ cross y x) in
    let m : ℕ = unsigned_abs (cross x z -ℤ cross z x) in
    let over : n * 1000000000 * z.scale ≡ m * 1000000000 * y.scale =
    omega (arith, ap (λ k. k * 1000000000) (scaled_size x y z same.1.1)) in
    let under : x.scale * y.scale * z.scale ≡ x.scale * z.scale * y.scale = omega arith in
    sym (div_ceil_scaled (n * 1000000000) (x.scale * y.scale) z.scale same.1.0)
    ∙ ap (λ k. div_ceil k (x.scale * y.scale * z.scale)) over ∙ ap (div_ceil (m * 1000000000 * y.scale)) under
    ∙ div_ceil_scaled (m * 1000000000) (x.scale * z.scale) y.scale same.0

-- ---- tests

same_then : (x y z : Time) → IsTime y → IsSame x y → IsSame y z → IsSame x z
same_then x y z is_y first second = same_from_both x z
    (IsAtMost-trans x y z is_y (same_is_at_most x y first) (same_is_at_most y z second))
    (IsAtMost-trans z y x is_y (same_is_at_least y z second) (same_is_at_least x y first))

of_test : {a b : ℤ} → int_lt a b ≡ true → a <ℤ b
of_test is = grind (arith, ints)

after_test : {a b : ℤ} → a <ℤ b → int_lt a b ≡ true
after_test is = grind (arith, ints)

same_alike : (x y z : Time) → IsSameTime y z → is_same_time x y ≡ is_same_time x z
same_alike x y z same =
    let one = Decides-int_eq (cross x y) (cross y x) in let other = Decides-int_eq (cross x z) (cross z x) in
    same_tests (is_same_time x y) (is_same_time x z) (λ is. other.1 (same_then x y z same.0 (one.0 is) same.1.1))
    (λ is. one.1 (same_then x z y same.1.0 (other.0 is) (sym same.1.1)))

time_alike : (within unit : ℕ) (x y z : Time) → IsSameTime y z → is_alike within unit x y ≡ is_alike within unit x z
time_alike within unit x y z same =
    ap (λ n. nat_le n within || is_same_or_rounded unit x y) (size_alike x y z same)
    ∙ ap (λ b. nat_le (size_of x z) within || (b || is_same_time (rounded_down unit x) y)) (same_alike x y z same)
    ∙ ap (λ b. nat_le (size_of x z) within || (is_same_time x z || b)) (same_alike (rounded_down unit x) y z same)

before_alike : (x y z : Time) → IsSameTime y z → before x y ≡ before x z
before_alike x y z same = same_tests (before x y) (before x z)
    (λ is. after_test (before_then_at_most x y z same.1.0 (of_test is) (same_is_at_most y z same.1.1)))
    (λ is. after_test (before_then_at_most x z y same.0 (of_test is) (same_is_at_least y z same.1.1)))

apart_alike : (x y z : Time) → IsSameTime y z → apart x y ≡ apart x z
apart_alike x y z same = ap (λ later. record { later = later; nanoseconds = capped (size_of x y) }) (before_alike x y z same)
    ∙ ap (λ n. record { later = before x z; nanoseconds = capped n }) (size_alike x y z same)

-- ---- differences

abbrev AtSame : List Deviation → List Deviation → Type 0
AtSame xs ys = without_starts xs ≡ without_starts ys

all_alike : (first first' later later' : List Deviation) → AtSame first first' → AtSame later later'
    → AtSame (first ++ later) (first' ++ later')
all_alike first first' later later' same behind =
    map-append (λ (d : Deviation). record d { how = without_start d.how }) first later ∙ ap (λ found. found ++ without_starts later) same
    ∙ ap (λ found. without_starts first' ++ found) behind
    ∙ sym (map-append (λ (d : Deviation). record d { how = without_start d.how }) first' later')

unless_alike : (b c : Bool) (at : Difference) (h k : How) → b ≡ c → without_start h ≡ without_start k
    → AtSame (unless b (deviation at h)) (unless c (deviation at k))
unless_alike true c at h k same so = ap (λ b. without_starts (unless b (deviation at k))) same
unless_alike false c at h k same so =
    ap (λ h. record { at = at; how = h } ∷ []) so ∙ ap (λ b. without_starts (unless b (deviation at k))) same

-- ---- the parts of a presentation

module _ (within unit : ℕ) where
  segment_alike : (at : Aspect → Difference) (begin_a begin_b begin_c : Time) (a b c : Segment) → SameSegment IsSameTime begin_b begin_c b c
      → AtSame (segment_deviations within unit at begin_a begin_b a b) (segment_deviations within unit at begin_a begin_c a c)
  segment_alike at begin_a begin_b begin_c a b c same =
      all_alike _ _ _ _ (unless_alike _ _ (at aspect.Address) _ _ (ap (λ (p : Part). bytes_eq a.part.address p.address) same.part) refl)
      (all_alike _ _ _ _
      (unless_alike _ _ (at aspect.Range) _ _ (ap (λ (p : Part). option_eq is_same_range a.part.range p.range) same.part) refl)
      (unless_alike _ _ (at aspect.Time) _ _ (time_alike within unit (difference a.end begin_a) (difference b.end begin_b)
      (difference c.end begin_c) same.time) (ap (how.Times (record { later = false; nanoseconds = 0 }))
      (apart_alike (difference a.end begin_a) (difference b.end begin_b) (difference c.end begin_c) same.time))))

  -- and the ends are as far apart
  segments_alike : (t s k : ℕ) (begin_a begin_b begin_c : Time) (xs ys zs : List Segment)
      → Pairwise (SameSegment IsSameTime begin_b begin_c) ys zs
      → AtSame (segments_deviations within unit t s k begin_a begin_b xs ys) (segments_deviations within unit t s k begin_a begin_c xs zs)
      × (segments_greatest begin_a begin_b xs ys ≡ segments_greatest begin_a begin_c xs zs)
  segments_alike t s k begin_a begin_b begin_c [] [] [] same = (refl, refl)
  segments_alike t s k begin_a begin_b begin_c (a ∷ xs) [] [] same = (refl, refl)
  segments_alike t s k begin_a begin_b begin_c [] (b ∷ ys) (c ∷ zs) same =
      (ap (λ n. deviation (in_entry t s k aspect.Count) (how.Counts (k + 0) (k + suc n)) ∷ []) (Pairwise-length _ ys zs same.1), refl)
  segments_alike t s k begin_a begin_b begin_c (a ∷ xs) (b ∷ ys) (c ∷ zs) same =
      let later = segments_alike t s (k + 1) begin_a begin_b begin_c xs ys zs same.1 in (
        all_alike _ _ _ _ (segment_alike (in_entry t s k) begin_a begin_b begin_c a b c same.0) later.0,
        ap (λ n. max (capped n) (segments_greatest begin_a begin_b xs ys))
            (size_alike (difference a.end begin_a) (difference b.end begin_b) (difference c.end begin_c) same.0.time)
            ∙ ap (max (end_apart begin_a begin_c a c)) later.1,
      )
  segments_alike t s k begin_a begin_b begin_c xs [] (c ∷ zs) same = absurd same
  segments_alike t s k begin_a begin_b begin_c xs (b ∷ ys) [] same = absurd same

  entry_alike : (t s : ℕ) (a b c : Option Entry) → SameEntries IsSameTime b c
      → AtSame (entry_deviations within unit t s a b) (entry_deviations within unit t s a c) × (entry_greatest a b ≡ entry_greatest a c)
  entry_alike t s None None None same = (refl, refl)
  entry_alike t s (Some a) None None same = (refl, refl)
  entry_alike t s None (Some b) (Some c) same = (refl, refl)
  entry_alike t s (Some a) (Some b) (Some c) same =
      let segments = segments_alike t s 0 (begin_of a.segments) (begin_of b.segments) (begin_of c.segments) a.segments b.segments c.segments
      same.segments in (
        all_alike _ _ _ _
            (unless_alike _ _ (in_entry t s 0 aspect.Initialization) _ _ (ap (is_same_part a.initialization) same.initialization) refl)
            segments.0,
        segments.1,
      )
  entry_alike t s a None (Some c) same = absurd same
  entry_alike t s a (Some b) None same = absurd same

  entries_alike : (t s : ℕ) (xs ys zs : List (Option Entry)) → Pairwise (SameEntries IsSameTime) ys zs
      → AtSame (entries_deviations within unit t s xs ys) (entries_deviations within unit t s xs zs)
      × (entries_greatest xs ys ≡ entries_greatest xs zs)
  entries_alike t s [] [] [] same = (refl, refl)
  entries_alike t s (a ∷ xs) [] [] same = (refl, refl)
  entries_alike t s [] (b ∷ ys) (c ∷ zs) same =
      let first = entry_alike t s None b c same.0 in let later = entries_alike t (s + 1) [] ys zs same.1 in
      (all_alike _ _ _ _ first.0 later.0, refl)
  entries_alike t s (a ∷ xs) (b ∷ ys) (c ∷ zs) same =
      let first = entry_alike t s a b c same.0 in let later = entries_alike t (s + 1) xs ys zs same.1 in (
        all_alike _ _ _ _ first.0 later.0,
        ap (λ n. max n (entries_greatest xs ys)) first.1 ∙ ap (max (entry_greatest a c)) later.1,
      )
  entries_alike t s xs [] (c ∷ zs) same = absurd same
  entries_alike t s xs (b ∷ ys) [] same = absurd same

  heads_alike : (t : ℕ) (xs ys zs : List Track) → Pairwise (SameTrack IsSameTime) ys zs
      → AtSame (heads_deviations t xs ys) (heads_deviations t xs zs)
  heads_alike t [] [] [] same = refl
  heads_alike t (a ∷ xs) [] [] same = refl
  heads_alike t [] (b ∷ ys) (c ∷ zs) same =
      ap (λ found. deviation (in_track t aspect.Track) how.Extra ∷ found) (heads_alike (t + 1) [] ys zs same.1)
  heads_alike t (a ∷ xs) (b ∷ ys) (c ∷ zs) same = all_alike _ _ _ _
      (ap (λ kind. without_starts (head_deviations t (is_same_kind a.kind kind) (option_eq bytes_eq a.language b.language))) same.0.kind
      ∙ ap (λ language. without_starts (head_deviations t (is_same_kind a.kind c.kind) (option_eq bytes_eq a.language language)))
      same.0.language)
      (heads_alike (t + 1) xs ys zs same.1)
  heads_alike t xs [] (c ∷ zs) same = absurd same
  heads_alike t xs (b ∷ ys) [] same = absurd same

  tracks_alike : (t : ℕ) (xs ys zs : List Track) → Pairwise (SameTrack IsSameTime) ys zs
      → AtSame (tracks_deviations within unit t xs ys) (tracks_deviations within unit t xs zs)
      × (tracks_greatest xs ys ≡ tracks_greatest xs zs)
  tracks_alike t [] ys zs same = (refl, refl)
  tracks_alike t (a ∷ xs) [] [] same = (refl, refl)
  tracks_alike t (a ∷ xs) (b ∷ ys) (c ∷ zs) same =
      let first = entries_alike t 0 a.entries b.entries c.entries same.0.entries in let later = tracks_alike (t + 1) xs ys zs same.1 in (
        all_alike _ _ _ _ first.0 later.0,
        ap (λ n. n ∷ tracks_greatest xs ys) first.1 ∙ ap (λ ns. entries_greatest a.entries c.entries ∷ ns) later.1,
      )
  tracks_alike t (a ∷ xs) [] (c ∷ zs) same = absurd same
  tracks_alike t (a ∷ xs) (b ∷ ys) [] same = absurd same

pub same_deviate_alike : SameDeviateAlike
unfolding deviations
same_deviate_alike within unit a b c same =
    all_alike _ _ _ _ (ap (λ n. without_starts (number_deviations (in_all aspect.Sections) a.sections n)) same.sections)
    (all_alike _ _ _ _ (ap (λ n. without_starts (number_deviations (in_all aspect.Tracks) (length a.tracks) n))
    (Pairwise-length _ b.tracks c.tracks same.tracks))
    (all_alike _ _ _ _ (heads_alike within unit 0 a.tracks b.tracks c.tracks same.tracks)
    (tracks_alike within unit 0 a.tracks b.tracks c.tracks same.tracks).0))

pub same_greatest : SameGreatest
same_greatest a b c same = (tracks_alike 0 1 0 a.tracks b.tracks c.tracks same.tracks).1
