-- The last kept segments of a Period.
use Rattle.std.proofs.Common.{◌≡◌, ◌⊎◌, ℕ, zero, suc, ◌+◌, ◌-◌, ◌<◌, ◌≤◌, ◌==◌, Bool, true, false, List, [], ◌∷◌, length, take, drop}
use Rattle.std.proofs.{Common.{reverse, Option, None, Some, refl, sym, ◌∙◌, ap, inl, inr, arith, length-drop}, lemmas.Bool.cases_lt}
use Rattle.std.proofs.{lemmas.Bool.false_from_ne_true, lemmas.Bool.Decides.nat_tests, lemmas.Grind.common_steps, lemmas.List.get_or-reverse}
use Rattle.std.proofs.{lemmas.List.{length-map, length-reverse, length-take}, lemmas.Option.{gets, same_Some, slice_get-map}}
use Rattle.std.proofs.lemmas.Option.{slice_get_past, slice_get_within}
use Rattle.std.specs.{Prelude.{filter, option_map, slice_get}, List.last_or}
use Rattle.presentation.proofs.Grids.{All-at, found}
use Rattle.timeline.specs.Expansions.{Timing}
use Rattle.followed.specs.Durations.{is_in}
use Rattle.live_meaning.specs.{Segments.{Kept, Segment, segments_of, times_of, timing_of}, Refusals.latest_in}
use Rattle.live_judge.specs.{declared.block.Block.Block, declared.track.LiveTrack.LiveTrack, Blocks.{AreOf, IsBlock, IsEndOf, IsWithin}}
use Rattle.live_judge.specs.{Blocks.{StandBefore, in_block, is_of, segments_in}, Removal.kept_in, Sound.{AreOrdered, DoesFollow}}
use Rattle.live_judge.proofs.{Holding.filter_filter, Keeping.length-kepts}

pub segment_at : (track : LiveTrack) (i : ℕ) (k : Kept) → slice_get (kept_in track) i ≡ Some k
    → slice_get (segments_in track) i ≡ Some k.segment
segment_at track i k at = slice_get-map (λ (j : Kept). j.segment) (kept_in track) i ∙ (rw at refl)

pub segments_long : (track : LiveTrack) → length track.items.items ≡ length track.facts.items
    → length (segments_in track) ≡ length track.facts.items
segments_long track paired = length-map (kept_in track) (λ (k : Kept). k.segment) ∙ length-kepts track.items.items track.facts.items paired

-- ---- going on from a place, and back from one

module _ (track : LiveTrack) (i : ℕ) (k : Kept) (here : slice_get (kept_in track) i ≡ Some k) where
  pub is_it : (j : ℕ) (x : Segment) → slice_get (segments_in track) j ≡ Some x → j ≡ i → x ≡ k.segment
  is_it j x at same = same_Some x k.segment (sym at ∙ ap (slice_get (segments_in track)) same ∙ segment_at track i k here)

  pub before_more : (place : ℕ) → k.segment.value.place < place → StandBefore place (segments_in track) i
      → StandBefore place (segments_in track) (i + 1)
  before_more place low before j x at less = elim (cases_lt j i) [
    | inl earlier ↦ before j x at earlier
    | inr not_earlier ↦ omega (arith, low, ap (λ (y : Segment). y.value.place) (is_it j x at (omega (arith, less, not_earlier))))
  ]

  pub end_here : (place : ℕ) → place < k.segment.value.place → StandBefore (place + 1) (segments_in track) i
      → IsEndOf place (segments_in track) i
  end_here place high before = record {
    within = omega (arith, slice_get_within (segments_in track) i k.segment (segment_at track i k here));
    before = before;
    stops = λ x at. omega (arith, high, ap (λ (y : Segment). y.value.place) (is_it i x at refl));
  }

  pub of_more : (place section begin end : ℕ) → i ≡ begin - 1 → is_of place section k.segment ≡ true
      → ((j : ℕ) (x : Segment) → slice_get (segments_in track) j ≡ Some x → begin ≤ j → j < end → is_of place section x ≡ true)
      → (j : ℕ) (x : Segment) → slice_get (segments_in track) j ≡ Some x → begin - 1 ≤ j → j < end → is_of place section x ≡ true
  of_more place section begin end same is all j x at le less = elim (cases_lt j begin) [
    | inl earlier ↦ ap (is_of place section) (is_it j x at (omega (arith, same, earlier, le))) ∙ is
    | inr not_earlier ↦ all j x at not_earlier less
  ]

pub end_past : (track : LiveTrack) (i place : ℕ) → i ≡ length (segments_in track) → StandBefore (place + 1) (segments_in track) i
    → IsEndOf place (segments_in track) i
end_past track i place end before = record {
  within = omega (arith, end);
  before = before;
  stops = λ x at. absurd (omega (arith, end, slice_get_within (segments_in track) i x at));
}

-- ---- those that pass stand one behind another

module _ {X : Type 0} (q : X → Bool) where
  pub filter_none : (xs : List X) → ((i : ℕ) (x : X) → slice_get xs i ≡ Some x → q x ≡ false) → filter q xs ≡ []
  filter_none [] none = refl
  filter_none (x ∷ xs) none = rw (none 0 x refl) (filter_none xs (λ i y at. none (suc i) y at))

  abbrev IsInWindow : (b n i : ℕ) → X → Type 0
  IsInWindow b n i x = (b ≤ i × i < b + n × q x ≡ true) ⊎ ((i < b ⊎ b + n ≤ i) × q x ≡ false)

  filter_window : (xs : List X) (b n : ℕ) → ((i : ℕ) (x : X) → slice_get xs i ≡ Some x → IsInWindow b n i x)
      → filter q xs ≡ take n (drop b xs)
  filter_window [] b n each = grind (arith, common_steps)
  filter_window (x ∷ xs) zero zero each =
      let here : q x ≡ false = grind (arith, each 0 x refl) in
      rw here (filter_window xs 0 0 (λ i y at. grind (arith, each (suc i) y at)))
  filter_window (x ∷ xs) zero (suc n) each =
      let here : q x ≡ true = grind (arith, each 0 x refl) in
      rw here (ap (λ (ys : List X). x ∷ ys) (filter_window xs 0 n (λ i y at. grind (arith, each (suc i) y at))))
  filter_window (x ∷ xs) (suc b) n each =
      let here : q x ≡ false = grind (arith, each 0 x refl) in
      rw here (filter_window xs b n (λ i y at. grind (arith, each (suc i) y at)))

  last_filter : (xs : List X) (i : ℕ) (z : X) (d : Option X) → slice_get xs i ≡ Some z → q z ≡ true
      → ((j : ℕ) (x : X) → slice_get xs j ≡ Some x → i < j → q x ≡ false)
      → last_or d (filter q xs) ≡ Some z
  last_filter [] i z d at is behind = absurd (cc)
  last_filter (x ∷ xs) zero z d at is behind =
      let same : x ≡ z = same_Some x z at in
      rw (same, is, filter_none xs (λ j y there. behind (suc j) y there (omega arith))) refl
  last_filter (x ∷ xs) (suc i) z d at is behind =
      let rest : (e : Option X) → last_or e (filter q xs) ≡ Some z = λ e. last_filter xs i z e at is
      (λ j y there less. behind (suc j) y there (omega (arith, less))) in
      grind (arith, rest (Some x), rest d)

-- ---- the order of what is kept

follows : (xs : List Segment) (i j : ℕ) (x y : Segment) → AreOrdered xs → i ≤ j → slice_get xs i ≡ Some x → slice_get xs j ≡ Some y
    → DoesFollow x y
follows [] i j x y ordered le at there = absurd (cc)
follows (z ∷ xs) zero zero x y ordered le at there = let same : x ≡ y = cc in rw same (inr (refl, omega arith))
follows (z ∷ xs) (suc i) zero x y ordered le at there = absurd (omega (arith, le))
follows (z ∷ xs) zero (suc j) x y ordered le at there =
    let same : z ≡ x = same_Some z x at in
    rw same at (All-at (DoesFollow z) xs j y ordered.0 there)
follows (z ∷ xs) (suc i) (suc j) x y ordered le at there = follows xs i j x y ordered.1 (omega (arith, le)) at there

between : (place section : ℕ) (x y z : Segment) → DoesFollow x y → DoesFollow y z → is_of place section x ≡ true
    → is_of place section z ≡ true → is_of place section y ≡ true
between place section x y z low high first last = grind (arith, nat_tests)

module _ (kept : List Kept) (place section b e : ℕ) (ordered : AreOrdered (segments_of kept)) (end : IsEndOf place (segments_of kept) e)
    (own : AreOf place section (segments_of kept) b e) (last : (w : Segment) → 0 < e → slice_get (segments_of kept) (e - 1) ≡ Some w
    → w.section ≡ section) where
  abbrev xs : List Segment
  xs = segments_of kept

  abbrev in_place : Segment → Bool
  in_place x = x.value.place == place

  later : (j : ℕ) (x : Segment) → slice_get xs j ≡ Some x → e ≤ j → place < x.value.place
  later j x at le =
      let one = found xs e (omega (arith, le, slice_get_within xs j x at)) in
      grind (arith, end.stops one.0 one.1, follows xs e j one.0 x ordered le one.1 at)

  -- none of the Period
  none_in : b ≡ e → (j : ℕ) (x : Segment) → slice_get xs j ≡ Some x → in_place x ≡ false
  none_in empty j x at = elim (cases_lt j e) [
    | inr not_less ↦ grind (arith, nat_tests, later j x at not_less)
    | inl less ↦
        let one = found xs (e - 1) (omega (arith, less, end.within)) in
        let low = end.before (e - 1) one.0 one.1 (omega (arith, less)) in
        let section_is = last one.0 (omega (arith, less)) one.1 in
        let there : slice_get xs (b - 1) ≡ Some one.0 = ap (λ n. slice_get xs (n - 1)) empty ∙ one.1 in
        let other : is_of place section one.0 ≡ false = own.stops one.0 (omega (arith, less, empty)) there in
        grind (arith, nat_tests, low, section_is, other, follows xs j (e - 1) x one.0 ordered (omega (arith, less)) at one.1)
  ]

  -- none before them is of their section
  none_before : b < e → (i : ℕ) (x : Segment) → slice_get xs i ≡ Some x → i < b → is_of place section x ≡ false
  none_before some i x at less =
      let y = found xs (b - 1) (omega (arith, less, some, end.within)) in
      let z = found xs (e - 1) (omega (arith, some, end.within)) in
      let other : is_of place section y.0 ≡ false = own.stops y.0 (omega (arith, less)) y.1 in
      let z_is = own.all (e - 1) z.0 z.1 (omega (arith, some)) (omega (arith, some)) in
      false_from_ne_true _ (λ is. let never = between place section x y.0 z.0
      (follows xs i (b - 1) x y.0 ordered (omega (arith, less)) at y.1)
      (follows xs (b - 1) (e - 1) y.0 z.0 ordered (omega (arith, less, some)) y.1 z.1) is z_is in cc)

  own_are : b < e → (i : ℕ) (x : Segment) → slice_get xs i ≡ Some x → IsInWindow (is_of place section) b (e - b) i x
  own_are some i x at = elim (cases_lt i b) [
    | inl before ↦ inr (inl before, none_before some i x at before)
    | inr from ↦ elim (cases_lt i e) [
      | inl less ↦ inl (from, omega (arith, less, from), own.all i x at from less)
      | inr past ↦ inr (inr (omega (arith, past, some)), grind (arith, nat_tests, later i x at past))
    ]
  ]

  pub latest_is : latest_in place kept ≡ take (e - b) (drop b xs)
  latest_is = elim (cases_lt b e) [
    | inr not_less ↦
        let same : b ≡ e = omega (arith, not_less, own.rises) in
        let zero_long : e - b ≡ 0 = omega (arith, same) in
        rw (filter_none in_place xs (none_in same), zero_long) refl
    | inl less ↦
        let z = found xs (e - 1) (omega (arith, less, end.within)) in
        let z_is = own.all (e - 1) z.0 z.1 (omega (arith, less)) (omega (arith, less)) in
        let there = last_filter in_place xs (e - 1) z.0 None z.1 (grind (arith, nat_tests, z_is))
        (λ j x at behind. grind (arith, nat_tests, later j x at (omega (arith, behind)))) in
        rw (there, last z.0 (omega (arith, less)) z.1) (filter_filter (is_in section) in_place xs
        ∙ filter_window (is_of place section) xs b (e - b) (own_are less))
  ]

module _ (track : LiveTrack) (place : ℕ) (block : Block) (paired : length track.items.items ≡ length track.facts.items)
    (ordered : AreOrdered (segments_in track))
    (end : IsEndOf place (segments_in track) block.end) where
  pub block_is : (section : ℕ) → AreOf place section (segments_in track) block.begin block.end
      → ((w : Segment) → 0 < block.end → slice_get (segments_in track) (block.end - 1) ≡ Some w → w.section ≡ section)
      → IsBlock place track block
  block_is section own last = record {
    are = latest_is (kept_in track) place section block.begin block.end ordered end own last;
    inside = record { paired = paired; rises = own.rises; within = omega (arith, end.within, segments_long track paired) };
    last = λ x some at. grind (arith, nat_tests, own.all (block.end - 1) x at (omega (arith, some)) (omega (arith, some)));
    before = end.before;
  }

  pub none_before_it : block.begin ≡ block.end → block.end ≡ 0 → IsBlock place track block
  none_before_it empty none = block_is 0
      (record {
        rises = omega (arith, empty);
        all = λ i x at le less. absurd (omega (arith, le, less, empty));
        stops = λ x some at. absurd (omega (arith, some, empty, none));
      })
      (λ w some at. absurd (omega (arith, some, none)))

-- ---- the segments of a block

get_within : {X : Type 0} (xs : List X) (b n i : ℕ) (x : X) → i < n → slice_get xs (b + i) ≡ Some x
    → slice_get (take n (drop b xs)) i ≡ Some x
get_within xs b n i x less at = grind (arith, common_steps, gets)

get_reverse : (xs : List Timing) (i : ℕ) (x : Timing) → i < length xs → slice_get xs (length xs - 1 - i) ≡ Some x
    → slice_get (reverse xs) i ≡ Some x
get_reverse xs i x less at = grind (arith, gets, get_or-reverse, length-reverse)

module _ (block : Block) (track : LiveTrack) (is : IsWithin block track) where
  pub block_long : length (times_of (in_block block track)) ≡ block.end - block.begin
  block_long =
      length-map (in_block block track) timing_of
      ∙ omega (
        arith,
        is.within,
        is.rises,
        segments_long track is.paired,
        length-take (block.end - block.begin) (drop block.begin (segments_in track)),
        length-drop block.begin (segments_in track),
      )

  pub time_at : (i place : ℕ) (k : Kept) → place ≡ block.begin + i → i < block.end - block.begin → slice_get (kept_in track) place ≡ Some k
      → slice_get (times_of (in_block block track)) i ≡ Some (timing_of k.segment)
  time_at i place k same less at =
      let there : slice_get (segments_in track) (block.begin + i) ≡ Some k.segment = ap (slice_get (segments_in track)) (sym same)
      ∙ segment_at track place k at in
      slice_get-map timing_of (in_block block track) i ∙ ap (option_map timing_of)
      (get_within (segments_in track) block.begin (block.end - block.begin) i k.segment less there)

  pub from_back_at : (left : ℕ) (k : Kept) → left < block.end - block.begin → slice_get (kept_in track) (block.end - 1 - left) ≡ Some k
      → slice_get (reverse (times_of (in_block block track))) left ≡ Some (timing_of k.segment)
  from_back_at left k less at =
      let there = time_at (block.end - block.begin - 1 - left) (block.end - 1 - left) k (omega (arith, less)) (omega (arith, less)) at in
      get_reverse (times_of (in_block block track)) left (timing_of k.segment) (omega (arith, block_long, less)) (rw block_long there)

  pub from_back_past : (left : ℕ) → block.end - block.begin ≤ left → slice_get (reverse (times_of (in_block block track))) left ≡ None
  from_back_past left le =
      slice_get_past (reverse (times_of (in_block block track))) left
      (omega (arith, le, block_long, length-reverse (times_of (in_block block track))))
