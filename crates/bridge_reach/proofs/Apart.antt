-- The first segment whose time isn't the one that its file states.
use Rattle.std.proofs.Common.{◌≡◌, ◌⊎◌, inl, inr, ◌<◌, ◌≤◌, ◌+◌, ℕ, zero, suc, Bool, true, false, List, [], ◌∷◌, length, map, Option, Some}
use Rattle.std.proofs.{Common.{None, Ok, if◌then◌else◌, refl, sym, ap, ◌∙◌, arith, subst}, lemmas.Bool.cases_lt}
use Rattle.std.specs.{List.range_with_len, Prelude.slice_get, Option.option_or}
use Rattle.bridge_io.specs.{Firsts.first_some, Outside.Files}
use Rattle.exact_time.specs.Time.{Time}
use Rattle.timeline.specs.{Expansions.Timing, Listed.offset_of}
use Rattle.fragment_times.specs.{declared.fault.SegmentSpot.SegmentSpot, declared.times.SegmentTimes.SegmentTimes, Agreeing.apart_at}
use Rattle.fragment_times.specs.{Agreeing.{apart_from, apart_in, first_apart, is_same}, Parts.start_at, Refusals.next_spot, Times.parts_of}
use Rattle.fragment_times.specs.Times.{times_of}
use Rattle.presentation.specs.{declared.parts.Content.Content, Meanings.part_meant, Presented.{Presented, content_at, listed_at}}
use Rattle.bridge_reach.specs.Promises.{AllAgree, IsBefore, IsCompared}
use Rattle.bridge_reach.proofs.{Places.each_at, Stated.{IsStated, stated_at}}

-- ---- of segments in order

same_or : (b : Bool) (later : Option SegmentSpot) (at : SegmentSpot) → (if b then later else Some at) ≡ None → (b ≡ true) × (later ≡ None)
same_or true later at is = (refl, is)
same_or false later at is = absurd (cc)

apart_or : (b : Bool) (later : Option SegmentSpot) (at spot : SegmentSpot) → (if b then later else Some at) ≡ Some spot
    → ((b ≡ true) × (later ≡ Some spot)) ⊎ ((b ≡ false) × (at ≡ spot))
apart_or true later at spot is = inl (refl, is)
apart_or false later at spot is = inr (refl, (let same : at ≡ spot = cc in same))

module _ (offset : Time) (scale : ℕ) where
  -- of the segments below a place each time is the same
  abbrev AreSame : List Timing → List ℕ → (count : ℕ) → Type 0
  AreSame xs starts count = (k : ℕ) (x : Timing) (start : ℕ) → k < count → slice_get xs k ≡ Some x → slice_get starts k ≡ Some start
      → is_same offset scale x.start start ≡ true

  record IsApart (xs : List Timing) (starts : List ℕ) (at spot : SegmentSpot) : Type 0 where
    count : ℕ
    section : spot.section ≡ at.section
    track : spot.track ≡ at.track
    segment : spot.segment ≡ at.segment + count
    times : Timing
    listed : slice_get xs count ≡ Some times
    start : ℕ
    stated : slice_get starts count ≡ Some start
    differs : is_same offset scale times.start start ≡ false
    before : AreSame xs starts count

  first_too : (x : Timing) (start : ℕ) (xs : List Timing) (starts : List ℕ) (count : ℕ) → is_same offset scale x.start start ≡ true
      → AreSame xs starts count → AreSame (x ∷ xs) (start ∷ starts) (suc count)
  first_too x start xs starts count same later zero y time within here there =
      let one : x ≡ y = cc in let two : start ≡ time = cc in
      rw (← one, ← two) same
  first_too x start xs starts count same later (suc k) y time within here there = later k y time (omega (arith, within)) here there

  none_apart : (at : SegmentSpot) (xs : List Timing) (starts : List ℕ) → apart_from at offset scale xs starts ≡ None
      → AreSame xs starts (length xs)
  none_apart at [] starts is = λ k x start within here there. absurd (omega (arith, within))
  none_apart at (x ∷ xs) [] is = λ k y start within here there. absurd (cc)
  none_apart at (x ∷ xs) (start ∷ starts) is =
      let same = same_or (is_same offset scale x.start start) (apart_from (next_spot at) offset scale xs starts) at is in
      first_too x start xs starts (length xs) same.0 (none_apart (next_spot at) xs starts same.1)

  some_apart : (at : SegmentSpot) (xs : List Timing) (starts : List ℕ) (spot : SegmentSpot)
      → apart_from at offset scale xs starts ≡ Some spot
      → IsApart xs starts at spot
  some_apart at [] starts spot is = absurd (cc)
  some_apart at (x ∷ xs) [] spot is = absurd (cc)
  some_apart at (x ∷ xs) (start ∷ starts) spot is =
      go (λ later. some_apart (next_spot at) xs starts spot later)
      (apart_or (is_same offset scale x.start start) (apart_from (next_spot at) offset scale xs starts) at spot is)
    where
      go : (apart_from (next_spot at) offset scale xs starts ≡ Some spot → IsApart xs starts (next_spot at) spot)
          → ((is_same offset scale x.start start ≡ true) × (apart_from (next_spot at) offset scale xs starts ≡ Some spot))
          ⊎ ((is_same offset scale x.start start ≡ false) × (at ≡ spot)) → IsApart (x ∷ xs) (start ∷ starts) at spot
      go next (inl later) =
          let found = next later.1 in
          record {
            count = suc found.count;
            section = found.section;
            track = found.track;
            segment = omega (arith, found.segment);
            times = found.times;
            listed = found.listed;
            start = found.start;
            stated = found.stated;
            differs = found.differs;
            before = first_too x start xs starts found.count later.0 found.before;
          }
      go next (inr here) = record {
        count = 0;
        section = ap (λ (a : SegmentSpot). a.section) (sym here.1);
        track = ap (λ (a : SegmentSpot). a.track) (sym here.1);
        segment = ap (λ (a : SegmentSpot). a.segment) (sym here.1) ∙ omega arith;
        times = x;
        listed = refl;
        start = start;
        stated = refl;
        differs = here.0;
        before = λ k y time within. absurd (omega (arith, within));
      }

-- ---- of places in order

record IsFirstSome (f : ℕ → Option SegmentSpot) (i n : ℕ) (spot : SegmentSpot) : Type 0 where
  place : ℕ
  from : i ≤ place
  within : place < i + n
  found : f place ≡ Some spot
  none : (j : ℕ) → i ≤ j → j < place → f j ≡ None

module _ (f : ℕ → Option SegmentSpot) where
  from_next : (i j : ℕ) → i ≤ j → (i ≡ j) ⊎ (i + 1 ≤ j)
  from_next i j from = by_less (cases_lt i j)
    where
      by_less : (i < j) ⊎ (j ≤ i) → (i ≡ j) ⊎ (i + 1 ≤ j)
      by_less (inl less) = inr (omega (arith, less))
      by_less (inr most) = inl (omega (arith, from, most))

  none_each : (n i : ℕ) → first_some (map f (range_with_len i n)) ≡ None → (j : ℕ) → i ≤ j → j < i + n → f j ≡ None
  none_each zero i is j from within = absurd (omega (arith, from, within))
  none_each (suc n) i is j from within = go (λ rest behind. none_each n (i + 1) rest j behind (omega (arith, within))) (f i) refl is
    where
      go : (first_some (map f (range_with_len (i + 1) n)) ≡ None → i + 1 ≤ j → f j ≡ None) → (o : Option SegmentSpot) → f i ≡ o
          → option_or o (first_some (map f (range_with_len (i + 1) n))) ≡ None → f j ≡ None
      go later None here rest = by_place (from_next i j from)
        where
          by_place : (i ≡ j) ⊎ (i + 1 ≤ j) → f j ≡ None
          by_place (inl same) = ap f (sym same) ∙ here
          by_place (inr behind) = later rest behind
      go later (Some spot) here rest = absurd (cc)

  one_more : {i n : ℕ} {spot : SegmentSpot} → IsFirstSome f (i + 1) n spot → f i ≡ None → IsFirstSome f i (suc n) spot
  one_more {i} {n} {spot} found here = record {
    place = found.place;
    from = omega (arith, found.from);
    within = omega (arith, found.within);
    found = found.found;
    none = λ j from before. earlier j before (from_next i j from);
  }
    where
      earlier : (j : ℕ) → j < found.place → (i ≡ j) ⊎ (i + 1 ≤ j) → f j ≡ None
      earlier j before (inl same) = ap f (sym same) ∙ here
      earlier j before (inr behind) = found.none j behind before

  some_first : (n i : ℕ) (spot : SegmentSpot) → first_some (map f (range_with_len i n)) ≡ Some spot → IsFirstSome f i n spot
  some_first zero i spot is = absurd (cc)
  some_first (suc n) i spot is = go (λ rest. some_first n (i + 1) spot rest) (f i) refl is
    where
      go : (first_some (map f (range_with_len (i + 1) n)) ≡ Some spot → IsFirstSome f (i + 1) n spot) → (o : Option SegmentSpot) → f i ≡ o
          → option_or o (first_some (map f (range_with_len (i + 1) n))) ≡ Some spot → IsFirstSome f i (suc n) spot
      go later (Some one) here rest = record {
        place = i;
        from = omega arith;
        within = omega arith;
        found = here ∙ rest;
        none = λ j from before. absurd (omega (arith, from, before));
      }
      go later None here rest = one_more (later rest) here

-- ---- of what files state

at_mapped : {X Y : Type 0} (f : X → Y) (xs : List X) (k : ℕ) (x : X) → slice_get xs k ≡ Some x → slice_get (map f xs) k ≡ Some (f x)
at_mapped f [] k x is = absurd (cc)
at_mapped f (first ∷ xs) zero x is = (let same : first ≡ x = cc in rw same refl)
at_mapped f (first ∷ xs) (suc k) x is = at_mapped f xs k x is

is_there : {X : Type 0} (xs : List X) (k : ℕ) → k < length xs → (x : X) × (slice_get xs k ≡ Some x)
is_there [] k within = absurd (omega (arith, within))
is_there (x ∷ xs) zero within = (x, refl)
is_there (x ∷ xs) (suc k) within = is_there xs k (omega (arith, within))

module _ (folder : List ℕ) (files : Files) (p : Presented) (times : List SegmentTimes) (stated : times_of folder files p ≡ Ok times) where
  module _ (s t : ℕ) (content : Content) (has : content_at p s t ≡ Some content) (own : IsStated folder files p times s t content) where
    compared : (same : Bool) (k : ℕ) (x : Timing) → slice_get (listed_at p s t) k ≡ Some x
        → ((start : ℕ) → slice_get own.own.starts k ≡ Some start → is_same (offset_of content.runs) own.own.scale x.start start ≡ same)
        → IsCompared same folder files p s t k
    compared same k x listed tells =
        let given = each_at (start_at folder files) (parts_of content.runs (listed_at p s t)) own.own.starts own.starts k
        (part_meant content.runs x) (at_mapped (part_meant content.runs) (listed_at p s t) k x listed) in
        record {
          content = content;
          has = has;
          times = x;
          listed = listed;
          scale = own.own.scale;
          media = own.scale;
          decode = given.value;
          stated = given.given;
          is = tells given.value given.is;
        }

    abbrev spot_at : SegmentSpot
    spot_at = record { section = s; track = t; segment = 0 }

    own_apart : apart_at p times s t ≡ apart_from spot_at (offset_of content.runs) own.own.scale (listed_at p s t) own.own.starts
    unfolding apart_at
    own_apart = rw (has, own.there) refl

    all_same : apart_at p times s t ≡ None → (k : ℕ) → k < length (listed_at p s t) → IsCompared true folder files p s t k
    all_same none k within =
        let x = is_there (listed_at p s t) k within in
        compared true k x.0 x.1 (λ start there. none_apart (offset_of content.runs) own.own.scale spot_at (listed_at p s t) own.own.starts
        (sym own_apart ∙ none) k x.0 start within x.1 there)

    one_apart : (spot : SegmentSpot) → apart_at p times s t ≡ Some spot
        → IsApart (offset_of content.runs) own.own.scale (listed_at p s t) own.own.starts spot_at spot
    one_apart spot some = some_apart (offset_of content.runs) own.own.scale spot_at (listed_at p s t) own.own.starts spot
        (sym own_apart ∙ some)

  -- ---- of each track in each section

  none_in : (s t : ℕ) → s < length p.sections → t < length p.tracks → apart_at p times s t ≡ None → (k : ℕ) → k < length (listed_at p s t)
      → IsCompared true folder files p s t k
  none_in s t in_sections in_tracks none k within = go (content_at p s t) refl
    where
      go : (o : Option Content) → content_at p s t ≡ o → IsCompared true folder files p s t k
      go None has = (let empty : listed_at p s t ≡ [] = rw has refl in absurd (omega (arith, within, ap length empty)))
      go (Some content) has =
          all_same s t content has (stated_at folder files p times stated s t content in_sections in_tracks has) none k within

  pub all_agree : first_apart p times ≡ None → AllAgree files folder p
  all_agree none s t k in_sections in_tracks within =
      let in_section = none_each (apart_in p times) (length p.sections) 0 none s (omega arith) (omega (arith, in_sections)) in
      let in_track = none_each (apart_at p times s) (length p.tracks) 0 in_section t (omega arith) (omega (arith, in_tracks)) in
      none_in s t in_sections in_tracks in_track k within

  -- what is apart in a track, of which those before it aren't
  record IsFirstIn (s t : ℕ) (spot : SegmentSpot) : Type 0 where
    section : spot.section ≡ s
    track : spot.track ≡ t
    apart : IsCompared false folder files p s t spot.segment
    before : (k : ℕ) → k < spot.segment → k < length (listed_at p s t) → IsCompared true folder files p s t k

  no_content : (s t : ℕ) → content_at p s t ≡ None → apart_at p times s t ≡ None
  unfolding apart_at
  no_content s t has = rw has refl

  some_in : (s t : ℕ) → s < length p.sections → t < length p.tracks → (spot : SegmentSpot) → apart_at p times s t ≡ Some spot
      → IsFirstIn s t spot
  some_in s t in_sections in_tracks spot some = go (content_at p s t) refl
    where
      go : (o : Option Content) → content_at p s t ≡ o → IsFirstIn s t spot
      go None has = absurd (let e = sym (no_content s t has) ∙ some in cc)
      go (Some content) has =
          let own = stated_at folder files p times stated s t content in_sections in_tracks has in
          let found = one_apart s t content has own spot some in
          let place : found.count ≡ spot.segment = omega (arith, found.segment) in
          record {
            section = found.section;
            track = found.track;
            apart = subst (IsCompared false folder files p s t) place
                (compared s t content has own false found.count found.times found.listed
                (λ start there. let same : found.start ≡ start = (let e = found.stated in cc) in rw (← same) found.differs));
            before = λ k before within. let x = is_there (listed_at p s t) k within in
                compared s t content has own true k x.0 x.1
                (λ start there. found.before k x.0 start (omega (arith, before, place)) x.1 there);
          }

  pub record IsFirst (spot : SegmentSpot) : Type 0 where
    pub section : spot.section < length p.sections
    pub track : spot.track < length p.tracks
    pub apart : IsCompared false folder files p spot.section spot.track spot.segment
    pub first : (s t k : ℕ) → IsBefore s t k spot → s < length p.sections → t < length p.tracks → k < length (listed_at p s t)
        → IsCompared true folder files p s t k

  module _ (spot : SegmentSpot) (section : IsFirstSome (apart_in p times) 0 (length p.sections) spot)
      (track : IsFirstSome (apart_at p times section.place) 0 (length p.tracks) spot) (own : IsFirstIn section.place track.place spot) where
    before_is : (s t k : ℕ) → IsBefore s t k spot → s < length p.sections → t < length p.tracks → k < length (listed_at p s t)
        → IsCompared true folder files p s t k
    before_is s t k (inl before) in_sections in_tracks within =
        let in_section = section.none s (omega arith) (omega (arith, before, own.section)) in
        let in_track = none_each (apart_at p times s) (length p.tracks) 0 in_section t (omega arith) (omega (arith, in_tracks)) in
        none_in s t in_sections in_tracks in_track k within
    before_is s t k (inr (same, inl before)) in_sections in_tracks within =
        let here : section.place ≡ s = sym own.section ∙ sym same in
        let none = track.none t (omega arith) (omega (arith, before, own.track)) in
        none_in s t in_sections in_tracks (ap (λ s. apart_at p times s t) (sym here) ∙ none) k within
    before_is s t k (inr (same, inr (same_track, before))) in_sections in_tracks within =
        let here : section.place ≡ s = sym own.section ∙ sym same in let there : track.place ≡ t = sym own.track ∙ sym same_track in
        let inside : k < length (listed_at p section.place track.place) = rw (here, there) within in
        subst (λ s. IsCompared true folder files p s t k) here
        (subst (λ t. IsCompared true folder files p section.place t k) there (own.before k before inside))

  pub is_first : (spot : SegmentSpot) → first_apart p times ≡ Some spot → IsFirst spot
  is_first spot some =
      let section = some_first (apart_in p times) (length p.sections) 0 spot some in
      let track = some_first (apart_at p times section.place) (length p.tracks) 0 spot section.found in
      let own = some_in section.place track.place (omega (arith, section.within)) (omega (arith, track.within)) spot track.found in
      record {
        section = omega (arith, section.within, own.section);
        track = omega (arith, track.within, own.track);
        apart = subst (λ s. IsCompared false folder files p s spot.track spot.segment) (sym own.section)
            (subst (λ t. IsCompared false folder files p section.place t spot.segment) (sym own.track) own.apart);
        first = before_is spot section track own;
      }
