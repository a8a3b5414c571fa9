-- What is left of segments that are made one by one.
use Rattle.std.proofs.Common.{◌≡◌, ℕ, suc, List, [], ◌∷◌, length, map, All, Option, None, Some, IfSome, option_map, refl, sym, ◌∙◌, ap}
use Rattle.std.proofs.{Common.{subst, arith}, lemmas.List.length-map, lemmas.List.Elements.{All-cons, All-head, All-nil, All-tail}}
use Rattle.std.specs.{Prelude.option_and_then, Option.option_map_or, Result.result_unwrap_or}
use Rattle.exact_time.specs.Rounding.{differences}
use Rattle.url_parts.specs.declared.address.Part.{Part}
use Rattle.timeline.specs.{Expansions.{SegmentTimeline, Timing}, Listed.{IsReached, Made, answered_count}}
use Rattle.presentation.specs.{declared.parts.Content.Content, Laws.HasAddress, Meanings.{entry_at, entry_of, entry_with, segment_of}}
use Rattle.presentation.specs.{Origins.IsAddressed, Presented.{Presented, content_at, listed_at, listed_in, window_of}, Printing.IsAtEnd}
use Rattle.presentation.specs.Printing.{IsCounted, IsNext, IsPrintedOf, PrintedRest, PrintedTiming, durations_of, ends_of, printed_timings}
use Rattle.presentation.specs.Printing.{rest_of, with_durations}
use Rattle.presentation.proofs.{Grids.All-at, Meant.made_are_meant, OwnListed.{counted, have_addresses}}
use Rattle.comparison.specs.Comparing.{AreAddressed, entry_made, segment_made, segments_left}

-- ---- one after another

module _ (old new : PrintedRest) where
  pub next_left : (made : Made) (duration : ℕ) → IsNext old made duration new → segments_left old ≡ segment_made made ∷ segments_left new
  next_left made duration next = rw (next.next, next.timeline)
      (ap (λ (part : Part). record { part = part; start = made.times.start; end = made.times.end }
      ∷ map (λ x. segment_of old.timeline x.times) new.left) (sym (made_are_meant old.timeline made.times made.part next.part)))

  pub still_addressed : (made : Made) (duration : ℕ) → IsNext old made duration new → AreAddressed old → AreAddressed new
  still_addressed made duration next all = rw next.timeline
      (All-tail (λ (x : PrintedTiming). HasAddress old.timeline x.times) (record { times = made.times; duration = duration }) new.left
      (rw next.next at all))

  pub none_left : IsAtEnd old new → segments_left old ≡ []
  none_left end = rw end.none refl

-- ---- segments without their durations

differences_as_many : (n : ℕ) (ms : List ℕ) → length (differences n ms) ≡ length ms
differences_as_many n [] = refl
differences_as_many n (m ∷ ms) = ap suc (differences_as_many m ms)

as_many : (unit : ℕ) (xs : List Timing) → length (durations_of unit xs) ≡ length xs
as_many unit xs = differences_as_many 0 _ ∙ length-map (ends_of xs) _ ∙ length-map xs _

module _ (timeline : SegmentTimeline) where
  apart : (xs : List Timing) (ds : List ℕ) → length ds ≡ length xs → map (λ x. segment_of timeline x.times) (with_durations xs ds)
      ≡ map (segment_of timeline) xs
  apart [] ds same = refl
  apart (x ∷ xs) [] same = absurd (omega arith)
  apart (x ∷ xs) (d ∷ ds) same = ap (λ ys. segment_of timeline x ∷ ys) (apart xs ds (omega arith))

  pub all_left : (unit : ℕ) (xs : List Timing) → segments_left (rest_of timeline xs unit) ≡ map (segment_of timeline) xs
  all_left unit xs = apart xs (durations_of unit xs) (as_many unit xs)

  with_entry : (initialization : Part) (xs : List Timing) → entry_made initialization (map (segment_of timeline) xs)
      ≡ entry_with initialization timeline xs
  with_entry initialization [] = refl
  with_entry initialization (x ∷ xs) = refl

  printed_have : (xs : List Timing) (ds : List ℕ) → All (HasAddress timeline) xs
      → All (λ x. HasAddress timeline x.times) (with_durations xs ds)
  printed_have [] ds all = All-nil (λ (x : PrintedTiming). HasAddress timeline x.times)
  printed_have (x ∷ xs) [] all = All-nil (λ (x : PrintedTiming). HasAddress timeline x.times)
  printed_have (x ∷ xs) (d ∷ ds) all = All-cons (λ (x : PrintedTiming). HasAddress timeline x.times) (record { times = x; duration = d })
      (with_durations xs ds) (All-head (HasAddress timeline) x xs all) (printed_have xs ds (All-tail (HasAddress timeline) x xs all))

-- ---- a track in a section

module _ (p : Presented) (s t : ℕ) where
  listed_as : {o : Option Content} → content_at p s t ≡ o
      → listed_at p s t ≡ option_map_or (λ content. listed_in (window_of p s) content.runs) o []
  listed_as is = ap (λ o. option_map_or (λ content. listed_in (window_of p s) content.runs) o []) is

  counted_in : (o : Option Content) (runs : SegmentTimeline) → content_at p s t ≡ o → option_map (λ content. content.runs) o ≡ Some runs
      → IfSome o (λ content. IsReached content.runs (window_of p s)) → result_unwrap_or (answered_count runs (window_of p s)) 0
      ≡ length (listed_at p s t)
  counted_in None runs is with_runs reached = absurd (cc)
  counted_in (Some content) runs is with_runs reached =
      let same : content.runs ≡ runs = cc in
      rw (← same) (counted content.runs (window_of p s) reached) ∙ sym (ap length (listed_as is))

  pub counted_at : (runs : SegmentTimeline) → option_map (λ content. content.runs) (content_at p s t) ≡ Some runs → IsCounted p s t
      → result_unwrap_or (answered_count runs (window_of p s)) 0 ≡ length (listed_at p s t)
  counted_at runs with_runs reached = counted_in (content_at p s t) runs refl with_runs reached

  module _ (unit : ℕ) (rest : PrintedRest) where
    entry_in : (initialization : Part) (o : Option Content) → content_at p s t ≡ o
        → option_map (λ content. content.initialization) o ≡ Some initialization
        → IfSome o (λ content. rest ≡ rest_of content.runs (listed_at p s t) unit)
        → entry_made initialization (segments_left rest) ≡ entry_at p s t
    entry_in initialization None is begins left = absurd (cc)
    entry_in initialization (Some content) is begins left =
        let same : content.initialization ≡ initialization = cc in
        ap (λ r. entry_made initialization (segments_left r)) left
        ∙ ap (entry_made initialization) (all_left content.runs unit (listed_at p s t))
        ∙ with_entry content.runs initialization (listed_at p s t)
        ∙ ap (λ i. entry_with i content.runs (listed_at p s t)) (sym same)
        ∙ ap (entry_with content.initialization content.runs) (listed_as is)
        ∙ sym (ap (λ o. option_and_then (entry_of (window_of p s)) o) is)

    pub entry_is : (initialization : Part) → option_map (λ content. content.initialization) (content_at p s t) ≡ Some initialization
        → IsPrintedOf p s t unit rest → entry_made initialization (segments_left rest) ≡ entry_at p s t
    entry_is initialization begins left = entry_in initialization (content_at p s t) refl begins left

    as_many_in : (initialization : Part) (o : Option Content) → option_map (λ content. content.initialization) o ≡ Some initialization
        → IfSome o (λ content. rest ≡ rest_of content.runs (listed_at p s t) unit) → length (segments_left rest) ≡ length (listed_at p s t)
    as_many_in initialization None begins left = absurd (cc)
    as_many_in initialization (Some content) begins left =
        ap (λ r. length (segments_left r)) left ∙ ap length (all_left content.runs unit (listed_at p s t)) ∙ length-map (listed_at p s t) _

    pub as_many_left : (initialization : Part) → option_map (λ content. content.initialization) (content_at p s t) ≡ Some initialization
        → IsPrintedOf p s t unit rest → length (segments_left rest) ≡ length (listed_at p s t)
    as_many_left initialization begins left = as_many_in initialization (content_at p s t) begins left

    addressed_in : (initialization : Part) (o : Option Content) → option_map (λ content. content.initialization) o ≡ Some initialization
        → IfSome o (λ content. rest ≡ rest_of content.runs (listed_at p s t) unit)
        → IfSome o (λ content. All (λ x. HasAddress content.runs x.times) (printed_timings unit (listed_at p s t))) → AreAddressed rest
    addressed_in initialization None begins left all = absurd (cc)
    addressed_in initialization (Some content) begins left all = rw left all

    pub addressed : (initialization : Part) → option_map (λ content. content.initialization) (content_at p s t) ≡ Some initialization
        → IsPrintedOf p s t unit rest
        → IfSome (content_at p s t) (λ content. All (λ x. HasAddress content.runs x.times) (printed_timings unit (listed_at p s t)))
        → AreAddressed rest
    addressed initialization begins left all = addressed_in initialization (content_at p s t) begins left all

  module _ (unit : ℕ) where
    own_in : (o : Option Content) → content_at p s t ≡ o → All (λ (content : Content). IsAddressed content.runs) p.contents
        → IfSome o (λ content. All (λ x. HasAddress content.runs x.times) (printed_timings unit (listed_at p s t)))
    own_in None is all = tt
    own_in (Some content) is all =
        let own = All-at (λ (content : Content). IsAddressed content.runs) p.contents _ content all is in
        printed_have content.runs (listed_at p s t) (durations_of unit (listed_at p s t))
        (subst (λ (xs : List Timing). All (HasAddress content.runs) xs) (sym (listed_as is))
        (have_addresses content.runs (window_of p s) own))

    -- segments that are addresses have them
    pub own_addresses : All (λ (content : Content). IsAddressed content.runs) p.contents
        → IfSome (content_at p s t) (λ content. All (λ x. HasAddress content.runs x.times) (printed_timings unit (listed_at p s t)))
    own_addresses all = own_in (content_at p s t) refl all
