-- The new segments of a section as they are made one by one, each with the duration that it has behind those before it.
use Rattle.timeline.specs.declared.fault.ListFault.TheVariants as list_fault
use Rattle.std.proofs.Common.{◌≡◌, ℕ, ◌+◌, ◌≤◌, List, [], ◌∷◌, ◌++◌, length, All, Option, Some, None, refl, sym, ◌∙◌, ap, arith}
use Rattle.std.{proofs.Common.{append_assoc, length-append, ◌-◌, map, inl, inr, ◌^◌, Result, Ok, Err, subst}, proofs.lemmas.List.append-nil}
use Rattle.std.{proofs.lemmas.List.{length-map, map-append, nil_from_length}, proofs.lemmas.Bool.{cases_eq, eq-eqb, ne_eqb}}
use Rattle.std.{proofs.Math.Nat.sub-zero, proofs.lemmas.Option.same_Some, proofs.lemmas.List.Elements.All-push, specs.Prelude.slice_get}
use Rattle.std.{specs.Prelude.{IfSome, option_map, IsSome}, specs.Result.result_unwrap_or}
use Rattle.presentation.{specs.declared.fault.PresentationFault.PresentationFault, specs.Counting.refusal}
use Rattle.presentation.{specs.declared.parts.Content.Content, specs.Kept.{printed_left, rounding_at}, specs.Printing.PrintedTiming}
use Rattle.presentation.{specs.Printing.{begin_of, IsCounted, PrintedRest, with_durations}, specs.MeaningLaws.MadeAreMeant}
use Rattle.presentation.{specs.Presented.{Presented, content_at, listed_at, listed_in, start_of, window_of}, specs.Verifying.fault_at}
use Rattle.presentation.specs.Verifying.{part_faults, times_of}
use Rattle.followed.{specs.Durations.{Last, duration_behind, last_behind, last_with, told_behind}, proofs.Sections.goes_on}
use Rattle.live_meaning.specs.Segments.{Kept, Segment, segments_of, Numbering, segment_with}
use Rattle.live_meaning.proofs.Histories.{last_goes_on, told-segments}
use Rattle.live_session.specs.Making.{IsMadeBehind, IsNotMade, StandsBefore, behind_in, IsKeptNext, IsRefused, IsSection, IsSectionMakeable}
use Rattle.live_session.{specs.Making.end_in, specs.Written.IsDated, specs.declared.made.Made.Made, specs.declared.maker.Maker.Maker}
use Rattle.live_session.{specs.declared.maker.Section.Section, specs.Made.{all_made, made_kept}, specs.New.{later_listed, new_faults_in}}
use Rattle.live_session.{specs.New.{new_in, numbers_of, shown_by, track_at}, proofs.Refusing.some_as, proofs.Sections.times_are}
use Rattle.exact_time.{specs.Time.Time, specs.Floor.floor_in, specs.Rounding.{rounding_behind, rounding_from, Rounding, differences}}
use Rattle.exact_time.{specs.Tick.time_of, proofs.Floors.floor_in-difference_self}
use Rattle.timeline.{specs.Expansions.{Timing, SegmentTimeline}, specs.declared.window.Window.Window}
use Rattle.timeline.{specs.declared.fault.ListFault.ListFault, specs.declared.fault.TimeFault.TimeFault, specs.Listed.answered_count}
use Rattle.timeline.{specs.Listed.part_of_timing, specs.Names.list_refusal}
use Rattle.live_judge.{specs.declared.track.LastKept.LastKept, specs.Shown.last_of, proofs.Contents.content_there as runs_there}
use Rattle.url_parts.specs.declared.address.Part.{Part}

pub segments_told : (unit : ℕ) (last : Option Last) (made : List Kept) (new : List Segment)
    → segments_of (made ++ told_behind unit last new) ≡ segments_of made ++ new
segments_told unit last made new =
    map-append (λ (k : Kept). k.segment) made (told_behind unit last new) ∙ ap (λ xs. segments_of made ++ xs) (told-segments unit last new)

-- the last one so far
abbrev pub last_made : Option Last → List Kept → Option Last
last_made last made = last_behind last (segments_of made)

first_stays : (xs ys : List PresentationFault) (f : PresentationFault) → slice_get xs 0 ≡ Some f → slice_get (xs ++ ys) 0 ≡ Some f
first_stays [] ys f first = absurd (cc)
first_stays (x ∷ xs) ys f first = first

-- of all that are to be made behind some these are left, with their faults
pub record IsOnWay (unit : ℕ) (last : Option Last) (old : List Kept) (all left : List Segment) (faults untold : List PresentationFault)
    (made : List Kept) (before after : ℕ) : Type 0 where
  pub kept : made ++ told_behind unit (last_made last made) left ≡ old ++ told_behind unit (last_made last old) all
  pub told : faults ≡ untold
  pub counted : after + length left ≡ before + length all
  pub least : before ≤ after
  pub dates : All IsDated old → All IsDated made

pub way_begun : (unit : ℕ) (last : Option Last) (old : List Kept) (all left : List Segment) (faults untold : List PresentationFault)
    (before : ℕ) → all ≡ left → faults ≡ untold → IsOnWay unit last old all left faults untold old before before
way_begun unit last old all left faults untold before same told = record {
  kept = ap (λ xs. old ++ told_behind unit (last_made last old) xs) (sym same);
  told = told;
  counted = omega (arith, ap (λ (xs : List Segment). length xs) same);
  least = omega arith;
  dates = λ d. d;
}

module _ {unit : ℕ} {last : Option Last} {old : List Kept} {all left : List Segment} {faults untold : List PresentationFault}
    {made : List Kept} {before mid : ℕ} (way : IsOnWay unit last old all left faults untold made before mid) where
  pub way_done : left ≡ [] → untold ≡ [] → IsMadeBehind unit last all faults old made before mid
  way_done none told = record {
    made_is = sym (append-nil made) ∙ ap (λ xs. made ++ told_behind unit (last_made last made) xs) (sym none) ∙ way.kept;
    none = way.told ∙ told;
    dates = way.dates;
    counted = omega (arith, way.counted, ap (λ (xs : List Segment). length xs) none);
  }

  pub way_segments : segments_of made ++ left ≡ segments_of old ++ all
  way_segments =
      sym (segments_told unit (last_made last made) made left) ∙ ap segments_of way.kept ∙ segments_told unit (last_made last old) old all

  -- a part of what is left
  module _ (new later : List Segment) (own others : List PresentationFault) (parts : left ≡ new ++ later) (told : untold ≡ own ++ others)
      (after : ℕ) where
    pub way_next : (next : List Kept) → IsMadeBehind unit last new own made next mid after
        → IsOnWay unit last old all later faults others next before after
    way_next next is =
        let l : Option Last = last_made last made in
        record {
          kept = rw (
            is.made_is,
            segments_told unit l made new,
            last_goes_on last (segments_of made) new,
            append_assoc made (told_behind unit l new) (told_behind unit (last_behind l new) later),
            ← goes_on unit l new later,
            ← parts,
          ) way.kept;
          told = way.told ∙ told ∙ ap (λ fs. fs ++ others) is.none;
          counted = omega (arith, way.counted, is.counted, ap (λ (xs : List Segment). length xs) parts, length-append new later);
          least = omega (arith, way.least, is.counted);
          dates = λ d. is.dates (way.dates d);
        }

    pub way_refused : (fault : PresentationFault) → IsNotMade own (length new) fault mid after
        → IsNotMade faults (length all) fault before after
    way_refused fault is = record {
      refused = rw (way.told, told) (some_as (refusal fault) _ _ (first_stays own others) is.refused);
      least = omega (arith, way.least, is.least);
      most_made = omega (arith, way.counted, is.most_made, length-append new later, ap (λ (xs : List Segment). length xs) parts);
    }

module _ (n : Numbering) (place start : ℕ) (content : Content) where
  abbrev pub segment_at : Timing → Segment
  segment_at x = segment_with n place start content x

  -- a segment with the duration that is printed of it
  abbrev pub kept_at : PrintedTiming → Kept
  kept_at x = record { segment = segment_at x.times; duration = x.duration }

  -- behind a segment of the section
  told_on : (unit : ℕ) (first former : Time) (xs : List Timing)
      → map kept_at (printed_left xs (rounding_behind first unit former))
      ≡ told_behind unit (Some (record { section = place + n.resets; first = first; end = former })) (map segment_at xs)
  told_on unit first former [] = refl
  told_on unit first former (x ∷ xs) =
      rw (eq-eqb (place + n.resets) (place + n.resets) refl, told_on unit first x.end xs) refl

  -- what begins a section
  told_first : (unit : ℕ) (last : Option Last) (xs : List Timing) → IfSome last (λ l. l.section ≡ place + n.resets → ⊥)
      → map kept_at (printed_left xs (rounding_from (begin_of xs) unit)) ≡ told_behind unit last (map segment_at xs)
  told_first unit last [] other = refl
  told_first unit None (x ∷ xs) other = rw (floor_in-difference_self unit x.start, sub-zero, told_on unit x.start x.end xs) refl
  told_first unit (Some l) (x ∷ xs) other =
      rw (floor_in-difference_self unit x.start, sub-zero, told_on unit x.start x.end xs, ne_eqb l.section (place + n.resets) other) refl

  -- behind what was made so far
  pub told_there : (unit : ℕ) (kept : Option LastKept) (last : Option Last) (xs : List Timing)
      → StandsBefore (option_map last_of kept) last (place + n.resets)
      → map kept_at (printed_left xs (rounding_at (behind_in (place + n.resets) kept) unit xs)) ≡ told_behind unit last (map segment_at xs)
  told_there unit None last xs (inl same) = told_first unit last xs (rw same tt)
  told_there unit None last xs (inr (below, _)) =
      told_first unit last xs (some_as last _ _ (λ l less same. absurd (omega (arith, less, same))) below)
  told_there unit (Some k) last xs (inl same) = elim (cases_eq k.section (place + n.resets)) [
    | inl here ↦ rw (eq-eqb k.section (place + n.resets) here, same, here) (told_on unit (time_of k.begin) (time_of k.end) xs)
    | inr other ↦ rw (ne_eqb k.section (place + n.resets) other) (told_first unit last xs (rw same other))
  ]
  told_there unit (Some k) last xs (inr (below, under)) =
      rw (ne_eqb k.section (place + n.resets) (λ e. omega arith))
      (told_first unit last xs (some_as last _ _ (λ l less same. absurd (omega (arith, less, same))) below))

-- ---- what is there

-- by what names its segments, and what initializes them
pub content_there : (o : Option Content) (runs : SegmentTimeline) (map : Part)
    → option_map (λ (content : Content). content.runs) o ≡ Some runs
    → option_map (λ (content : Content). content.initialization) o ≡ Some map → o ≡ Some (record { initialization = map; runs = runs })
content_there None runs map own first = absurd (cc)
content_there (Some content) runs map own first = rw (← same_Some _ _ own, ← same_Some _ _ first) refl

times_with : (xs : List Timing) (n : ℕ) (floor : Timing → ℕ) → times_of (with_durations xs (differences n (map floor xs))) ≡ xs
times_with [] n floor = refl
times_with (x ∷ xs) n floor = ap (λ ys. x ∷ ys) (times_with xs (floor x) floor)

-- the times of what is left
pub times_left : (xs : List Timing) (r : Rounding) → times_of (printed_left xs r) ≡ xs
times_left xs r = times_with xs _ _

refused_first : (timeline : SegmentTimeline) (s t k : ℕ) (fault : ListFault) (left : List PrintedTiming) (faults : List PresentationFault)
    → faults ≡ part_faults timeline s t k (times_of left)
    → IfSome (list_refusal fault)
    (λ f. IsSome (slice_get left 0) × IfSome (slice_get left 0) (λ x. part_of_timing timeline x.times ≡ Err f))
    → IfSome (refusal (fault_at s t k fault)) (λ f. slice_get faults 0 ≡ Some f)
refused_first timeline s t k list_fault.Memory left faults same refused = tt
refused_first timeline s t k (list_fault.Url fault) [] faults same (some, refused) = absurd (cc)
refused_first timeline s t k (list_fault.Url fault) (x ∷ xs) faults same (some, refused) = rw (same, refused) refl

-- ---- what holds as they are made

module _ (m : Maker) (s t : ℕ) (last : Option LastKept) (content : Content) where
  abbrev unit : ℕ
  unit = 10 ^ m.digits

  abbrev at : PrintedTiming → Kept
  at = kept_at (numbers_of m) (m.place + s) (start_of (shown_by m) s) content

  abbrev segments : List PrintedTiming → List Segment
  segments xs = map (segment_at (numbers_of m) (m.place + s) (start_of (shown_by m) s) content) (times_of xs)

  abbrev the_new : List Segment
  the_new = new_in (numbers_of m) (shown_by m) m.place (track_at last) t s

  abbrev the_faults : List PresentationFault
  the_faults = new_faults_in (shown_by m) m.place (track_at last) t s

  -- so many segments of a section were made behind others, and these are left
  pub record SoFar (listed : ℕ) (old made : List Kept) (left : PrintedRest) (k before after : ℕ) : Type 0 where
    pub timeline : left.timeline ≡ content.runs
    pub printed : map at left.left ≡ told_behind unit (last_made (track_at last).last made) (segments left.left)
    pub way : IsOnWay unit (track_at last).last old the_new (segments left.left) the_faults
        (part_faults content.runs s t (listed + k) (times_of left.left)) made before after
    pub counted : after ≡ before + k

  module _ (is : content_at (shown_by m) s t ≡ Some content) where
    abbrev xs : List Timing
    xs = later_listed (end_in (m.place + s) last) (listed_at (shown_by m) s t)

    new_is : IfSome last (λ l. l.place ≤ m.place + s)
        → the_new ≡ map (segment_at (numbers_of m) (m.place + s) (start_of (shown_by m) s) content) xs
    new_is reached = rw (times_are (shown_by m) m.place t s last reached, is) refl

    pub begun : (old : List Kept) (section : Section) (before : ℕ) → IsSectionMakeable m s t last old → IsSection m s t last section
        → section.segments.timeline ≡ content.runs → SoFar section.before old old section.segments 0 before before
    begun old section before can sec runs =
        let times : times_of section.segments.left ≡ xs = ap (λ (q : PrintedRest). times_of q.left) sec.left ∙ times_left xs _ in
        let skipped : length (listed_at (shown_by m) s t) - length xs ≡ section.before + 0 = omega (arith, sec.before, sec.count) in
        record {
          timeline = runs;
          printed = rw (times, sec.left) (told_there (numbers_of m) (m.place + s) (start_of (shown_by m) s) content unit last
              (last_made (track_at last).last old) xs can.stands);
          way = rw times (way_begun unit (track_at last).last old the_new _ the_faults _ before (new_is can.reached)
              (rw (← skipped, times_are (shown_by m) m.place t s last can.reached, is) refl));
          counted = omega arith;
        }

    -- none is left where as many were made as are new
    pub all_there : (old made : List Kept) (section : Section) (left : PrintedRest) (k before after : ℕ) → IsSectionMakeable m s t last old
        → IsSection m s t last section → SoFar section.before old made left k before after → section.count ≤ k → left.left ≡ []
    all_there old made section left k before after can sec so_far least =
        let segment : Timing → Segment = segment_at (numbers_of m) (m.place + s) (start_of (shown_by m) s) content in
        let all = ap (λ (ys : List Segment). length ys) (new_is can.reached) ∙ length-map xs segment in
        let rest = length-map (times_of left.left) segment ∙ length-map left.left (λ (x : PrintedTiming). x.times) in
        nil_from_length left.left (omega (arith, so_far.counted, so_far.way.counted, sec.count))

  module _ {listed : ℕ} {old made : List Kept} {left : PrintedRest} {k before mid : ℕ}
      (so_far : SoFar listed old made left k before mid) where
    pub all_done : left.left ≡ [] → IsMadeBehind unit (track_at last).last the_new the_faults old made before mid
    all_done none = way_done so_far.way (rw none refl) (rw none refl)

    -- the next one has no address, or memory was wanting
    pub not_made : (fault : ListFault) (after : ℕ) → IsRefused left mid after fault
        → IsNotMade the_faults (length the_new) (fault_at s t (listed + k) fault) before after
    not_made fault after refused = record {
      refused = refused_first content.runs s t (listed + k) fault _ _ so_far.way.told (rw so_far.timeline at refused.refused);
      least = omega (arith, so_far.way.least, refused.counted);
      most_made = omega (arith, so_far.way.counted, refused.counted);
    }

pub next_made : (meant : MadeAreMeant) (m : Maker) (s t : ℕ) (last : Option LastKept) (content : Content) {listed : ℕ} {old : List Kept}
    (made : List Made) {left new : PrintedRest} {k before mid after : ℕ} (next : Made)
    → SoFar m s t last content listed old (all_made made) left k before mid → IsKeptNext m s content.initialization left new mid after next
    → SoFar m s t last content listed old (all_made (made ++ next ∷ [])) new (k + 1) before after
next_made meant m s t last content {listed} {old} made {left} {new} {k} {before} {mid} {after} next so_far is =
    let u : ℕ = 10 ^ m.digits in
    let start = start_of (shown_by m) s in
    let at : PrintedTiming → Kept = kept_at (numbers_of m) (m.place + s) start content in
    let segment : Timing → Segment = segment_at (numbers_of m) (m.place + s) start content in
    let x : PrintedTiming = record { times = is.times; duration = is.duration } in
    let l : Option Last = last_made (track_at last).last (all_made made) in
    let later : List Segment = map segment (times_of new.left) in
    let whole : at x ∷ map at new.left
    ≡ record { segment = segment is.times; duration = duration_behind u l (segment is.times) }
    ∷ told_behind u (Some (last_with l (segment is.times))) later =
    ap (map at) (sym is.next) ∙ so_far.printed ∙ ap (λ ys. told_behind u l (map segment (times_of ys))) is.next in
    let first : at x ≡ record { segment = segment is.times; duration = duration_behind u l (segment is.times) } = cc in
    let rest : map at new.left ≡ told_behind u (Some (last_with l (segment is.times))) later = cc in
    let kept_is : made_kept next ≡ at x = is.kept ∙ rw (meant left.timeline is.times is.part is.has, so_far.timeline) refl in
    let pushed : all_made (made ++ next ∷ []) ≡ all_made made ++ at x ∷ [] = rw (map-append made_kept made (next ∷ []), kept_is) refl in
    let one : IsMadeBehind u (track_at last).last (segment is.times ∷ []) [] (all_made made) (all_made (made ++ next ∷ [])) mid after =
    record {
      made_is = pushed ∙ ap (λ q. all_made made ++ q ∷ []) first;
      none = refl;
      dates = λ d. rw pushed (All-push IsDated (all_made made) (at x) d (subst IsDated kept_is is.writable));
      counted = omega (arith, is.counted);
    } in
    let told : part_faults content.runs s t (listed + k) (times_of left.left)
    ≡ [] ++ part_faults content.runs s t (listed + (k + 1)) (times_of new.left) =
    (let has : part_of_timing content.runs is.times ≡ Ok is.part = rw (← so_far.timeline) is.has in
    let e : listed + k + 1 ≡ listed + (k + 1) = omega arith in rw (is.next, has, e) refl) in
    record {
      timeline = is.timeline ∙ so_far.timeline;
      printed = rw (
        one.made_is,
        segments_told u l (all_made made) (segment is.times ∷ []),
        last_goes_on (track_at last).last (segments_of (all_made made)) (segment is.times ∷ []),
      ) rest;
      way = way_next so_far.way (segment is.times ∷ []) later [] _ (rw is.next refl) told after (all_made (made ++ next ∷ [])) one;
      counted = omega (arith, so_far.counted, is.counted);
    }

-- how many are listed, and which
module _ (p : Presented) (s t : ℕ) (runs : SegmentTimeline) (window : Window)
    (there : option_map (λ (content : Content). content.runs) (content_at p s t) ≡ Some runs) (is : window ≡ window_of p s) where
  pub listed_there : listed_in window runs ≡ listed_at p s t
  listed_there = let has = runs_there (content_at p s t) runs there in rw (is, has.1, has.2) refl

  pub counted_there : (r : Result ℕ TimeFault) → IsCounted p s t → r ≡ answered_count runs window
      → result_unwrap_or r 0 ≡ length (listed_in window runs)
  counted_there r counted answer =
      let has = runs_there (content_at p s t) runs there in
      let reached = rw (has.1, has.2) at counted in rw (answer, is, reached) refl
