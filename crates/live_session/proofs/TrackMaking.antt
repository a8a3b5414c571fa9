-- The new segments of a track, section by section, and those of all tracks.
use Rattle.std.proofs.Common.{◌≡◌, ℕ, ◌+◌, ◌-◌, ◌^◌, ◌<◌, ◌≤◌, List, [], ◌∷◌, ◌++◌, map, length, drop, All, Option, sum, Some, None, refl}
use Rattle.std.{proofs.Common.{sym, ◌∙◌, ap, inl, arith, append_assoc}, proofs.lemmas.List.{append-nil, drop_all, map-append}}
use Rattle.std.{proofs.lemmas.List.Elements.{All-nil, All-push}, proofs.lemmas.List.Sums.sum_by-cons, proofs.lemmas.Option.slice_get-get_or}
use Rattle.std.{specs.Prelude.{get_or, slice_get, IfSome}, specs.List.range_with_len, specs.Option.option_map_or}
use Rattle.bridge_io.specs.Firsts.{first_of}
use Rattle.presentation.{specs.declared.fault.PresentationFault.PresentationFault, specs.Counting.refusal, specs.Presented.Presented}
use Rattle.presentation.{specs.Presented.{content_at, listed_at}, specs.declared.parts.Content.Content, proofs.Counts.from_on-first}
use Rattle.live_meaning.{specs.Updates.unit_of, specs.Segments.{Kept, Numbering, Segment, segments_of}, specs.Histories.Common}
use Rattle.live_meaning.{specs.States.{Track, new_count, new_of, new_told}, specs.Refusals.urls_told, proofs.Histories.length-told}
use Rattle.live_judge.{specs.declared.track.LastKept.LastKept, specs.declared.track.LiveTrack.LiveTrack, specs.Faults.of_presentation}
use Rattle.live_judge.{specs.declared.fault.RefreshFault.TheVariants.Memory, specs.Shown.{last_of, track_shown}, proofs.Firsts.rest_at}
use Rattle.live_judge.proofs.New.{none_earlier}
use Rattle.live_session.specs.New.{faults_by, segments_in, IsBegun, joins, new_all, new_among, new_faults_among, new_faults_in}
use Rattle.live_session.{specs.New.{new_faults_of, new_in, numbers_of, shown_by, track_at}, specs.declared.made.MadeTrack.MadeTrack}
use Rattle.live_session.{specs.declared.maker.Maker.Maker, specs.Made.all_made, specs.Growth.{grown, tracks_grown}, specs.Making.AreMade}
use Rattle.live_session.specs.Making.{AreUnmade, IsMadeBehind, IsMakerFor, IsNotMade, IsSectionMakeable, all_kept, first_section, number_of}
use Rattle.live_session.{specs.Written.IsDated, proofs.Addresses.{all_by, first_address, first_mapped, urls_by, urls_of}}
use Rattle.live_session.{proofs.Pushing.grown as pushed_all, proofs.Refusing.{counts_made, some_as, told_as}, proofs.Sections.Stood}
use Rattle.live_session.{proofs.Sections.{joins_next, skip, stands, stands_next}, proofs.Making.{IsOnWay, last_made, segments_told}}
use Rattle.live_session.proofs.Making.{way_begun, way_done, way_next, way_refused, way_segments}

-- ---- from a section on

nothing_of : {X : Type 0} (f : Content → List X) (o : Option Content) → ((content : Content) → f content ≡ []) → option_map_or f o [] ≡ []
nothing_of f None none = refl
nothing_of f (Some content) none = none content

-- none is new before the last one's Period
none_before : (m : Maker) (t s : ℕ) (last : Option LastKept) → s < first_section m.place last
    → (new_in (numbers_of m) (shown_by m) m.place (track_at last) t s ≡ []) ×
    (new_faults_in (shown_by m) m.place (track_at last) t s ≡ [])
none_before m t s None less = absurd (omega arith)
none_before m t s (Some l) less =
    rw (none_earlier (shown_by m) m.place (track_at (Some l)) t s (last_of l) refl (omega arith)) (
      nothing_of (segments_in (numbers_of m) m.place (shown_by m) s []) (content_at (shown_by m) s t) (λ content. refl),
      nothing_of (faults_by s t (length (listed_at (shown_by m) s t)) []) (content_at (shown_by m) s t) (λ content. refl),
    )

-- and the last one lies at most in a section from which on they are new
last_there : (m : Maker) (s : ℕ) (last : Option LastKept) → first_section m.place last ≤ s → IsBegun m.resets (track_at last)
    → IfSome last (λ l. l.place ≤ m.place + s) × IfSome (track_at last).last (λ l. l.section ≤ number_of m s)
last_there m s None least begun = (tt, tt)
last_there m s (Some l) least begun = (omega arith, omega (arith, begun.numbered))

-- ---- a track

module _ (m : Maker) (t : ℕ) (last : Option LastKept) where
  abbrev track : Track
  track = track_at last

  abbrev n : Numbering
  n = numbers_of m

  abbrev p : Presented
  p = shown_by m

  abbrev count : ℕ
  count = length m.presentation.now.sections

  abbrev left_from : ℕ → List Segment
  left_from s = new_among n p m.place track t (range_with_len s (count - s))

  abbrev untold_from : ℕ → List PresentationFault
  untold_from s = new_faults_among p m.place track t (range_with_len s (count - s))

  -- those of the sections before one were made
  pub record TrackSoFar (s : ℕ) (made : List Kept) (before after : ℕ) : Type 0 where
    pub way : IsOnWay (10 ^ m.digits) track.last [] (new_all n p m.place track t) (left_from s) (new_faults_of p m.place track t)
        (untold_from s) made before after
    pub stood : Stood track.last (segments_of made) (number_of m s)

  pub none_yet : (before : ℕ) → TrackSoFar (first_section m.place last) [] before before
  none_yet before = record {
    way = way_begun (10 ^ m.digits) track.last [] _ _ _ _ before
        (skip (new_in n p m.place track t) (first_section m.place last) count (λ s less. (none_before m t s last less).0))
        (skip (new_faults_in p m.place track t) (first_section m.place last) count (λ s less. (none_before m t s last less).1));
    stood = inl refl;
  }

  module _ {s : ℕ} {made : List Kept} {before mid : ℕ} (so_far : TrackSoFar s made before mid) where
    pub track_made : count ≤ s → IsMadeBehind (10 ^ m.digits) track.last (new_all n p m.place track t) (new_faults_of p m.place track t) []
        made before mid
    track_made least = let e : count - s ≡ 0 = omega arith in way_done so_far.way (rw e refl) (rw e refl)

    module _ (less : s < count) where
      abbrev new : List Segment
      new = new_in n p m.place track t s

      left_here : left_from s ≡ new ++ left_from (s + 1)
      left_here = ap (new_among n p m.place track t) (from_on-first s count less)

      untold_here : untold_from s ≡ new_faults_in p m.place track t s ++ untold_from (s + 1)
      untold_here = ap (new_faults_among p m.place track t) (from_on-first s count less)

      -- a section of which a segment has no address
      pub section_refused : (fault : PresentationFault) (after : ℕ)
          → IsNotMade (new_faults_in p m.place track t s) (length new) fault mid after
          → IsNotMade (new_faults_of p m.place track t) (length (new_all n p m.place track t)) fault before after
      section_refused fault after is =
          way_refused so_far.way new (left_from (s + 1)) _ (untold_from (s + 1)) left_here untold_here after fault is

      module _ (least : first_section m.place last ≤ s) (begun : IsBegun m.resets track) where
        pub section_makeable : joins track.last (new_all n p m.place track t) → IsSectionMakeable m s t last made
        section_makeable near = record {
          reached = (last_there m s last least begun).0;
          begun = begun;
          near = joins_next n p m.place t s track (segments_of made) (left_from (s + 1))
              (rw (← way_segments so_far.way, left_here) at near) so_far.stood;
          stands = stands track.last (segments_of made) (number_of m s) so_far.stood;
        }

        pub section_made : (next : List Kept) (after : ℕ)
            → IsMadeBehind (10 ^ m.digits) track.last new (new_faults_in p m.place track t s) made next mid after
            → TrackSoFar (s + 1) next before after
        section_made next after is = record {
          way = way_next so_far.way new (left_from (s + 1)) _ (untold_from (s + 1)) left_here untold_here after next is;
          stood =
              let e : m.place + s + m.resets + 1 ≡ number_of m (s + 1) = omega arith in
              rw (is.made_is, segments_told (10 ^ m.digits) (last_made track.last made) made new, ← e)
              (stands_next n p m.place t s track (segments_of made) (last_there m s last least begun).1 so_far.stood);
        }

-- ---- all tracks

-- what is new of tracks with its durations
abbrev all_told : Common → (t : ℕ) → List Track → List (List Kept)
all_told c t [] = []
all_told c t (track ∷ tracks) = new_told c t track ∷ all_told c (t + 1) tracks

module _ (c : Common) where
  grown_told : (t : ℕ) (tracks : List Track) → grown tracks (all_told c t tracks) ≡ tracks_grown c t tracks
  grown_told t [] = refl
  grown_told t (track ∷ tracks) = rw (pushed_all (unit_of c.terms) track (new_of c t track), grown_told (t + 1) tracks) refl

  told_numbered : (t : ℕ) (tracks : List Track) → sum (map length (all_told c t tracks)) ≡ new_count c t tracks
  told_numbered t [] = refl
  told_numbered t (track ∷ tracks) =
      let first = sum_by-cons (λ (k : ℕ). k) (length (new_told c t track)) (map length (all_told c (t + 1) tracks)) in
      omega (arith, first, length-told (unit_of c.terms) track.last (new_of c t track), told_numbered (t + 1) tracks)

pub wanting : {c : Common} {tracks : List Track} {before after : ℕ} → before ≤ after → after ≤ before + new_count c 0 tracks
    → AreUnmade c tracks Memory before after
wanting least most = record { refused = tt; counted = (least, most) }

module _ (c : Common) (tracks : List LiveTrack) where
  abbrev shown_from : ℕ → List Track
  shown_from t = map track_shown (drop t tracks)

  -- those of the tracks before one were made
  pub record AllSoFar (t : ℕ) (made : List MadeTrack) (before after : ℕ) : Type 0 where
    pub kept : all_kept made ++ all_told c t (shown_from t) ≡ all_told c 0 (map track_shown tracks)
    pub urls : urls_told c c.force 0 (map track_shown tracks) ≡ urls_told c c.force t (shown_from t)
    pub counted : after + new_count c t (shown_from t) ≡ before + new_count c 0 (map track_shown tracks)
    pub least : before ≤ after
    pub dates : All (All IsDated) (all_kept made)

  pub no_track_yet : (before : ℕ) → AllSoFar 0 [] before before
  no_track_yet before = record { kept = refl; urls = refl; counted = refl; least = omega arith; dates = All-nil (All IsDated) }

  module _ (m : Maker) (for : IsMakerFor c m) (t : ℕ) (track : LiveTrack) (within : t < length tracks)
      (is : track ≡ get_or tracks t track) where
    shown_first : shown_from t ≡ track_shown track ∷ shown_from (t + 1)
    shown_first = ap (map track_shown) (rest_at (λ i x. []) tracks t track (slice_get-get_or tracks t track within ∙ ap Some (sym is)))

    abbrev own : List Segment
    own = new_all (numbers_of m) (shown_by m) m.place (track_shown track) t

    all_is : new_of c t (track_shown track) ≡ own
    all_is = all_by c (shown_by m) m.resets m.availability_start m.place for.force for.resets for.start for.places t (track_shown track)

    many_is : new_count c t (shown_from t) ≡ length own + new_count c (t + 1) (shown_from (t + 1))
    many_is = ap (new_count c t) shown_first ∙ ap (λ (xs : List Segment). length xs + new_count c (t + 1) (shown_from (t + 1))) all_is

    urls_are : urls_of c c.force t (track_shown track) ≡ new_faults_of (shown_by m) m.place (track_shown track) t
    urls_are = urls_by c (shown_by m) m.resets m.availability_start m.place for.force for.resets for.start for.places t (track_shown track)

    pub track_next : {made : List MadeTrack} (next : MadeTrack) {before mid after : ℕ} → AllSoFar t made before mid
        → IsMadeBehind (10 ^ m.digits) (track_shown track).last own (new_faults_of (shown_by m) m.place (track_shown track) t) []
        (all_made next.segments.items) mid after
        → AllSoFar (t + 1) (made ++ next ∷ []) before after
    track_next {made} next so_far made_is =
        let rest = all_told c (t + 1) (shown_from (t + 1)) in
        let pushed : all_kept (made ++ next ∷ []) ≡ all_kept made ++ all_made next.segments.items ∷ [] =
        map-append (λ (x : MadeTrack). all_made x.segments.items) made (next ∷ []) in
        let told : all_made next.segments.items ≡ new_told c t (track_shown track) = rw (all_is, ← for.digits) made_is.made_is in
        record {
          kept = rw (pushed, append_assoc (all_kept made) (all_made next.segments.items ∷ []) rest, told) (rw shown_first at so_far.kept);
          urls = rw (so_far.urls, shown_first, urls_are, made_is.none) refl;
          counted = omega (arith, so_far.counted, made_is.counted, many_is);
          least = omega (arith, so_far.least, made_is.counted);
          dates = rw pushed
              (All-push (All IsDated) (all_kept made) (all_made next.segments.items) so_far.dates (made_is.dates (All-nil IsDated)));
        }

    pub track_refused : {made : List MadeTrack} {before mid after : ℕ} {fault : PresentationFault} → AllSoFar t made before mid
        → IsNotMade (new_faults_of (shown_by m) m.place (track_shown track) t) (length own) fault mid after
        → AreUnmade c (map track_shown tracks) (of_presentation fault) before after
    track_refused {made} {before} {mid} {after} {fault} so_far not_made =
        let here = urls_of c c.force t (track_shown track) in
        let first : IfSome (refusal fault) (λ f. slice_get here 0 ≡ Some f) = rw urls_are not_made.refused in
        record {
          refused = told_as fault (λ r. first_of (urls_told c c.force 0 (map track_shown tracks)) ≡ Some r)
              (some_as (refusal fault) _ _ (λ f at. ap first_of (so_far.urls ∙ ap (urls_told c c.force t) shown_first)
              ∙ first_mapped here (urls_told c c.force (t + 1) (shown_from (t + 1))) f at) first);
          counted = counts_made (new_count c 0 (map track_shown tracks)) before after fault (omega (arith, so_far.least, not_made.least))
              (omega (arith, so_far.counted, not_made.most_made, many_is))
              (some_as (refusal fault) _ _ (first_address c c.force t (track_shown track)) first);
        }

  pub tracks_made : {t : ℕ} {made : List MadeTrack} {before after : ℕ} → length tracks ≤ t → AllSoFar t made before after
      → AreMade c (map track_shown tracks) made before after
  tracks_made {t} {made} least so_far =
      let end : shown_from t ≡ [] = ap (map track_shown) (drop_all t tracks least) in
      let kept = rw (end, append-nil (all_kept made)) at so_far.kept in
      record {
        grown_is = ap (grown (map track_shown tracks)) kept ∙ grown_told c 0 (map track_shown tracks);
        urls = so_far.urls ∙ ap (urls_told c c.force t) end;
        numbered = ap (λ ks. sum (map length ks)) kept ∙ told_numbered c 0 (map track_shown tracks);
        dates = so_far.dates;
        counted = omega (arith, so_far.counted, ap (new_count c t) end);
      }
