-- A first MPD: why it is refused, what it appends, and the session that it begins.
use Rattle.presentation.specs.declared.fault.PresentationFault.TheVariants as presented
use Rattle.live_judge.specs.declared.fault.RefreshFault.TheVariants as faults
use Rattle.std.proofs.Common.{◌≡◌, ℕ, zero, suc, ◌+◌, ◌-◌, ◌≤◌, ◌<◌, ℤ, Bool, true, false, not, nat_lt, ◌==◌, ◌&&◌, List, [], ◌∷◌, ◌++◌}
use Rattle.std.proofs.Common.{map, flat_map, filter, length, sum, All, Option, Some, None, Result, Ok, Err, refl, sym, ◌∙◌, ap, subst}
use Rattle.std.proofs.{Common.{arith, pos, replicate}, lemmas.Bool.{le-ltb, lt-ltb, ltb-false, or_parts}}
use Rattle.std.proofs.{lemmas.List.Concat.length-flat_map, lemmas.List.Elements.{All-nil, All-cons, All-append, All-head, All-replicate}}
use Rattle.std.proofs.{lemmas.List.Sums.{sum-map, sum_by-cons}, lemmas.List.{length-map, map-append}, lemmas.List.FromFn.fill_by_all}
use Rattle.std.proofs.{lemmas.Option.get_or_from_slice_get, lemmas.Simd.map-map}
use Rattle.std.specs.{Prelude.{IfSome, replicate, sum_by, if◌then◌else◌, option_map, slice_get, unwrap_or}, List.range_with_len}
use Rattle.std.specs.Option.{option_map_or}
use Rattle.bridge_io.specs.Firsts.{first_of}
use Rattle.timeline.specs.{Expansions.Timing, declared.fault.TimeFault.TimeFault, declared.window.Window.Window}
use Rattle.timeline.specs.Listed.{IsReached, answered_count}
use Rattle.presentation.specs.{declared.fault.PresentationFault.PresentationFault, declared.parts.Content.Content}
use Rattle.presentation.specs.Counting.{count_at, count_faults, count_of_all, count_of_track, counted, faults_of_count, is_over}
use Rattle.presentation.specs.Counting.{limit_faults, listed_count, number_in, place_at, refusal, section_faults, sections_of}
use Rattle.presentation.specs.Counting.{track_faults, tracks_of, unless_any, whole_track_faults}
use Rattle.presentation.specs.Presented.{Presented, content_at, is_finished, listed_at, listed_in, window_of, looked_at}
use Rattle.presentation.specs.{Printing.IsCounted, Verifying.{part_faults, url_faults, url_faults_at, url_faults_of}}
use Rattle.mpd_presentation.specs.{Told.presented_of, PresentedLaws.{PresentedAreFew, PresentedAreFollowed, SectionsArePeriods}}
use Rattle.presentation.proofs.{Reached.{all_reached, none_later, none_first}, Grids.All-at}
use Rattle.mpd_presentation.proofs.Ending.{none_behind}
use Rattle.live_meaning.specs.{Updates.{Terms, Values, unit_of, Refresh}, Segments.{Segment, listed_of, listed_in_period, id_at}}
use Rattle.live_meaning.specs.States.{Track, new_count, shown, track_of}
use Rattle.live_meaning.specs.Histories.{Common, begun_common, begun_past, begun_with, numbering_of, availability_start_of}
use Rattle.live_meaning.specs.Refusals.{Presentation, Refusal, Window as Windowed, begun_of, counts_listed, first_appended_by}
use Rattle.live_meaning.specs.Refusals.{first_refusal_of, first_told_by, over_in_all, over_in_track, told_if, urls_in, urls_told}
use Rattle.live_meaning.specs.{Refusals.{window_told, NotDynamic, ids_in}, Known.{Known, ids_of, known_at, known_with, periods_of}}
use Rattle.live_meaning.specs.{Playlists.{item_of, playlist_with}, Laws.{HistoriesBegin, NeverEmpty, NumbersStaySmall, Shows}}
use Rattle.live_meaning.proofs.{Histories.{negated, none_mapped, told_none}, Accepted.id_there, Playlists.few_known}
use Rattle.live_judge.specs.{declared.fault.RefreshFault.RefreshFault, Faults.{Tells, of_presentation, told}}
use Rattle.live_judge.specs.{declared.standing.Standing.Standing, Known.StandsAt, declared.track.LiveTrack.LiveTrack}
use Rattle.live_judge.specs.{FirstStates.FirstStatesAreSound, Shown.{common_shown, in_force, state_shown, track_shown}}
use Rattle.live_judge.specs.SoundGoesOn.{IsKept, NumbersFit}
use Rattle.live_judge.proofs.Firsts.{IsNoneBefore, first_here, none_at_all, none_here, none_told, none_yet, told_first}
use Rattle.live_judge.proofs.{FirstStates.all_new, Places.place_there}
use Rattle.live_session.specs.Begun.{IsUnbegun, empty_tracks, first_judged, AreFirst, IsBegunBy, IsFirst, IsFirstMpd, IsFirstStanding}
use Rattle.live_session.specs.{Growth.{tracks_grown, grown}, Kept.{empty_track, AreSideBySide}}
use Rattle.live_session.specs.{Making.{AreUnmade, AreMade, IsMakeable, all_kept}, Sessions.{CountsRefused, IsSession}}
use Rattle.live_session.specs.{declared.made.MadeTrack.MadeTrack, declared.maker.Maker.Maker, New.{joins, new_all, numbers_of, shown_by}}
use Rattle.live_session.specs.Written.{AreDated, IsDated}
use Rattle.live_session.proofs.{Addresses.{all_flat, same_over, urls_make}, Refusing.{some_as, told_as}, Sections.filter_all}
use Rattle.live_session.proofs.{Accepting.grown_dated, Growing.{at_all, mapped_at}, Presenting.looked_same}
use Rattle.mpd_rules.specs.Laws.{HaveIdsOnce, are_once}

-- ---- faults of counts

abbrev IsTold : PresentationFault → Type 0
IsTold fault = refusal fault ≡ Some fault

all_if : (P : PresentationFault → Type 0) (b : Bool) (fault : PresentationFault) → P fault → All P (if b then fault ∷ [] else [])
all_if P true fault is = All-cons P fault [] is (All-nil P)
all_if P false fault is = All-nil P

section_told : (p : Presented) (t s : ℕ) (r : Result ℕ TimeFault) → All IsTold (faults_of_count (is_finished p) t s (place_at p t s) r)
section_told p t s (Ok n) = all_if IsTold (is_finished p && n == 0) (presented.NoSegments s t) refl
section_told p t s (Err fault) = All-cons IsTold (presented.Timeline fault (place_at p t s)) [] refl (All-nil IsTold)

counts_told : (p : Presented) → All IsTold (count_faults p)
counts_told p =
    All-append IsTold _ (limit_faults (is_over p)) (all_flat IsTold (track_faults p) (tracks_of p)
    (λ t. All-append IsTold _ (whole_track_faults p t)
    (all_flat IsTold (section_faults p t) (sections_of p) (λ s. section_told p t s (count_at p t s)))
    (all_if IsTold (not (is_finished p) && count_of_track p t == 0) (presented.NoSegments 0 t) refl)))
    (all_if IsTold (is_over p) presented.Limit refl)

tells_first : (fs : List PresentationFault) (n : ℕ) (fault : PresentationFault) → All IsTold fs → unless_any fs n ≡ Err fault
    → Tells (faults.Presentation fault) (map Presentation fs)
tells_first [] n fault all is = absurd (cc)
tells_first (f ∷ fs) n fault all is =
    let known = All-head IsTold f fs all in let same : f ≡ fault = cc in rw (← same, known) (refl, refl)

pub count_refused : (p : Presented) (fault : PresentationFault) → counted p ≡ Err fault
    → Tells (faults.Presentation fault) (map Presentation (count_faults p))
unfolding counted
count_refused p fault is = tells_first (count_faults p) (count_of_all p) fault (counts_told p) is

none_by : (fs : List PresentationFault) (n m : ℕ) → unless_any fs n ≡ Ok m → fs ≡ []
none_by [] n m is = refl
none_by (f ∷ fs) n m is = absurd (cc)

pub count_none : (p : Presented) (n : ℕ) → counted p ≡ Ok n → count_faults p ≡ []
unfolding counted
count_none p n is = none_by (count_faults p) (count_of_all p) n is

pub counted_by : (p : Presented) → count_faults p ≡ [] → counted p ≡ Ok (count_of_all p)
unfolding counted
counted_by p none = rw none refl

-- ---- counts

content_many : (o : Option Content) (window : Window) → IfSome o (λ content. IsReached content.runs window)
    → number_in (option_map_or (λ content. answered_count content.runs window) o (Ok 0))
    ≡ length (option_map_or (λ content. listed_in window content.runs) o [])
content_many None window reached = refl
content_many (Some content) window reached = rw reached refl

abbrev pub many : Presented → ℕ → ℕ
many p t = length (flat_map (λ s. listed_at p s t) (sections_of p))

sums_alike : (f g : ℕ → ℕ) (a n : ℕ) → ((s : ℕ) → a ≤ s → s < a + n → f s ≡ g s)
    → sum_by f (range_with_len a n) ≡ sum_by g (range_with_len a n)
sums_alike f g a zero same = refl
sums_alike f g a (suc n) same =
    let here = same a (omega arith) (omega arith) in
    let rest = sums_alike f g (a + 1) n (λ s least less. same s (omega arith) (omega arith)) in
    omega (arith, sum_by-cons f a (range_with_len (a + 1) n), sum_by-cons g a (range_with_len (a + 1) n))

module _ (p : Presented) (none : count_faults p ≡ []) where
  pub reached : (s t : ℕ) → s < length p.sections → t < length p.tracks → IsCounted p s t
  reached s t in_sections in_tracks = all_reached p none t in_tracks s in_sections

  all_many : count_of_all p ≡ sum_by (many p) (tracks_of p)
  all_many = sums_alike _ _ 0 (length p.tracks) (λ t _ less. sums_alike (listed_count p t) _ 0 (length p.sections)
      (λ s _ within. content_many (content_at p s t) (window_of p s) (reached s t (omega (arith, within)) (omega (arith, less))))
      ∙ sym (length-flat_map (λ s. listed_at p s t) (sections_of p)))

-- ---- limits

within_all : (f : ℕ → ℕ) (a n total : ℕ) → total + sum_by f (range_with_len a n) ≤ 500000
    → over_in_all a total (map f (range_with_len a n)) ≡ []
within_all f a zero total le = refl
within_all f a (suc n) total le =
    let parts = sum_by-cons f a (range_with_len (a + 1) n) in
    rw (le-ltb 500000 (total + f a) (omega (arith, parts))) (within_all f (a + 1) n (total + f a) (omega (arith, parts)))

never_over : (b : Bool) → limit_faults b ≡ [] → b ≡ false
never_over true none = absurd (cc)
never_over false none = refl

pub all_within : (p : Presented) → count_faults p ≡ [] → over_in_all 0 0 (counts_listed p) ≡ []
all_within p none =
    let over : is_over p ≡ false = never_over (is_over p) (none_later (flat_map (track_faults p) (tracks_of p)) _ none) in
    let few : count_of_all p ≤ 500000 = ltb-false 500000 (count_of_all p) (or_parts _ _ over).1 in
    within_all (many p) 0 (length p.tracks) 0 (omega (arith, few, all_many p none))

-- where a track has too many
abbrev pub over_at : Presented → ℕ → List Refusal
over_at p t = told_if (nat_lt 20000 (many p t)) (Windowed t (many p t))

over_all : (p : Presented) (a n : ℕ) → over_in_track a (map (many p) (range_with_len a n)) ≡ flat_map (over_at p) (range_with_len a n)
over_all p a zero = refl
over_all p a (suc n) = ap (λ rs. over_at p a ++ rs) (over_all p (a + 1) n)

pub few_here : (p : Presented) (t : ℕ) → many p t ≤ 20000 → over_at p t ≡ []
few_here p t few = rw (le-ltb 20000 (many p t) few) refl

pub many_told : (p : Presented) (t count : ℕ) → t < length p.tracks → IsNoneBefore (over_at p) (length p.tracks) t → count ≡ many p t
    → 20000 < count → Tells (faults.Window t count) (window_told (counts_listed p))
many_told p t count less before is over =
    told_first (faults.Window t count) (over_in_track 0 (counts_listed p)) _ (rw (over_all p 0 (length p.tracks))
    (first_here (over_at p) (length p.tracks) t (faults.Window t count) less before
    (rw (is, lt-ltb 20000 (many p t) (omega (arith, is, over))) (refl, refl))))

pub none_too_many : (p : Presented) (t : ℕ) → count_faults p ≡ [] → t ≡ length p.tracks → IsNoneBefore (over_at p) (length p.tracks) t
    → window_told (counts_listed p) ≡ []
none_too_many p t none end before =
    none_told _ _ (over_all p 0 (length p.tracks) ∙ none_at_all (over_at p) (length p.tracks) t end before) (all_within p none)

pub ruleset within_window = (none_yet, none_here, few_here, none_too_many)

-- ---- tracks of which nothing was listed

filtered_none : (s t : ℕ) (xs : List Timing) (o : Option Content)
    → option_map_or (λ content. part_faults content.runs s t (length xs - length (filter (λ (x : Timing). true) xs))
    (filter (λ x. true) xs)) o []
    ≡ option_map_or (λ content. part_faults content.runs s t 0 xs) o []
filtered_none s t xs None = refl
filtered_none s t xs (Some content) = let none : length xs - length xs ≡ 0 = omega arith in rw (filter_all xs, none) refl

made_many : (make : Content → Timing → Segment) (list : Content → List Timing) (o : Option Content)
    → length (option_map_or (λ content. map (make content) (option_map_or list o [])) o []) ≡ length (option_map_or list o [])
made_many make list None = refl
made_many make list (Some content) = length-map (list content) (make content)

module _ (c : Common) where
  pub first_urls : (a n : ℕ) → urls_told c c.force a (replicate n empty_track)
      ≡ map Presentation (flat_map (url_faults_of c.force) (range_with_len a n))
  first_urls a zero = refl
  first_urls a (suc n) =
      rw (
        same_over (urls_in c c.force a empty_track) (url_faults_at c.force a) 0 (length c.force.sections)
            (λ s low high. filtered_none s a (listed_at c.force s a) (content_at c.force s a)),
        first_urls (a + 1) n,
      )
      (sym (map-append Presentation (url_faults_of c.force a) (flat_map (url_faults_of c.force) (range_with_len (a + 1) n))))

  listed_all : (t : ℕ) → length (listed_of (numbering_of c) c.force t) ≡ many c.force t
  listed_all t =
      length-flat_map (listed_in_period (numbering_of c) c.force t) (sections_of c.force) ∙ sums_alike _ _ 0 (length c.force.sections)
      (λ s _ _. made_many _ (λ content. listed_in (window_of c.force s) content.runs) (content_at c.force s t))
      ∙ sym (length-flat_map (λ s. listed_at c.force s t) (sections_of c.force))

  pub first_count : (a n : ℕ) → new_count c a (replicate n empty_track) ≡ sum_by (many c.force) (range_with_len a n)
  first_count a zero = refl
  first_count a (suc n) = omega (arith, listed_all a, first_count (a + 1) n, sum_by-cons (many c.force) a (range_with_len (a + 1) n))

  pub first_grown : (a n : ℕ)
      → tracks_grown c a (replicate n empty_track) ≡ map (track_of (unit_of c.terms)) (map (begun_past c) (range_with_len a n))
  first_grown a zero = refl
  first_grown a (suc n) = ap (λ (ts : List Track). track_of (unit_of c.terms) (begun_past c a) ∷ ts) (first_grown (a + 1) n)

-- ---- why a first MPD is refused

module _ (terms : Terms) (mpd : Values) (now : ℤ) where
  begun_refused : (o : Option Refusal) → first_refusal_of terms mpd now ≡ o → IfSome o (λ r. begun_of terms mpd now ≡ Err r)
  unfolding begun_of
  begun_refused None is = tt
  begun_refused (Some r) is = rw is refl

  -- by its presentation
  pub refused_presented : (e : PresentationFault) → IfSome (refusal e) (λ f. presented_of mpd terms.url (Some now) ≡ Err f)
      → IfSome (told (of_presentation e)) (λ r. begun_of terms mpd now ≡ Err r)
  unfolding first_refusal_of
  refused_presented e refused =
      told_as e (λ r. begun_of terms mpd now ≡ Err r)
      (some_as (refusal e) _ _ (λ f is. begun_refused (Some (Presentation f)) (ap (λ r. first_of (first_told_by mpd r)) is)) refused)

  module _ (p : Presented) (made : presented_of mpd terms.url (Some now) ≡ Ok p) where
    abbrev common : Common
    common = begun_common terms mpd now p

    refusal_is : first_refusal_of terms mpd now ≡ first_of (first_judged mpd p ++ map Presentation (url_faults p))
    unfolding first_refusal_of
    refusal_is = ap (λ r. first_of (first_told_by mpd r)) made

    -- by a rule before that on addresses
    pub refused_judged : (e : RefreshFault) → Tells e (first_judged mpd p) → IfSome (told e) (λ r. begun_of terms mpd now ≡ Err r)
    refused_judged e tells =
        begun_refused (told e) (refusal_is ∙ (told_first e (first_judged mpd p) (map Presentation (url_faults p)) tells).0)

    module _ (none : first_judged mpd p ≡ []) where
      refusal_left : first_refusal_of terms mpd now ≡ first_of (urls_told common p 0 (empty_tracks p))
      refusal_left = rw (refusal_is, none, first_urls common 0 (length p.tracks)) refl

      pub appended : first_appended_by terms mpd now ≡ new_count common 0 (empty_tracks p)
      unfolding first_appended_by
      appended =
          rw (made, refusal_left, urls_make common p 0 (empty_tracks p), first_count common 0 (length p.tracks))
          (sum-map (many p) (tracks_of p))

      -- by that
      pub refused_made : (e : RefreshFault) (before after : ℕ) → AreUnmade common (empty_tracks p) e before after
          → IsUnbegun terms mpd now e before after
      refused_made e before after is = record {
        refused = some_as (told e) _ _ (λ r first. begun_refused (Some r) (refusal_left ∙ first)) is.refused;
        counted = subst (λ n. CountsRefused n before after e) (sym appended) is.counted;
      }

      pub gives_begun : urls_told common p 0 (empty_tracks p) ≡ [] → begun_of terms mpd now ≡ Ok (shown (begun_with common))
      unfolding begun_of
      gives_begun urls = rw (refusal_left, urls, made) refl

-- ---- tracks of which nothing was listed

pub empty_makeable : {m : Maker} (tracks : List LiveTrack) (n : ℕ) → map track_shown tracks ≡ replicate n empty_track
    → All AreSideBySide tracks → (t : ℕ) (track : LiveTrack) → slice_get tracks t ≡ Some track → IsMakeable m t track
empty_makeable {m} tracks n is paired t track at =
    let shown : track_shown track ≡ empty_track = All-at (λ x. x ≡ empty_track) (map track_shown tracks) t (track_shown track)
    (rw is (All-replicate (λ x. x ≡ empty_track) n empty_track refl)) (mapped_at track_shown tracks t track at) in
    record {
      paired = All-at AreSideBySide tracks t track paired at;
      begun = rw shown (record { begun = tt; numbered = tt });
      near = subst (λ (x : Track). joins x.last (new_all (numbers_of m) (shown_by m) m.place x t)) (sym shown) tt;
    }

pub first_slice : (c : Common) (p : Presented) (now : ℤ) (slice tracks : List LiveTrack) (count : ℕ) → slice ≡ tracks
    → map track_shown tracks ≡ replicate count empty_track → count ≡ length p.tracks → looked_at now p ≡ c.force
    → map track_shown slice ≡ empty_tracks c.force
first_slice c p now slice tracks count same is many force = rw (same, is, many, ← force) refl

pub first_are : (c : Common) (slice room final : List LiveTrack) (made : List MadeTrack) (before after : ℕ)
    → map track_shown slice ≡ empty_tracks c.force → map track_shown room ≡ map track_shown slice
    → map track_shown final ≡ grown (map track_shown room) (all_kept made) → All AreSideBySide final
    → AreMade c (map track_shown slice) made before after → AreFirst c final before after
first_are c slice room final made before after empty same last paired is =
    let own = rw empty at is in
    let shown : map track_shown final ≡ grown (empty_tracks c.force) (all_kept made) = rw (last, same, empty) refl in
    record {
      shown = shown ∙ own.grown_is;
      paired = paired;
      dated = rw shown (grown_dated (empty_tracks c.force) (all_kept made)
          (All-replicate AreDated (length c.force.tracks) empty_track (All-nil IsDated)) own.dates);
      urls = own.urls;
      counted = own.counted;
    }

-- ---- what stands beside them

pub first_known : (p : Presented) (known news : List Known) → known ≡ []
    → news ≡ map (known_at p) (range_with_len 0 (length p.sections - 0)) → known ++ news ≡ known_with [] p
first_known p known news none are =
    let all : length p.sections - 0 ≡ length p.sections = omega arith in rw (none, are, all, all_new (periods_of p)) refl

-- ---- a first MPD of which nothing is refused but addresses

known_ids : (p : Presented) → ids_of (known_with [] p) ≡ ids_in p
known_ids p =
    ap (λ (ks : List Known). ids_of ks) (all_new (periods_of p)) ∙ map-map (λ (k : Known). k.id) (known_at p) (sections_of p)
    ∙ sym (fill_by_all (id_at p) (ids_in p) (length p.sections) [] (length-map p.sections _)
    (λ k less. get_or_from_slice_get (ids_in p) k (id_at p k) [] (id_there p.sections k less)))

pub first_mpd : (sections : SectionsArePeriods) (followed : PresentedAreFollowed) (few : PresentedAreFew)
    (terms : Terms) (mpd : Values) (now : ℤ) (p : Presented) → presented_of mpd terms.url (Some now) ≡ Ok p → first_judged mpd p ≡ []
    → HaveIdsOnce mpd.facts.live mpd.periods → IsFirstMpd terms mpd now p
first_mpd sections followed few terms mpd now p made judged own =
    let counts = map Presentation (count_faults p) in
    let living = told_if (not mpd.facts.live) NotDynamic in
    let both = none_first (counts ++ living) (window_told (counts_listed p)) judged in
    let live = negated mpd.facts.live (told_none (not mpd.facts.live) NotDynamic (none_behind counts living both)) in
    let once : are_once (ids_in p) ≡ true = rw (sections mpd terms.url (Some now) p made, map-map)
    (own live) in
    record {
      made = made;
      judged = judged;
      once = own;
      counts = none_mapped Presentation (count_faults p) (none_first counts living both);
      looked = looked_same followed mpd now p terms.url made;
      start = rw (followed mpd terms.url (Some now) p made, live) refl;
      stands = record { once = ap are_once (known_ids p) ∙ once; within = omega arith; behind = known_ids p };
      few = few mpd terms.url (Some now) p made;
    }

module _ {terms : Terms} {mpd : Values} {now : ℤ} {p : Presented} (is : IsFirstMpd terms mpd now p) where
  abbrev c : Common
  c = begun_common terms mpd now p

  pub counted_now : (s t : ℕ) → s < length p.sections → t < length p.tracks → IsCounted (looked_at now p) s t
  counted_now s t in_sections in_tracks =
      subst (λ (q : Presented). IsCounted q s t) (sym is.looked) (reached p is.counts s t in_sections in_tracks)

  pub periods_once : are_once (ids_of (periods_of p)) ≡ true
  periods_once = ap (λ (ks : List Known). are_once (ids_of ks)) (sym (all_new (periods_of p))) ∙ is.stands.once

  pub is_first : (start : ℤ) → start ≡ unwrap_or mpd.facts.availability_start (pos 0) → IsFirst c p now terms.digits start
  is_first start same = record {
    force = is.looked;
    printed = refl;
    resets = refl;
    starts = same ∙ is.start;
    places = λ s less. place_there (ids_of c.known) (ids_in p) 0 s (id_at p s) is.stands (id_there p.sections s less);
  }

  -- ---- the session

  module _ {tracks : List LiveTrack} {before after : ℕ} (are : AreFirst c tracks before after) {s : Standing}
      (standing : IsFirstStanding terms mpd now p s) where
    begun_as : begun_of terms mpd now ≡ Ok (state_shown s tracks)
    begun_as = rw (are.shown ∙ first_grown c 0 (length p.tracks), standing.common) (gives_begun terms mpd now p is.made is.judged are.urls)

    module _ (begins : HistoriesBegin) where
      shows : Shows terms (Refresh mpd now ∷ []) (state_shown s tracks)
      shows = begins terms mpd now (state_shown s tracks) begun_as

      pub begun_by : IsBegunBy terms mpd now (state_shown s tracks) before after
      begun_by = record { next = begun_as; history = shows; counted = rw (appended terms mpd now p is.made is.judged) are.counted }

      pub is_session : FirstStatesAreSound → NeverEmpty → NumbersStaySmall → IsSession s tracks
      is_session sounds some small = record {
        reached = record {
          terms = terms;
          history = Refresh mpd now ∷ [];
          shows = shows;
          sound = sounds terms mpd now (state_shown s tracks) is.once begun_as;
          numbers = subst NumbersFit (sym standing.common)
              (record { resets = omega arith; periods = omega (arith, few_known [] p, is.few.0) });
          few = subst (λ (k : Common). length k.opened.tracks ≤ 200) (sym standing.common) is.few.1;
          kept = at_all IsKept (map track_shown tracks) (λ t track at. record {
            some = subst (λ (n : ℕ). 0 < n) (length-map track.kept item_of)
                (some terms (Refresh mpd now ∷ []) (state_shown s tracks) t (playlist_with (common_shown s) track) shows
                (ap (option_map (playlist_with (common_shown s))) at));
            few = (small terms (Refresh mpd now ∷ []) (state_shown s tracks) t track shows at).1.kept;
          });
          dated = are.dated;
        };
        paired = are.paired;
        stands = subst (λ (place : ℕ). StandsAt (ids_of s.known) (ids_in (in_force s)) place) (sym standing.place)
            (subst (λ (k : Common). StandsAt (ids_of k.known) (ids_in k.force) 0) (sym standing.common) is.stands);
        starts = standing.start ∙ is.start ∙ ap (λ (k : Common). availability_start_of k.opened) (sym standing.common);
        accepted = omega (arith, ap (λ (k : Common). k.accepted) standing.common);
        readable = standing.readable;
        counted_first = subst (λ (k : Common). counted k.opened ≡ Ok (count_of_all k.opened)) (sym standing.common)
            (counted_by p is.counts);
        target = standing.target;
      }
