-- Each playlist of a followed track may take the place of the one before it, none is ever empty, and numbers grow with the updates.
use Rattle.live_meaning.proofs.Histories.{get_drop, get_more, length-told, past_behind, stays_within, Each, kept_segments, ranged}
use Rattle.live_meaning.proofs.Histories.{told-segments, track_goes_on, histories_refuse, mapped, sound, whole_goes_on, forced}
use Rattle.live_meaning.proofs.{Histories.accepted_hold, Accepted.place_is, Orders.{behind_have, listed_have}}
use Rattle.live_meaning.specs.{Grown.{media_from, GrownIsLawful, IsLater}, Updates.{Terms, Update, unit_of, is_reset}}
use Rattle.live_meaning.specs.Segments.{Kept, Segment, segments_of, Numbering, behind, id_at, listed_in_period, listed_of, place_behind}
use Rattle.live_meaning.specs.Removal.{is_available, removed_of}
use Rattle.live_meaning.specs.Histories.{Common, Past, Whole, after, common_with, force_by, gone_on, least_length, new_listed, past_after}
use Rattle.live_meaning.specs.Histories.{pasts_after, whole_of, begun_common, numbering_of}
use Rattle.live_meaning.specs.States.{State, Track, shown, state_of, track_of, removed_from}
use Rattle.live_meaning.specs.Refusals.{refusal_of, counts_listed, over_in_track}
use Rattle.live_meaning.specs.Playlists.{FollowedPlaylist, item_of, playlist_of, playlist_with}
use Rattle.live_meaning.specs.Laws.{ReloadsAreLawful, media_of, segment_of, IsAccepted, NeverEmpty, NumbersStaySmall}
use Rattle.live_meaning.specs.Known.{Known, ids_of, is_new, known_at, known_with, periods_of}
use Rattle.std.proofs.Common.{◌≡◌, ℕ, zero, suc, ◌+◌, ◌-◌, true, false, List, [], ◌∷◌, ◌++◌, drop, Some, refl, ap, arith, length-append}
use Rattle.std.proofs.Common.{length-drop, ◌*◌, ◌^◌, ◌≤◌, map, length, sum, None, sym, ◌∙◌, ◌<◌, Bool, cond, not, filter, get_or}
use Rattle.std.proofs.{Common.{bytes_eq, Option, subst}, lemmas.Bool.Decides.nat_tests, lemmas.List.{length-map, map-append, drop-map}}
use Rattle.std.proofs.lemmas.Simd.{map-map}
use Rattle.std.proofs.lemmas.List.Sums.{sum-map, count_by-le-length, length-filter, prefix_len-le-length, sum_by-cons}
use Rattle.std.proofs.{lemmas.Option.{same_Some, slice_get-map}, lemmas.Nat.pow-add, Math.Nat.{mul-le-mul_left, one-le-pow}}
use Rattle.std.proofs.{lemmas.List.FromFn.length-map-range_with_len, lemmas.List.Elements.{All-append, All-drop, filter_passes}}
use Rattle.std.proofs.lemmas.List.Concat.{length-flat_map}
use Rattle.std.specs.{Prelude.{slice_get, option_map, sum_by, All, flat_map}, Result.result_ok, List.{position_or_len, range_with_len}}
use Rattle.std.specs.Option.{option_map_or}
use Rattle.hls_media.specs.{declared.media.Media.Media, declared.media.MediaSegment.MediaSegment}
use Rattle.reload_law.specs.{Rules.{same_segment, same_section}, Laws.{IsInBoth, IsLawful, ReloadsItself, RulesAreSentences}}
use Rattle.followed.specs.Durations.{durations, last_behind, told, told_behind, Last}
use Rattle.followed.proofs.{KeptPlaces.{next_is_first, sum-scaled}, Sections.goes_on}
use Rattle.presentation.specs.Presented.{Presented, is_finished, Following, listed_at, start_of, whole_window, window_at, window_of}
use Rattle.presentation.specs.Counting.{count_faults, is_over, limit_faults, listed_count, sections_of, track_faults, tracks_of}
use Rattle.presentation.specs.Counting.{section_faults, whole_track_faults}
use Rattle.mpd_presentation.specs.PresentedLaws.{PresentedAreFew, PresentedAreFollowed}
use Rattle.presentation.proofs.{Reached.{all_reached, none_first, none_within}, Tracks.all_counted}
use Rattle.mpd_presentation.proofs.Ending.{none_behind}
use Rattle.timeline.specs.{Expansions.Timing, Listed.{expansion, is_listed}}

-- ---- lists that grow
module _ (sentences : RulesAreSentences) (itself : ReloadsItself) where
  same : (a : MediaSegment) → (same_segment a a ≡ true) × (same_section a a ≡ true)
  same a =
      let media : Media = record { target = 0; sequence = 0; ended = false; segments = a ∷ [] } in
      let is : IsLawful media media = (sentences media media).0 (itself media) in
      (is.segments 0 a a (record { in_old = refl; in_new = refl }), is.sections 0 a a (record { in_old = refl; in_new = refl }))

  pub grown_is_lawful : GrownIsLawful
  grown_is_lawful target first next ended all more le later =
      let old = media_from target first false all in
      let new = media_from target next ended (all ++ more) in
      let one : (number : ℕ) (a b : MediaSegment) → IsInBoth old new number a b → a ≡ b = λ number a b both.
      let in_old = get_drop first all (number - first) in
      let in_new = get_drop next (all ++ more) (number - next) in
      grind (arith, nat_tests, both.in_old, both.in_new, in_old, in_new, get_more all more number a) in
      let is : IsLawful old new = record {
        target = refl;
        sequence = later.rises;
        segments = λ number a b both. cc (one number a b both, (same a).0);
        sections = λ number a b both. cc (one number a b both, (same a).1);
        ends = omega (arith, length-drop first all, length-drop next (all ++ more), length-append all more, later.within);
        ended = λ was. absurd (cc);
        three_targets = λ goes_on rises. later.lasts rises;
      } in
      (sentences old new).1 is

abbrev read : (digits : ℕ) → Kept → MediaSegment
read digits k = segment_of digits (item_of k)

-- the segments of all, from the first kept one on
media_is : (c : Common) (unit : ℕ) (past : Past) → media_of (playlist_with c (track_of unit past)) ≡ media_from c.target past.first
    (is_finished c.force) (map (read c.terms.digits) (told unit past.all))
media_is c unit past = simp (drop-map, map-map)

nanos_from : (digits n : ℕ) (ts : List Kept)
    → sum_by (λ segment. segment.duration) (drop n (map (read digits) ts)) ≡ sum (drop n (durations ts)) * 10 ^ (9 - digits)
nanos_from digits n ts =
    let same : map (λ (segment : MediaSegment). segment.duration) (drop n (map (read digits) ts))
    ≡ map (λ d. d * 10 ^ (9 - digits)) (drop n (durations ts)) = simp (drop-map, map-map) in
    let summed = sum-map (λ (segment : MediaSegment). segment.duration) (drop n (map (read digits) ts)) in
    cc (same, summed, sum-scaled (10 ^ (9 - digits)) (drop n (durations ts)))

three_targets_last : (digits target units : ℕ) → 3 * target * 10 ^ digits ≤ units → 3 * 10 ^ 9 * target ≤ units * 10 ^ (9 - digits)
three_targets_last digits target units le =
    let same : 9 + (digits - 9) ≡ digits + (9 - digits) = omega arith in
    let tens : 10 ^ 9 * 10 ^ (digits - 9) ≡ 10 ^ digits * 10 ^ (9 - digits) =
    sym (pow-add 10 9 (digits - 9)) ∙ ap (λ (n : ℕ). 10 ^ n) same ∙ pow-add 10 digits (9 - digits) in
    let times = ap (λ n. 3 * target * n) tens in
    let some : 1 ≤ 10 ^ (digits - 9) = one-le-pow (digits - 9) 10 (omega arith) in
    omega (arith, times, mul-le-mul_left (3 * target * 10 ^ 9) some, mul-le-mul_left (10 ^ (9 - digits)) le)

-- ---- states
-- what a state shows of a track, and of its playlist
pub shown_track : (terms : Terms) (history : List Update) (s : State) (t : ℕ) (track : Track) → state_of terms history ≡ Some s
    → slice_get s.tracks t ≡ Some track → (w : Whole) × (past : Past) × (whole_of terms history ≡ Some w)
    × (slice_get w.pasts t ≡ Some past) × (shown w ≡ s) × (track_of (unit_of w.common.terms) past ≡ track)
unfolding state_of
shown_track terms history s t track leaves there =
    let (w, whole, same) = mapped shown (whole_of terms history) s leaves in
    let (past, at, own) = mapped (track_of (unit_of w.common.terms)) (slice_get w.pasts t) track
    (cc (slice_get-map (track_of (unit_of w.common.terms)) w.pasts t)) in
    (w, past, whole, at, same, own)

pub shown_playlist : (terms : Terms) (history : List Update) (s : State) (t : ℕ) (playlist : FollowedPlaylist)
    → state_of terms history ≡ Some s → playlist_of s t ≡ Some playlist → (w : Whole) × (past : Past) × (whole_of terms history ≡ Some w)
    × (slice_get w.pasts t ≡ Some past) × (shown w ≡ s) × (playlist_with w.common (track_of (unit_of w.common.terms) past) ≡ playlist)
shown_playlist terms history s t playlist leaves there =
    let (track, found, made) = mapped (playlist_with s.common) (slice_get s.tracks t) playlist there in
    let (w, past, whole, at, same, own) = shown_track terms history s t track leaves found in
    let moved = ap (λ (s : State). playlist_with s.common (track_of (unit_of w.common.terms) past)) same in
    (w, past, whole, at, same, moved ∙ ap (playlist_with s.common) own ∙ made)

module _ (sentences : RulesAreSentences) (itself : ReloadsItself) where
  pub reloads_are_lawful : ReloadsAreLawful
  unfolding state_of refusal_of
  reloads_are_lawful terms history u before later t old new shows shows_later old_is new_is =
      let (w, past, whole, at, shown_is, made) = shown_playlist terms history before t old shows.leaves old_is in
      let (v, past_later, whole_later, at_later, shown_later, made_later) =
      shown_playlist terms (history ++ u ∷ []) later t new shows_later.leaves new_is in
      let (p, forced, grown) = mapped (gone_on w u) (result_ok (force_by terms w.common.force u)) v
      (ap (λ o. after terms o u) (sym whole) ∙ sym (whole_goes_on terms history u) ∙ whole_later) in
      let refused : refusal_of before u ≡ None =
      sym (histories_refuse terms history u before shows) ∙ shows_later.accepted history u [] refl in
      let unended : is_finished w.common.force ≡ false = grind (arith, nat_tests, refused, shown_is) in
      let c : Common = common_with w.common u p in
      let its : slice_get (pasts_after c 0 w.pasts) t ≡ Some past_later = cc in
      let moved = past_behind c 0 t t w.pasts (omega arith) ∙ ap (option_map (past_after c t)) at in
      let made_new = rw (← grown, same_Some _ _ (sym its ∙ moved)) at made_later in
      let unit : ℕ = unit_of w.common.terms in
      let digits : ℕ = w.common.terms.digits in
      let new_ones : List Segment = new_listed c t past.all in
      let ts : List Kept = told unit (past.all ++ new_ones) in
      let next : ℕ = (past_after c t past).first in
      let is = next_is_first past.first (least_length c) (option_map is_available c.force.following) (durations ts) (segments_of ts) in
      let olds : List MediaSegment = map (read digits) (told unit past.all) in
      let news : List MediaSegment = map (read digits) (told_behind unit (last_behind None past.all) new_ones) in
      let both = map-append (read digits) (told unit past.all) (told_behind unit (last_behind None past.all) new_ones) in
      let grow : map (read digits) ts ≡ olds ++ news = cc (goes_on unit None past.all new_ones, both) in
      let many = length-told unit None (past.all ++ new_ones) in
      let three = three_targets_last digits c.target (sum (drop next (durations ts))) in
      let within : past.first ≤ length past.all = (sound terms history w whole).within t past at in
      let later_is : IsLater c.target past.first next (olds ++ news) =
      grind (arith, grow, is, stays_within c t past within, length-map ts (read digits), many, nanos_from digits next ts, three) in
      let there : past.first ≤ length olds =
      omega (arith, within, length-map (told unit past.all) (read digits), length-told unit None past.all) in
      rw (← made, ← made_new, media_is w.common unit past, unended, media_is c unit (past_after c t past), grow)
      (grown_is_lawful sentences itself c.target past.first next (is_finished p) olds news there later_is)

-- ---- how many segments are listed
sum_is : {X : Type 0} (f : ℕ → ℕ) (list : ℕ → List X) (a n : ℕ) → ((s : ℕ) → s < a + n → f s ≡ length (list s))
    → sum_by f (range_with_len a n) ≡ length (flat_map list (range_with_len a n))
sum_is f list a zero each = refl
sum_is f list a (suc n) each =
    let later = sum_is f list (a + 1) n (λ s less. each s (omega arith)) in
    let rest : List ℕ = range_with_len (a + 1) n in
    omega (arith, each a (omega arith), later, sum_by-cons f a rest, length-append (list a) (flat_map list rest))

some_listed : (p : Presented) (t : ℕ) → is_finished p ≡ false → count_faults p ≡ [] → t < length p.tracks
    → 0 < length (flat_map (λ s. listed_at p s t) (sections_of p))
some_listed p t followed none less =
    let tracks = none_first (flat_map (track_faults p) (tracks_of p)) (limit_faults (is_over p)) none in
    let track = none_within (track_faults p) (length p.tracks) t tracks less in
    let whole = none_behind (flat_map (section_faults p t) (sections_of p)) (whole_track_faults p t) track in
    let counted = sum_is (listed_count p t) (λ s. listed_at p s t) 0 (length p.sections)
    (λ s within. all_counted p s t (all_reached p none t less s (omega arith))) in
    grind (arith, nat_tests, whole, followed, counted)

few_in : (from : ℕ) (ns : List ℕ) (t n : ℕ) → over_in_track from ns ≡ [] → slice_get ns t ≡ Some n → n ≤ 20000
few_in from (m ∷ ns) (suc t) n none at = few_in (from + 1) ns t n (none_behind _ _ none) at
few_in from ns t n none at = grind (arith, nat_tests)

position_within : (test : Segment → Bool) (xs ys : List Segment) → All (λ y. test y ≡ true) ys → position_or_len test (xs ++ ys) ≤ length xs
position_within test [] [] all = omega arith
position_within test [] (y ∷ ys) all = grind (arith, nat_tests, all 0 y)
position_within test (x ∷ xs) ys all = grind (arith, nat_tests, position_within test xs ys all)

pub listed_available : (n : Numbering) (p : Presented) (t : ℕ) (f : Following) → p.following ≡ Some f
    → All (λ x. is_available f x ≡ true) (listed_of n p t)
listed_available n p t f is = listed_have (λ x. is_available f x ≡ true) n p t (λ s content less at j d within.
    let all : All (λ x. is_listed (window_of p s) x ≡ true) (listed_at p s t) =
    rw at (filter_passes (is_listed (window_of p s)) (expansion content.runs (window_of p s))) in
    let pass = all j d within in
    let window = ap (λ o. is_listed (option_map_or (λ f. window_at f (start_of p s)) o whole_window) (get_or (listed_at p s t) j d)) is in
    grind (arith, nat_tests, pass, window))

removed_most : (n : Numbering) (p : Presented) (t u units : ℕ) (last : Option Last) (place : ℕ) (kept : List Kept) (o : Option Following)
    → p.following ≡ o → removed_of o units (kept ++ told_behind u last (behind last place (listed_of n p t))) ≤ length kept
removed_most n p t u units last place kept None is = omega arith
removed_most n p t u units last place kept (Some f) is =
    let new : List Segment = behind last place (listed_of n p t) in
    let pass = behind_have (λ x. is_available f x ≡ true) last place (listed_of n p t) (listed_available n p t f is) in
    let within = position_within (is_available f) (segments_of kept) new pass in
    let parts = map-append (λ (k : Kept). k.segment) kept (told_behind u last new) in
    grind (arith, within, parts, told-segments u last new, length-map kept (λ (k : Kept). k.segment))

abbrev IsEarly : ℕ → Segment → Type 0
IsEarly accepted x = x.section < 1001 * accepted

listed_early : (c : Common) (t : ℕ) → length c.known ≤ 1000 * c.accepted → c.resets < c.accepted
    → All (IsEarly c.accepted) (listed_of (numbering_of c) c.force t)
listed_early c t known resets = listed_have (IsEarly c.accepted) (numbering_of c) c.force t (λ s content less at.
    let within = prefix_len-le-length (λ x. not (bytes_eq (id_at c.force s) x)) (ids_of c.known) in
    let place = place_is (ids_of c.known) (id_at c.force s) in
    λ j d inside. omega (arith, known, resets, place, within, length-map c.known (λ (k : Known). k.id)))

-- of the kept ones and of all
pub record IsKept (c : Common) (past : Past) : Type 0 where
  pub some : 0 < length (drop past.first (told (unit_of c.terms) past.all))
  pub few : length (drop past.first (told (unit_of c.terms) past.all)) ≤ 20000
  pub first : past.first + 20000 ≤ 20000 * c.accepted
  pub early : All (IsEarly c.accepted) past.all

pub record IsFew (c : Common) : Type 0 where
  pub target : 0 < c.target
  pub sections : length c.force.sections ≤ 1000
  pub known : length c.known ≤ 1000 * c.accepted
  pub resets : c.resets < c.accepted

pub few_known : (known : List Known) (p : Presented) → length (known_with known p) ≤ length known + length p.sections
few_known known p =
    let news : List Known = filter (is_new known) (periods_of p) in
    let most = count_by-le-length (is_new known) (periods_of p) in
    let many = length-map-range_with_len (known_at p) 0 (length p.sections) in
    omega (arith, length-append known news, length-filter (is_new known) (periods_of p), most, many)

pub resets_most : (b : Bool) (n : ℕ) → cond b (n + 1) n ≤ n + 1
resets_most b n = grind arith

module _ (few : PresentedAreFew) (followed : PresentedAreFollowed) where
  accepted_kept : (terms : Terms) (history : List Update) → IsAccepted terms history → (w : Whole) → whole_of terms history ≡ Some w
      → IsFew w.common × Each (λ t past. IsKept w.common past) w.pasts
  accepted_kept terms history accepted = accepted_hold terms (λ mpd. Unit {0}) IsFew (λ c t past. IsKept c past) (λ mpd now p given first.
      let c : Common = begun_common terms mpd now p in
      let sections = (few mpd terms.url (Some now) p first.made).0 in
      let known : length c.known ≤ 1000 * c.accepted = omega (arith, few_known [] p, sections) in
      let live : is_finished p ≡ false = grind (arith, followed mpd terms.url (Some now) p first.made, first.live) in (
        record { target = omega arith; sections = sections; known = known; resets = omega arith },
        λ t less.
            let all : List Segment = listed_of (numbering_of c) p t in
            let same = length-told (unit_of terms) None all in
            let many = few_in 0 (counts_listed p) t _ (none_first _ _ first.window) (ranged _ (length p.tracks) t less) in
            let early = listed_early c t known (omega arith) in
            let listed = length-flat_map (listed_in_period (numbering_of c) p t) (sections_of p)
            ∙ sum_is (λ s. length (listed_in_period (numbering_of c) p t s)) (λ s. listed_at p s t) 0 (length p.sections)
            (λ s within. grind (arith, length-map {A = Timing} {B = Segment})) in
            grind (arith, listed, some_listed p t live first.counts less, many, same, early),
      )) (λ w u p given its allowed is.
      let c : Common = common_with w.common u p in
      let sections = forced (λ q. length q.sections ≤ 1000) w.common.terms w.common.force u p allowed.forced
      (λ mpd now told made. (few mpd w.common.terms.url (Some now) p made).0) (λ now. is.sections) in
      let known : length c.known ≤ 1000 * c.accepted = omega (arith, few_known w.common.known p, sections, is.known) in
      let resets : c.resets < c.accepted = omega (arith, resets_most (is_reset u) w.common.resets, is.resets) in (
        record { target = is.target; sections = sections; known = known; resets = resets },
        λ t past within own kept.
            let unit : ℕ = unit_of c.terms in
            let last : Option Last = last_behind None past.all in
            let new : List Segment = new_listed c t past.all in
            let ks : List Kept = drop past.first (told unit past.all) in
            let both : List Kept = ks ++ told_behind unit last new in
            let after = track_goes_on c t past within in
            let removed = removed_most (numbering_of c) p t unit (least_length c) last (place_behind 0 past.all) ks c.force.following refl
            in
            let next = next_is_first 0 (least_length c) (option_map is_available c.force.following) (durations both) (segments_of both) in
            let enough : 0 < least_length c = omega (arith, mul-le-mul_left unit is.target, one-le-pow c.terms.digits 10 (omega arith)) in
            let all = length-map both (λ (k : Kept). k.segment) in
            let many = length-append ks (told_behind unit last new) in
            let some = next.some enough (length-map both (λ (k : Kept). k.duration) ∙ sym all) (omega (arith, all, many, kept.some)) in
            let early = All-append (IsEarly c.accepted) past.all new (λ j d within. omega (arith, kept.early j d within)) (behind_have
            (IsEarly c.accepted) last (place_behind 0 past.all) (listed_of (numbering_of c) p t) (listed_early c t known resets)) in
            let left = length-drop (removed_from c both) both in
            let first = ap (λ (track : Track). track.first) after in
            grind (arith, first, ap (λ (track : Track). length track.kept) after, left, some, all, removed, own.window, kept, early),
      )) history accepted (λ front u back same. tt)

  pub never_empty : NeverEmpty
  never_empty terms history s t playlist shows there =
      let (w, past, whole, at, same, made) = shown_playlist terms history s t playlist shows.leaves there in
      let some = ((accepted_kept terms history shows.accepted w whole).1 t past at).some in
      let items = ap (λ (p : FollowedPlaylist). length p.items) made in
      omega (arith, some, items, length-map (drop past.first (told (unit_of w.common.terms) past.all)) item_of)

  pub numbers_stay_small : NumbersStaySmall
  numbers_stay_small terms history s t track shows there =
      let (w, past, whole, at, same, own) = shown_track terms history s t track shows.leaves there in
      let are = accepted_kept terms history shows.accepted w whole in
      let kept = are.1 t past at in
      let early = subst (All (IsEarly w.common.accepted)) (sym (kept_segments (unit_of w.common.terms) past.first past.all))
      (All-drop (IsEarly w.common.accepted) past.first past.all kept.early) in
      grind (arith, same, own, (sound terms history w whole).accepted, are.0, kept, early)
