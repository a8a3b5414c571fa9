-- A state with an update more is the state of the history with that update, and what is so of accepted updates.
use Rattle.std.proofs.lemmas.List.{get_or-map, length-map, drop-map, drop-drop, drop-append-le, append-nil, append_assoc}
use Rattle.std.proofs.Common.{◌≡◌, ℕ, zero, suc, ◌+◌, ◌≤◌, List, [], ◌∷◌, ◌++◌, map, length, drop, Option, Some, None, refl, sym, ◌∙◌, ap}
use Rattle.std.proofs.Common.{subst, arith, length-append, ℤ, Result, Ok, Bool, true, false, not, ◌<◌}
use Rattle.std.proofs.lemmas.Option.{same_Some, slice_get_read, slice_get_within, slice_get-map}
use Rattle.std.proofs.{lemmas.List.FromFn.{get_or-map-range_with_len, length-map-range_with_len}, lemmas.List.Sums.fold-append}
use Rattle.std.proofs.lemmas.Bool.{ltb-false}
use Rattle.std.specs.{Prelude.{option_map, slice_get, All, filter, flat_map}, List.{range_with_len, fold}}
use Rattle.followed.specs.Durations.{Last, durations, last_behind, last_with, told, told_behind}
use Rattle.followed.proofs.{KeptPlaces.{next_from_kept, next_is_first}, Sections.goes_on}
use Rattle.presentation.specs.{Presented.{Following, looked_at, Presented, is_finished}, declared.fault.PresentationFault.PresentationFault}
use Rattle.presentation.specs.{Counting.{sections_of, count_faults, range_faults}, Verifying.url_faults}
use Rattle.mpd_presentation.specs.Told.{presented_of}
use Rattle.live_meaning.specs.Updates.{unit_of, mpd_of, Terms, Update, Refresh, Reset, Tick, Values, is_reset, now_of}
use Rattle.live_meaning.specs.{Segments.{Kept, Segment, place_behind, segments_of}, Removal.{first_kept, is_available, removed_of}}
use Rattle.live_meaning.specs.Histories.{Common, Past, begun_past, begun_with, least_length, new_listed, past_after, pasts_after, Whole}
use Rattle.live_meaning.specs.Histories.{after, begun_common, common_with, force_by, gone_on, no_past, past_of, whole_of}
use Rattle.live_meaning.specs.States.{kept_and_new, removed_from, track_after, track_of, tracks_after, State, shown, state_of, state_with}
use Rattle.live_meaning.specs.States.{new_durations, Track}
use Rattle.live_meaning.specs.Refusals.{Refusal, begun_by, begun_of, first_refusal_of, next_of, next_with, refusal_of, update_refusal}
use Rattle.live_meaning.specs.Refusals.{LongSegment, count_kept, over_in_track, urls_in, NotDynamic, Presentation, clock_told}
use Rattle.live_meaning.specs.Refusals.{counts_kept, counts_listed, ended_told, first_refusals_of, first_told_by, joint_told, long_told}
use Rattle.live_meaning.specs.Refusals.{mpd_told, refusal_behind, segments_told, told_by, told_if, refusals_of, urls_told, window_told}
use Rattle.live_meaning.specs.Laws.{AcceptedAreAccepted, HistoriesBegin, HistoriesGoOn, HistoriesRefuse, IsAccepted, with_accepted}
use Rattle.hls_writer.specs.Finished.{rounded}
use Rattle.bridge_io.specs.Firsts.{first_of}
use Rattle.presentation.proofs.Reached.{none_first}
use Rattle.mpd_presentation.proofs.Ending.{none_behind}

pub mapped : {A B : Type 0} (f : A → B) (o : Option A) (b : B) → option_map f o ≡ Some b → (a : A) × (o ≡ Some a) × (f a ≡ b)
mapped f o b is = grind arith

pub get_drop : {X : Type 0} (m : ℕ) (xs : List X) (k : ℕ) → slice_get (drop m xs) k ≡ slice_get xs (m + k)
get_drop {X} zero xs k = let none : k ≡ 0 + k = omega arith in ap (λ n. slice_get xs n) none
get_drop {X} (suc m) [] k = refl
get_drop {X} (suc m) (x ∷ xs) k = let more : suc m + k ≡ suc (m + k) = omega arith in rw more (get_drop m xs k)

pub get_more : {X : Type 0} (xs ys : List X) (k : ℕ) (x : X) → slice_get xs k ≡ Some x → slice_get (xs ++ ys) k ≡ Some x
get_more {X} [] ys k x at = cc
get_more {X} (y ∷ xs) ys zero x at = at
get_more {X} (y ∷ xs) ys (suc k) x at = get_more xs ys k x at

pub length-told : (u : ℕ) (last : Option Last) (xs : List Segment) → length (told_behind u last xs) ≡ length xs
length-told u last [] = refl
length-told u last (x ∷ xs) = ap suc (length-told u (Some (last_with last x)) xs)

pub told-segments : (u : ℕ) (last : Option Last) (xs : List Segment) → segments_of (told_behind u last xs) ≡ xs
told-segments u last [] = refl
told-segments u last (x ∷ xs) = cc (told-segments u (Some (last_with last x)) xs)

pub kept_segments : (u n : ℕ) (all : List Segment) → segments_of (drop n (told u all)) ≡ drop n all
kept_segments u n all = cc (drop-map (λ (k : Kept). k.segment) n (told u all), told-segments u None all)

pub unmapped : {X Y : Type 0} (P : Y → Type 0) (f : X → Y) (xs : List X) → All P (map f xs) → All (λ x. P (f x)) xs
unmapped P f xs all j d within = subst P (get_or-map f xs j d (f d) within) (all j (f d) (omega (arith, length-map xs f)))

pub last_goes_on : (last : Option Last) (all more : List Segment) → last_behind last (all ++ more) ≡ last_behind (last_behind last all) more
last_goes_on last [] more = refl
last_goes_on last (x ∷ all) more = last_goes_on (Some (last_with last x)) all more

pub place_goes_on : (place : ℕ) (all more : List Segment) → place_behind place (all ++ more) ≡ place_behind (place_behind place all) more
place_goes_on place [] more = refl
place_goes_on place (x ∷ all) more = place_goes_on x.value.place all more

first_rises : (f : Option Following) (units former : ℕ) (ts : List Kept)
    → first_kept f units former ts ≡ former + removed_of f units (drop former ts)
first_rises None units former ts = omega arith
first_rises (Some f) units former ts =
    let next = next_from_kept former units (is_available f) (durations ts) (segments_of ts) in
    grind (arith, next, drop-map (λ (k : Kept). k.segment) former ts, drop-map (λ (k : Kept). k.duration) former ts)

pub track_goes_on : (c : Common) (t : ℕ) (past : Past) → past.first ≤ length past.all
    → track_of (unit_of c.terms) (past_after c t past) ≡ track_after c t (track_of (unit_of c.terms) past)
track_goes_on c t past within =
    let u : ℕ = unit_of c.terms in
    let new : List Segment = new_listed c t past.all in
    let kept : List Kept = kept_and_new c t (track_of u past) in
    let told_on = ap (λ (ts : List Kept). drop past.first ts) (goes_on u None past.all new) in
    let same : drop past.first (told u (past.all ++ new)) ≡ kept = told_on ∙ drop-append-le past.first (told u past.all)
    (told_behind u (last_behind None past.all) new) (omega (arith, length-told u None past.all)) in
    let rises = first_rises c.force.following (least_length c) past.first (told u (past.all ++ new)) in
    let left = drop-drop (removed_from c kept) past.first (told u (past.all ++ new)) in
    cc (last_goes_on None past.all new, place_goes_on 0 past.all new, same, rises, left)

pub stays_within : (c : Common) (t : ℕ) (past : Past) → past.first ≤ length past.all
    → (past_after c t past).first ≤ length (past_after c t past).all
stays_within c t past within =
    let all : List Segment = past.all ++ new_listed c t past.all in
    let ts : List Kept = told (unit_of c.terms) all in
    let is = next_is_first past.first (least_length c) (option_map is_available c.force.following) (durations ts) (segments_of ts) in
    grind (arith, is.within, ap length (told-segments (unit_of c.terms) None all), length-append past.all (new_listed c t past.all))

-- what holds of each track
abbrev pub Each : (ℕ → Past → Type 0) → List Past → Type 0
Each P pasts = (t : ℕ) (past : Past) → slice_get pasts t ≡ Some past → P t past

abbrev pub IsWithin : ℕ → Past → Type 0
IsWithin t past = past.first ≤ length past.all

pub tracks_go_on : (c : Common) (t : ℕ) (pasts : List Past) → Each IsWithin pasts
    → map (track_of (unit_of c.terms)) (pasts_after c t pasts) ≡ tracks_after c t (map (track_of (unit_of c.terms)) pasts)
tracks_go_on c t [] within = refl
tracks_go_on c t (past ∷ pasts) within =
    cc (track_goes_on c t past (within 0 past refl), tracks_go_on c (t + 1) pasts (λ k other at. within (suc k) other at))

pub past_behind : (c : Common) (from t k : ℕ) (pasts : List Past) → from + t ≡ k
    → slice_get (pasts_after c from pasts) t ≡ option_map (past_after c k) (slice_get pasts t)
past_behind c from t k [] is = refl
past_behind c from zero k (past ∷ pasts) is = let same : from ≡ k = omega arith in ap (λ n. Some (past_after c n past)) same
past_behind c from (suc t) k (past ∷ pasts) is = past_behind c (from + 1) t k pasts (omega arith)

pub each_after : (c : Common) (P Q : ℕ → Past → Type 0) → ((t : ℕ) (past : Past) → P t past → Q t (past_after c t past))
    → (pasts : List Past) → Each P pasts → Each Q (pasts_after c 0 pasts)
each_after c P Q goes pasts each t past at =
    let (former, there, same) = mapped (past_after c t) (slice_get pasts t) past (sym (past_behind c 0 t t pasts (omega arith)) ∙ at) in
    subst (Q t) same (goes t former (each t former there))

pub ranged : {X : Type 0} (f : ℕ → X) (n k : ℕ) → k < n → slice_get (map f (range_with_len 0 n)) k ≡ Some (f k)
ranged {X} f n k less = slice_get_read (map f (range_with_len 0 n)) n k (f k) (sym (length-map-range_with_len f 0 n)) less
    (sym (get_or-map-range_with_len f 0 n k k (f k) less (omega arith)))

pub each_begun : (c : Common) (P : ℕ → Past → Type 0) → ((t : ℕ) → t < length c.opened.tracks → P t (begun_past c t))
    → Each P (begun_with c).pasts
each_begun c P begins t past at =
    let n : ℕ = length c.opened.tracks in
    let less : t < n = omega (arith, slice_get_within _ t past at, length-map-range_with_len (begun_past c) 0 n) in
    subst (P t) (same_Some _ _ (sym (ranged (begun_past c) n t less) ∙ at)) (begins t less)

-- ---- what holds of all that updates leave
pub whole_goes_on : (terms : Terms) (history : List Update) (u : Update)
    → whole_of terms (history ++ u ∷ []) ≡ after terms (whole_of terms history) u
whole_goes_on terms history u = fold-append (after terms) None history (u ∷ [])

-- what holds of each update behind those before it
abbrev pub EachBehind : (List Update → Update → Type 0) → List Update → Type 0
EachBehind P history = (earlier : List Update) (u : Update) (later : List Update) → history ≡ earlier ++ u ∷ later → P earlier u

-- what the first MPD begins with, and each update behind others leaves, where these are given so
module _ (terms : Terms) (H : List Update → Whole → Type 0) (IsGiven : List Update → Update → Type 0) (begins : (earlier : List Update)
    (mpd : Values) (now : ℤ) (p : Presented) → whole_of terms earlier ≡ None → IsGiven earlier (Refresh mpd now)
    → presented_of mpd terms.url (Some now) ≡ Ok p → H (earlier ++ Refresh mpd now ∷ []) (begun_with (begun_common terms mpd now p)))
    (goes_on : (earlier : List Update) (u : Update) (w : Whole) (p : Presented) → whole_of terms earlier ≡ Some w → IsGiven earlier u
    → force_by terms w.common.force u ≡ Ok p → H earlier w → H (earlier ++ u ∷ []) (gone_on w u p)) where
  all_hold : (earlier later : List Update) (start : Option Whole) → whole_of terms earlier ≡ start → EachBehind IsGiven (earlier ++ later)
      → ((v : Whole) → start ≡ Some v → H earlier v) → (w : Whole) → fold (after terms) start later ≡ Some w → H (earlier ++ later) w
  all_hold earlier [] start from given before w is = rw append-nil (before w is)
  all_hold earlier (u ∷ later) start from given before w is =
      let moved : (earlier ++ u ∷ []) ++ later ≡ earlier ++ u ∷ later = append_assoc earlier (u ∷ []) later in
      let here : IsGiven earlier u = given earlier u later refl in
      let step : (v : Whole) → after terms start u ≡ Some v → H (earlier ++ u ∷ []) v =
      λ v is. grind (arith, begins earlier, goes_on earlier u, from, here, before) in
      subst (λ (us : List Update). H us w) moved (all_hold (earlier ++ u ∷ []) later (after terms start u)
      (whole_goes_on terms earlier u ∙ ap (λ o. after terms o u) from) (subst (EachBehind IsGiven) (sym moved) given) step w is)

  pub holds : (history : List Update) → EachBehind IsGiven history → (w : Whole) → whole_of terms history ≡ Some w → H history w
  holds history given w is = all_hold [] history None refl given (λ v never. absurd (cc)) w is

-- what is in force is presented by an MPD, or looked at anew
pub forced : (P : Presented → Type 0) (terms : Terms) (former : Presented) (u : Update) (p : Presented) → force_by terms former u ≡ Ok p
    → ((mpd : Values) (now : ℤ) → mpd_of u ≡ Some mpd → presented_of mpd terms.url (Some now) ≡ Ok p → P p)
    → ((now : ℤ) → P (looked_at now former)) → P p
forced P terms former (Refresh mpd now) p is made looked = made mpd now refl is
forced P terms former (Reset mpd now) p is made looked = made mpd now refl is
forced P terms former (Tick now) p is made looked = grind (arith, looked now)

-- what each history leaves
pub record IsSound (terms : Terms) (history : List Update) (w : Whole) : Type 0 where
  pub its_terms : w.common.terms ≡ terms
  pub within : Each IsWithin w.pasts
  pub accepted : w.common.accepted ≤ length history

pub sound : (terms : Terms) (history : List Update) (w : Whole) → whole_of terms history ≡ Some w → IsSound terms history w
sound terms history w is = holds terms (IsSound terms) (λ earlier u. Unit {0}) (λ earlier mpd now p from given made.
    let within = each_begun (begun_common terms mpd now p) IsWithin (λ t less. omega arith) in
    record { its_terms = refl; within = within; accepted = omega (arith, length-append earlier (Refresh mpd now ∷ [])) })
    (λ earlier u v p from given made its.
    let c : Common = common_with v.common u p in
    let within = each_after c IsWithin IsWithin (stays_within c) v.pasts its.within in
    record { its_terms = its.its_terms; within = within; accepted = omega (arith, its.accepted, length-append earlier (u ∷ [])) })
    history (λ front u back same. tt) w is

pub past_holds : (P : Past → Type 0) (terms : Terms) (history : List Update) (t : ℕ) → P no_past → ((w : Whole) → whole_of terms history
    ≡ Some w → (past : Past) → slice_get w.pasts t ≡ Some past → P past) → P (past_of terms history t)
past_holds P terms history t none found = grind (arith, none, found)

pub shown_goes_on : (w : Whole) (u : Update) (p : Presented) → Each IsWithin w.pasts → shown (gone_on w u p) ≡ state_with (shown w) u p
unfolding state_with
shown_goes_on w u p within = let c : Common = common_with w.common u p in let tracks = tracks_go_on c 0 w.pasts within in cc

snoc : (P : List Update → Update → Type 0) (history : List Update) (u : Update) → EachBehind P history → P history u
    → EachBehind P (history ++ u ∷ [])
snoc P [] u all here [] v later is = grind (arith, here)
snoc P [] u all here (w ∷ earlier) v later is = absurd (omega (arith, ap length is, length-append earlier (v ∷ later)))
snoc P (y ∷ history) u all here [] v later is = grind (arith, all [] y history refl)
snoc P (y ∷ history) u all here (w ∷ earlier) v later is =
    let rest : history ++ u ∷ [] ≡ earlier ++ v ∷ later = cc in
    let others : EachBehind (λ xs x. P (y ∷ xs) x) history = λ before x behind same. all (y ∷ before) x behind (cc) in
    grind (arith, snoc (λ xs x. P (y ∷ xs) x) history u others here earlier v later rest)

accepts_more : (terms : Terms) (history : List Update) (u : Update) → IsAccepted terms history → update_refusal terms history u ≡ None
    → IsAccepted terms (history ++ u ∷ [])
accepts_more terms history u accepted here = snoc (λ earlier v. update_refusal terms earlier v ≡ None) history u accepted here

-- ---- the laws
next_is : (s : State) (u : Update) (after : State) (refusal : Option Refusal) (force : Result Presented PresentationFault)
    → next_with s u refusal force ≡ Ok after → (p : Presented) × (refusal ≡ None) × (force ≡ Ok p) × (state_with s u p ≡ after)
next_is s u after refusal force is = grind arith

pub histories_refuse : HistoriesRefuse
histories_refuse terms history u before shows = rw shows.leaves refl

pub histories_go_on : HistoriesGoOn
unfolding state_of next_of
histories_go_on terms history u before later shows next =
    let (w, whole, shown_is) = mapped shown (whole_of terms history) before shows.leaves in
    let s : State = shown w in
    let own : next_of s u ≡ Ok later = subst (λ (s : State). next_of s u ≡ Ok later) (sym shown_is) next in
    let (p, none, force, same) = next_is s u later (refusal_of s u) (force_by w.common.terms w.common.force u) own in
    let is = sound terms history w whole in
    let refused = histories_refuse terms history u before shows ∙ ap (λ (s : State). refusal_of s u) (sym shown_is) ∙ none in
    let forced = subst (λ (x : Terms). force_by x w.common.force u ≡ Ok p) is.its_terms force in
    record {
      accepted = accepts_more terms history u shows.accepted refused;
      leaves = rw (whole_goes_on terms history u, whole, forced) (ap Some (shown_goes_on w u p is.within ∙ same));
    }

none_accepted : (terms : Terms) → IsAccepted terms []
none_accepted terms earlier v later is = absurd (omega (arith, ap length is, length-append earlier (v ∷ later)))

pub begun_from : (terms : Terms) (mpd : Values) (now : ℤ) (s : State) (refusal : Option Refusal)
    (first : Result Presented PresentationFault) → begun_by terms mpd now refusal first ≡ Ok s
    → (p : Presented) × (refusal ≡ None) × (first ≡ Ok p) × (shown (begun_with (begun_common terms mpd now p)) ≡ s)
begun_from terms mpd now s refusal first is = grind arith

pub histories_begin : HistoriesBegin
unfolding state_of begun_of
histories_begin terms mpd now s begins =
    let (p, none, first, same) = begun_from terms mpd now s (first_refusal_of terms mpd now) (presented_of mpd terms.url (Some now)) begins
    in record {
      accepted = accepts_more terms [] (Refresh mpd now) (none_accepted terms) none;
      leaves = rw (whole_goes_on terms [] (Refresh mpd now), first) (ap Some same);
    }

accepted_from : (terms : Terms) (updates history : List Update) → IsAccepted terms history
    → IsAccepted terms (fold (λ h u. with_accepted terms h u (update_refusal terms h u)) history updates)
accepted_from terms [] history accepted = accepted
accepted_from terms (u ∷ updates) history accepted =
    accepted_from terms updates (with_accepted terms history u (update_refusal terms history u))
    (λ earlier v later is. grind (arith, accepted earlier v later, accepts_more terms history u accepted))

pub accepted_are_accepted : AcceptedAreAccepted
accepted_are_accepted terms updates = accepted_from terms updates [] (none_accepted terms)

pub told_none : (b : Bool) (r : Refusal) → told_if b r ≡ [] → b ≡ false
told_none b r none = grind arith

pub negated : (b : Bool) → not b ≡ false → b ≡ true
negated b is = grind arith

pub none_each : (a b c d : List Refusal) → a ++ b ++ c ++ d ≡ [] → (a ≡ []) × (b ≡ []) × (c ≡ []) × (d ≡ [])
none_each a b c d none = grind (arith, none_first (a ++ b ++ c) d none, none_first (a ++ b) c, none_first a b)

none_pass : {X : Type 0} (test : X → Bool) (xs : List X) → filter test xs ≡ [] → All (λ x. test x ≡ false) xs
none_pass test (x ∷ xs) none zero d within = grind arith
none_pass test (x ∷ xs) none (suc j) d within = none_pass test xs (grind arith) j d (omega arith)
none_pass test [] none j d within = absurd (omega arith)

pub none_mapped : {X : Type 0} (f : X → Refusal) (xs : List X) → map f xs ≡ [] → xs ≡ []
none_mapped f [] none = refl
none_mapped f (x ∷ xs) none = absurd (cc)

none_at_first : (rs : List Refusal) → first_of rs ≡ None → rs ≡ []
none_at_first [] none = refl
none_at_first (r ∷ rs) none = absurd (cc)

-- ---- an accepted update
-- the first MPD
pub record IsFirst (terms : Terms) (mpd : Values) (now : ℤ) (p : Presented) : Type 0 where
  pub made : presented_of mpd terms.url (Some now) ≡ Ok p
  pub counts : count_faults p ≡ []
  pub live : mpd.facts.live ≡ true
  pub window : window_told (counts_listed p) ≡ []
  pub urls : url_faults p ≡ []

pub first_allowed : (terms : Terms) (mpd : Values) (now : ℤ) (p : Presented) → first_refusal_of terms mpd now ≡ None
    → presented_of mpd terms.url (Some now) ≡ Ok p → IsFirst terms mpd now p
unfolding first_refusal_of
first_allowed terms mpd now p none made =
    let each = none_each (map Presentation (count_faults p)) (told_if (not mpd.facts.live) NotDynamic) (window_told (counts_listed p))
    (map Presentation (url_faults p)) (ap (first_told_by mpd) (sym made) ∙ none_at_first (first_refusals_of terms mpd now) none) in
    grind (arith, made, each, none_mapped Presentation (count_faults p), none_mapped Presentation (url_faults p))

-- a later one
pub record IsAllowed (s : State) (u : Update) (p : Presented) : Type 0 where
  pub forced : force_by s.common.terms s.common.force u ≡ Ok p
  pub unended : is_finished s.common.force ≡ false
  pub mpd : mpd_told s (mpd_of u) p ≡ []
  pub long : long_told (common_with s.common u p) 0 s.tracks ≡ []
  pub window : window_told (counts_kept (common_with s.common u p) 0 s.tracks) ≡ []
  pub urls : urls_told (common_with s.common u p) p 0 s.tracks ≡ []

pub allowed : (s : State) (u : Update) (p : Presented) → refusal_of s u ≡ None → force_by s.common.terms s.common.force u ≡ Ok p
    → IsAllowed s u p
unfolding refusal_of
allowed s u p none forced =
    let c = common_with s.common u p in
    let by : List Refusal = told_by s u (force_by s.common.terms s.common.force u) in
    let all = none_each [] (ended_told s.common) (clock_told s.common (now_of u)) by (none_at_first (refusals_of s u) none) in
    let parts = none_each [] (map Presentation (range_faults p)) (mpd_told s (mpd_of u) p) (segments_told (is_reset u) c s.tracks)
    (ap (told_by s u) (sym forced) ∙ all.3) in
    let segments = none_each (joint_told (is_reset u) c s.tracks) (long_told c 0 s.tracks) (window_told (counts_kept c 0 s.tracks))
    (urls_told c p 0 s.tracks) parts.3 in
    grind (arith, forced, all, parts, segments)

-- what is told of one track
pub record IsOwn (c : Common) (t : ℕ) (track : Track) : Type 0 where
  pub long : All (λ d. rounded (unit_of c.terms) d ≤ c.target) (new_durations c t track)
  pub window : count_kept c (kept_and_new c t track) ≤ 20000
  pub urls : flat_map (urls_in c c.force t track) (sections_of c.force) ≡ []

own_from : (c : Common) (from t k : ℕ) (tracks : List Track) (track : Track) → from + t ≡ k → long_told c from tracks ≡ []
    → over_in_track from (counts_kept c from tracks) ≡ [] → urls_told c c.force from tracks ≡ [] → slice_get tracks t ≡ Some track
    → IsOwn c k track
own_from c from t k [] track same long window urls at = absurd (cc)
own_from c from zero k (x ∷ tracks) track same long window urls at =
    let here : from ≡ k = omega arith in
    subst (IsOwn c k) (same_Some _ _ at) (subst (λ n. IsOwn c n x) here (record {
      long = λ j d within. ltb-false _ _ (none_pass _ _ (none_mapped (LongSegment c.target) _ (none_first _ _ long)) j d within);
      window = ltb-false _ _ (told_none _ _ (none_first _ _ window));
      urls = none_mapped Presentation _ (none_first _ _ urls);
    }))
own_from c from (suc t) k (x ∷ tracks) track same long window urls at =
    own_from c (from + 1) t k tracks track (omega arith) (none_behind _ _ long) (none_behind _ _ window) (none_behind _ _ urls) at

-- what accepted updates with MPDs that are given so leave, and of each track
module _ (terms : Terms) (IsGiven : Option Values → Type 0) (H : Common → Type 0) (T : Common → ℕ → Past → Type 0)
    (begins : (mpd : Values) (now : ℤ) (p : Presented) → IsGiven (Some mpd) → IsFirst terms mpd now p →
    let c = begun_common terms mpd now p in
    H c × ((t : ℕ) → t < length p.tracks → T c t (begun_past c t))) (goes_on : (w : Whole) (u : Update) (p : Presented) → IsGiven
    (mpd_of u) → w.common.terms ≡ terms → IsAllowed (shown w) u p → H w.common →
    let c = common_with w.common u p in
    H c × ((t : ℕ) (past : Past) → IsWithin t past → IsOwn c t (track_of (unit_of c.terms) past) → T w.common t past
    → T c t (past_after c t past))) where
  pub accepted_hold : (history : List Update) → IsAccepted terms history
      → ((front : List Update) (u : Update) (back : List Update) → history ≡ front ++ u ∷ back → IsGiven (mpd_of u))
      → (w : Whole) → whole_of terms history ≡ Some w → H w.common × Each (T w.common) w.pasts
  unfolding state_of
  accepted_hold history accepted given w is = holds terms (λ history w. H w.common × Each (T w.common) w.pasts)
      (λ earlier u. (update_refusal terms earlier u ≡ None) × IsGiven (mpd_of u)) (λ earlier mpd now p from here made.
      let both = begins mpd now p here.1
      (first_allowed terms mpd now p (ap (λ o. refusal_behind terms (option_map shown o) (Refresh mpd now)) (sym from) ∙ here.0) made) in
      (both.0, each_begun (begun_common terms mpd now p) (T (begun_common terms mpd now p)) both.1)) (λ earlier u v p from here made its.
      let c : Common = common_with v.common u p in
      let is = sound terms earlier v from in
      let none : refusal_of (shown v) u ≡ None = ap (λ o. refusal_behind terms (option_map shown o) u) (sym from) ∙ here.0 in
      let allow : IsAllowed (shown v) u p =
      allowed (shown v) u p none (subst (λ (x : Terms). force_by x v.common.force u ≡ Ok p) (sym is.its_terms) made) in
      let both = goes_on v u p here.1 is.its_terms allow its.0 in
      let own = λ (t : ℕ) (past : Past) (at : slice_get v.pasts t ≡ Some past). own_from c 0 t t (shown v).tracks
      (track_of (unit_of c.terms) past) (omega arith) allow.long (none_first _ _ allow.window) allow.urls
      (cc (slice_get-map (track_of (unit_of c.terms)) v.pasts t)) in (
        both.0,
        each_after c (λ t past. IsWithin t past × IsOwn c t (track_of (unit_of c.terms) past) × T v.common t past) (T c)
            (λ t past all. both.1 t past all.0 all.1 all.2) v.pasts (λ t past at. (is.within t past at, own t past at, its.1 t past at)),
      )) history (λ front u back same. (accepted front u back same, given front u back same)) w is
