-- What is written of followed tracks is read again: no target duration is long, and segments of accepted updates have addresses.
use Rattle.hls_media.specs.Media as hls
use Rattle.laws_of_playlists.specs.ReadMedia as read
use Rattle.mpd_levels.specs.Segments.{segments_of as told_segments_of}
use Rattle.std.proofs.Common.{zero, suc, ◌≡◌, ℕ, true, ◌+◌, ◌*◌, ◌^◌, ◌≤◌, ◌<◌, List, [], ◌∷◌, ◌++◌, map, length, Option, Ok, IfSome, sym}
use Rattle.std.proofs.Common.{get_or, subst, arith, ◌-◌, Bool, ℤ, filter, Some, None, refl, ◌∙◌, ap, inl, inr, drop, length-append}
use Rattle.std.proofs.{lemmas.Bool.Decides.nat_tests, lemmas.Bool.cases_Bool, lemmas.Grind.div_ceil_times}
use Rattle.std.proofs.Math.Nat.{mul-le-mul_left, one-le-pow}
use Rattle.std.proofs.lemmas.List.Elements.{All-append, filter_passes, All-push, All-drop, All-map, All-nil}
use Rattle.std.proofs.{lemmas.List.{get_or_at, length-map, length_push, get_or_append_left}}
use Rattle.std.proofs.{lemmas.List.Sums.fold-append, lemmas.Option.slice_get-map}
use Rattle.std.specs.{Prelude.{All, codes, option_and_then, unwrap_or, flat_map, option_map, slice_get}, List.{range_with_len, fold}}
use Rattle.std.specs.Option.{option_map_or}
use Rattle.iso_time.specs.Duration.{duration_of}
use Rattle.mpd_tree.specs.Trees.{Element}
use Rattle.mpd_profile.specs.{Heads.{is_dynamic, value_named}, declared.listed.Addressing.TheVariants.Segments as OneByOne}
use Rattle.mpd_profile.specs.Refusals.{feature_refusals, refusals_of, root_refusals, value_refusals}
use Rattle.mpd_profile.proofs.Sound.{sound_root}
use Rattle.mpd_rules.specs.{Readings.duration_within, Rules.{all_refusals, dash_values, segments_refused, typed_mpd_of}}
use Rattle.mpd_rules.proofs.Fitting.{mpd_fits}
use Rattle.presentation.specs.{Counting.{count_faults, sections_of}, Presented.{Presented, listed_at}, Printing.durations_of}
use Rattle.presentation.specs.Verifying.{greatest, longest_at, longest_of, part_fault, part_faults, url_faults}
use Rattle.presentation.specs.{declared.parts.Content.Content, Laws.HasAddress, MeaningLaws.MadeAreMeant}
use Rattle.mpd_presentation.specs.Told.{presented_of}
use Rattle.presentation.proofs.{Reached.{all_reached, none_first, none_later, none_within}, Addressed.all_addressed, Grids.All-at}
use Rattle.mpd_presentation.proofs.Ending.{none_behind}
use Rattle.live_meaning.specs.Updates.{Values, Terms, Update, mpd_of, unit_of}
use Rattle.live_meaning.specs.Histories.{longest_in, Common, Whole, begun_common, common_with, new_listed, numbering_of, whole_of, Past}
use Rattle.live_meaning.specs.{Histories.all_of, Removal.{half_more, target_of}}
use Rattle.live_meaning.specs.Segments.{Numbering, Segment, behind, is_later, listed_of, Kept, segments_of}
use Rattle.live_meaning.specs.{States.{Track, track_of, shown, state_of}, Refusals.{is_new_at, new_at, urls_in, update_refusal}}
use Rattle.live_meaning.specs.Laws.{IsAccepted, AcceptedAreAccepted, AreTyped, DurationsFitTarget, IsTyped, NumbersStaySmall}
use Rattle.live_meaning.specs.Laws.{ReloadsAreLawful, SectionsHaveOneMap, SectionsNeverFall, Shows, accepted_of, media_of, segment_of}
use Rattle.live_meaning.specs.{Laws.with_accepted, Playlists.{FollowedPlaylist, first_section, item_of, live_text, playlist_with}}
use Rattle.live_meaning.proofs.Histories.{EachBehind, forced, accepted_hold, Each, get_drop, kept_segments, told-segments, unmapped}
use Rattle.live_meaning.proofs.{Histories.sound, Orders.{behind_have, listed_have, made_in}, Playlists.shown_playlist}
use Rattle.laws_of_playlists.specs.Origins.{AreInPace, AreShortInPace, CameFromMpd, AreLocated, InitializationsAreLocated, IsFound}
use Rattle.laws_of_playlists.specs.Origins.{IsLocated, PartsAreLocated, ReadingsAreOfBytes}
use Rattle.laws_of_playlists.specs.ReadMedia.{AreInOrder, GoOn, IsReadableItem, ReadsAs, SpelledAreRead, Spells}
use Rattle.laws_of_playlists.proofs.OriginKept.{are_untold}
use Rattle.laws_of_taken_playlists.{specs.Laws.IsShortItem, proofs.{Rounding.not_long, Whole.written_are_taken}}
use Rattle.url_parts.specs.{Addresses.IsAddress}
use Rattle.timeline.specs.{Expansions.{SegmentTimeline, Timing}, Listed.part_of_timing}
use Rattle.followed.specs.Durations.{Last, durations, told}
use Rattle.laws_of_reloads.specs.Laws.{IsRead, IsReadIfAny, AreRead, FollowedTextsAreRead, FollowedTextsReload, IsFollowed}
use Rattle.laws_of_reloads.specs.Laws.{FollowedTextsAreTaken, ReadTextsReload, TakenTextsReload}
use Rattle.bridge_io.specs.{Answer.and_then, Places.place_of}
use Rattle.hls_media.specs.{Media.{lines_or_fault, media_in, media_of as read_media}, declared.media.Media.Media}
use Rattle.hls_writer.specs.Finished.{rounded}
use Rattle.reload_law.specs.Laws.{RulesAreSentences}

abbrev pub IsShort : Option ℕ → Type 0
IsShort o = IfSome o (λ n. n < 10 ^ 19)

text_in_range : (o : Option (List ℕ)) → IsShort (option_and_then duration_within o)
unfolding duration_of
text_in_range o = grind (arith, nat_tests)

pub longest_told : (tree : Element) (mpd : Values) → typed_mpd_of tree ≡ Ok mpd → IsShort mpd.facts.max_segment
unfolding typed_mpd_of all_refusals dash_values refusals_of
longest_told tree mpd is =
    let told = are_untold OneByOne true segments_refused told_segments_of tree mpd is in
    let none = none_behind (root_refusals tree ++ feature_refusals tree) (value_refusals OneByOne tree) told.profile in
    let fits = mpd_fits OneByOne (is_dynamic tree.head) tree (sound_root OneByOne tree none) in
    subst (λ (m : Values). IsShort m.facts.max_segment) (sym told.values)
    (subst IsShort fits.max_segment (text_in_range (value_named (codes "maxSegmentDuration") tree.head)))

half_more_short : (unit units bound : ℕ) → 0 < unit → units ≤ bound * unit → half_more unit units ≤ 2 * bound + 1
half_more_short unit units bound some le =
    let over = λ (more : 2 * bound + 1 < half_more unit units). mul-le-mul_left (2 * unit) more in
    grind (arith, (div_ceil_times (3 * units) (2 * unit) (omega arith)).1, over)

greatest_most : (bound : ℕ) (ns : List ℕ) → All (λ n. n ≤ bound) ns → greatest ns ≤ bound
greatest_most bound [] all = omega arith
greatest_most bound (n ∷ ns) all = omega (arith, all 0 n (omega arith), greatest_most bound ns (λ j d less. all (suc j) d (omega arith)))

ranged : (f : ℕ → ℕ) (a n bound : ℕ) → ((k : ℕ) → k < a + n → f k ≤ bound) → greatest (map f (range_with_len a n)) ≤ bound
ranged f a zero bound each = omega arith
ranged f a (suc n) bound each = omega (arith, each a (omega arith), ranged f (a + 1) n bound (λ k less. each k (omega arith)))

pub longest_short : AreInPace → AreShortInPace → (p : Presented) (unit : ℕ) → CameFromMpd p → count_faults p ≡ []
    → longest_in unit p ≤ 2000000 * unit
longest_short paced short p unit from none = ranged (longest_of p unit) 0 (length p.tracks) (2000000 * unit)
    (λ t in_tracks. ranged (longest_at p unit t) 0 (length p.sections) (2000000 * unit) (λ s in_sections.
    greatest_most (2000000 * unit) (durations_of unit (listed_at p s t)) (short (listed_at p s t) unit
    (paced p s t from (all_reached p none t (omega arith) s (omega arith))))))

pub target_short : (unit longest : ℕ) (max_segment : Option ℕ) → 0 < unit → longest ≤ 2000000 * unit → IsShort max_segment
    → target_of unit longest max_segment ≤ 10 ^ 11
target_short unit longest max_segment some le short =
    let told : unwrap_or max_segment 0 ≤ 10 ^ 10 * 10 ^ 9 = grind (arith, short) in
    let own = half_more_short unit longest 2000000 some le in
    omega (arith, own, half_more_short (10 ^ 9) (unwrap_or max_segment 0) (10 ^ 10) (omega arith) told)

-- ---- segments without a fault
have_addresses : (timeline : SegmentTimeline) (s t k : ℕ) (xs : List Timing) → part_faults timeline s t k xs ≡ []
    → All (HasAddress timeline) xs
have_addresses timeline s t k [] none j d within = absurd (omega arith)
have_addresses timeline s t k (x ∷ xs) none zero d within =
    grind (arith, none_first (part_fault s t k (part_of_timing timeline x)) (part_faults timeline s t (k + 1) xs) none)
have_addresses timeline s t k (x ∷ xs) none (suc j) d within =
    have_addresses timeline s t (k + 1) xs (none_later _ _ none) j d (omega arith)

left_have : {X : Type 0} (P : X → Type 0) (test : X → Bool) (xs : List X) → All P (filter test xs) → All (λ x. test x ≡ true → P x) xs
left_have {X} P test [] all j d within is = absurd (omega arith)
left_have {X} P test (x ∷ xs) all zero d within is = grind (arith, all 0 x)
left_have {X} P test (x ∷ xs) all (suc j) d within is = elim (cases_Bool (test x)) [
  | inl here ↦ let rest : All P (x ∷ filter test xs) = rw here at all in
      left_have P test xs (λ i e less. rest (suc i) e (omega arith)) j d (omega arith) is
  | inr other ↦ left_have P test xs (rw other at all) j d (omega arith) is
]

pub record IsContentAddressed (content : Content) : Type 0 where
  pub initialization : IsLocated content.initialization
  pub parts : AreLocated content.runs

pub record IsAddressed (x : Segment) : Type 0 where
  pub part : IsLocated x.value.part
  pub map : IsLocated x.value.map

behind_pass : (last : Option Last) (place : ℕ) (xs : List Segment)
    → All (λ x. option_map_or (λ last. is_later last place x.value.place x.end) last true ≡ true) (behind last place xs)
behind_pass None place xs = λ j d within. refl
behind_pass (Some last) place xs = filter_passes (λ (x : Segment). is_later last place x.value.place x.end) xs

module _ (meant : MadeAreMeant) where
  made_addressed : (n : Numbering) (p : Presented) (s : ℕ) (content : Content) (x : Timing) → IsContentAddressed content
      → HasAddress content.runs x → IsAddressed (made_in n p s content x)
  made_addressed n p s content x is has =
      record { part = subst IsLocated (meant content.runs x has.0 has.1) (is.parts x has.0 has.1); map = is.initialization }

  first_addressed : (c : Common) (p : Presented) (t : ℕ) → All IsContentAddressed p.contents → url_faults p ≡ [] → t < length p.tracks
      → All IsAddressed (listed_of (numbering_of c) p t)
  first_addressed c p t contents none in_tracks = listed_have IsAddressed (numbering_of c) p t (λ s content less at.
      let has = subst (λ (o : Option Content). IfSome o (λ content. All (HasAddress content.runs) (listed_at p s t))) at
      (all_addressed p s t none less in_tracks) in
      λ j d within. made_addressed (numbering_of c) p s content _ (All-at IsContentAddressed p.contents _ content contents at)
      (has j d within))

  new_addressed : (c : Common) (p : Presented) (t : ℕ) (track : Track) → All IsContentAddressed p.contents → flat_map (urls_in c p t track)
      (sections_of p) ≡ [] → All IsAddressed (behind track.last track.place (listed_of (numbering_of c) p t))
  new_addressed c p t track contents none =
      let listed : List Segment = listed_of (numbering_of c) p t in
      let is_new : Segment → Bool = λ y. option_map_or (λ last. is_later last track.place y.value.place y.end) track.last true in
      let all : All (λ y. is_new y ≡ true → IsAddressed y) listed =
      listed_have (λ y. is_new y ≡ true → IsAddressed y) (numbering_of c) p t (λ s content less at.
      let new : List Timing = new_at c p track t s in
      let many : ℕ = length (listed_at p s t) - length new in
      let faults = ap (λ o. option_map_or (λ (content : Content). part_faults content.runs s t many new) o []) (sym at)
      ∙ none_within (urls_in c p t track) (length p.sections) s none less in
      let has = left_have (HasAddress content.runs) (is_new_at c p track s) (listed_at p s t)
      (have_addresses content.runs s t many new faults) in
      λ j d within new_is. made_addressed (numbering_of c) p s content _ (All-at IsContentAddressed p.contents _ content contents at)
      (has j d within new_is)) in
      λ j d within. behind_have (λ y. is_new y ≡ true → IsAddressed y) track.last track.place listed all j d within
      (behind_pass track.last track.place listed j d within)

pub record AreAddressed (c : Common) : Type 0 where
  pub contents : All IsContentAddressed c.force.contents
  pub target : c.target ≤ 10 ^ 11

module _ (meant : MadeAreMeant) (initializations : InitializationsAreLocated) (parts : PartsAreLocated) (readings : ReadingsAreOfBytes)
    (paced : AreInPace) (short : AreShortInPace) (terms : Terms) (url : IsAddress terms.url) where
  abbrev came : (mpd : Values) (now : ℤ) (p : Presented) → IsRead mpd → presented_of mpd terms.url (Some now) ≡ Ok p → CameFromMpd p
  came mpd now p read made = record { tree = read.tree; mpd = mpd; url = terms.url; now = Some now; typed = read.typed; presented = made }

  contents_addressed : (mpd : Values) (now : ℤ) (p : Presented) → IsRead mpd → presented_of mpd terms.url (Some now) ≡ Ok p
      → All IsContentAddressed p.contents
  contents_addressed mpd now p read made =
      let found : IsFound read.tree terms.url = record { tree = readings read.bytes read.tree read.are read.reading; url = url } in
      let from = came mpd now p read made in
      λ j d within. record { initialization = initializations p from found j d within; parts = parts p from found j d within }

  pub accepted_addressed : (history : List Update) → IsAccepted terms history → EachBehind (λ front u. IsReadIfAny (mpd_of u)) history
      → (w : Whole) → whole_of terms history ≡ Some w → AreAddressed w.common × Each (λ t past. All IsAddressed past.all) w.pasts
  accepted_addressed = accepted_hold terms IsReadIfAny AreAddressed (λ c t past. All IsAddressed past.all) (λ mpd now p read first.
      let c : Common = begun_common terms mpd now p in
      let unit : ℕ = unit_of terms in
      let some : 1 ≤ unit = one-le-pow terms.digits 10 (omega arith) in
      let contents = contents_addressed mpd now p read first.made in
      let longest = longest_short paced short p unit (came mpd now p read first.made) first.counts in
      let target = target_short unit (longest_in unit p) mpd.facts.max_segment some longest (longest_told read.tree mpd read.typed) in
      (record { contents = contents; target = target }, λ t less. first_addressed meant c p t contents first.urls less))
      (λ w u p read its allowed is.
      let c : Common = common_with w.common u p in
      let contents = forced (λ q. All IsContentAddressed q.contents) w.common.terms w.common.force u p allowed.forced
      (λ mpd now told made. contents_addressed mpd now p (subst IsReadIfAny told read)
      (subst (λ (x : Terms). presented_of mpd x.url (Some now) ≡ Ok p) its made)) (λ now. is.contents) in (
        record { contents = contents; target = is.target },
        λ t past within own all. All-append IsAddressed past.all (new_listed c t past.all) all
            (new_addressed meant c p t (track_of (unit_of c.terms) past) contents own.urls),
      ))

-- ---- items that are read as they were written
kept_readable : (digits target first : ℕ) (all : List Segment) → target ≤ 10 ^ 11 → All IsAddressed all
    → All (λ d. rounded (10 ^ digits) d ≤ target) (durations (told (10 ^ digits) all))
    → All (IsReadableItem digits) (map item_of (drop first (told (10 ^ digits) all)))
kept_readable digits target first all short addressed fits =
    let ts : List Kept = told (10 ^ digits) all in
    let parts = unmapped IsAddressed (λ (k : Kept). k.segment) ts (subst (All IsAddressed) (sym (told-segments (10 ^ digits) None all))
    addressed) in
    let lengths = unmapped (λ d. rounded (10 ^ digits) d ≤ target) (λ (k : Kept). k.duration) ts fits in
    All-map (IsReadableItem digits) item_of (drop first ts) (All-drop (λ k. IsReadableItem digits (item_of k)) first ts
    (λ j d within. grind (arith, nat_tests, parts j d within, lengths j d within, short)))

kept_short : (digits target first : ℕ) (all : List Segment) → digits ≤ 9
    → All (λ d. rounded (10 ^ digits) d ≤ target) (durations (told (10 ^ digits) all))
    → All (IsShortItem target digits) (map item_of (drop first (told (10 ^ digits) all)))
kept_short digits target first all few fits =
    let ts : List Kept = told (10 ^ digits) all in
    let lengths = unmapped (λ d. rounded (10 ^ digits) d ≤ target) (λ (k : Kept). k.duration) ts fits in
    All-map (IsShortItem target digits) item_of (drop first ts) (All-drop (λ k. IsShortItem target digits (item_of k)) first ts
    (λ j d within. not_long digits (get_or ts j d).duration target few (lengths j d within)))

abbrev Follows : Segment → Segment → Type 0
Follows x y = (x.section ≤ y.section) × (x.section ≡ y.section → y.value.map ≡ x.value.map)

abbrev AllFollow : List Segment → Type 0
AllFollow xs = (i j : ℕ) (x y : Segment) → i ≤ j → slice_get xs i ≡ Some x → slice_get xs j ≡ Some y → Follows x y

go_on : (k : Kept) (ks : List Kept) → AllFollow (segments_of (k ∷ ks)) → GoOn (item_of k) (map item_of ks)
go_on k [] follow = tt
go_on k (m ∷ ks) follow =
    let next = follow 0 1 k.segment m.segment (omega arith) refl refl in
    (record { section = next.0; map = next.1 }, go_on m ks (λ i j x y le at_x at_y. follow (suc i) (suc j) x y (omega arith) at_x at_y))

in_order : (ks : List Kept) → AllFollow (segments_of ks) → AreInOrder (map item_of ks)
in_order [] follow = tt
in_order (k ∷ ks) follow = go_on k ks follow

counted : (digits first : ℕ) (ks : List Kept) → ((i : ℕ) (x : Segment) → slice_get (segments_of ks) i ≡ Some x → first ≤ x.section)
    → map (read.segment_of first first digits) (map item_of ks) ≡ map (segment_of digits) (map item_of ks)
counted digits first [] from = refl
counted digits first (k ∷ ks) from =
    let here : first + (k.segment.section - first) ≡ k.segment.section = omega (arith, from 0 k.segment refl) in
    cc (here, counted digits first ks (λ i x at. from (suc i) x at))

segments_are : (digits : ℕ) (ks : List Kept) → AllFollow (segments_of ks)
    → read.segments_of (first_section ks) digits (map item_of ks) ≡ map (segment_of digits) (map item_of ks)
segments_are digits [] follow = refl
segments_are digits (k ∷ ks) follow =
    counted digits k.segment.section (k ∷ ks) (λ i x at. (follow 0 i k.segment x (omega arith) refl at).0)

typed_if_read : (o : Option Values) → IsReadIfAny o → IsTyped o
typed_if_read None read = tt
typed_if_read (Some mpd) read = (read.tree, read.typed)

each_read : (history : List Update) → AreRead history → (front : List Update) (u : Update) (back : List Update) → history
    ≡ front ++ u ∷ back → IsReadIfAny (mpd_of u)
each_read history read front u back same =
    grind (arith, same, read (length front) u, get_or_at front u back u (length front), length-append front (u ∷ back))

first_below : (bound : ℕ) (ks : List Kept) → All (λ x. x.section < bound) (segments_of ks) → bound ≤ 2 ^ 63 → first_section ks < 2 ^ 63
first_below bound [] all most = omega arith
first_below bound (k ∷ ks) all most = omega (arith, all 0 k.segment (omega arith), most)

-- a playlist that is read back as it was written, with numbers that are small
record CanBeRead (playlist : FollowedPlaylist) : Type 0 where
  head : read.IsReadableHead playlist.head
  items : read.AreReadable playlist.head.digits playlist.items
  same : read.segments_of playlist.head.first_section playlist.head.digits playlist.items
      ≡ map (segment_of playlist.head.digits) playlist.items
  sequence : playlist.head.sequence < 2 ^ 63
  first_section : playlist.head.first_section < 2 ^ 63
  kept : length playlist.items ≤ 20000
  fits : All (IsShortItem playlist.head.target playlist.head.digits) playlist.items

module _ (never_fall : SectionsNeverFall) (one_map : SectionsHaveOneMap) (fit : DurationsFitTarget) (small : NumbersStaySmall)
    (meant : MadeAreMeant) (initializations : InitializationsAreLocated) (parts : PartsAreLocated) (readings : ReadingsAreOfBytes)
    (paced : AreInPace) (short : AreShortInPace) (read_again : SpelledAreRead) where
  past_readable : (terms : Terms) (history : List Update) (w : Whole) (t : ℕ) (past : Past) → IsFollowed terms history
      → IsAccepted terms history → whole_of terms history ≡ Some w → slice_get w.pasts t ≡ Some past
      → CanBeRead (playlist_with w.common (track_of (unit_of w.common.terms) past))
  unfolding state_of
  past_readable terms history w t past followed accepted whole at =
      let shows : Shows terms history (shown w) = record { accepted = accepted; leaves = ap (option_map shown) whole } in
      let read = each_read history followed.read in
      let typed : AreTyped history = λ front u back same. typed_if_read (mpd_of u) (read front u back same) in
      let its_terms : w.common.terms ≡ terms = (sound terms history w whole).its_terms in
      let digits : ℕ = w.common.terms.digits in
      let track : Track = track_of (10 ^ digits) past in
      let all : all_of terms history t ≡ past.all = grind (arith, whole, at) in
      let there : (k : ℕ) → slice_get (segments_of track.kept) k ≡ slice_get (all_of terms history t) (past.first + k) =
      λ k. cc (all, kept_segments (10 ^ digits) past.first past.all, get_drop past.first past.all k) in
      let follow : AllFollow (segments_of track.kept) = λ i j x y le at_x at_y.
      let x_at = sym (there i) ∙ at_x in
      let y_at = sym (there j) ∙ at_y in (
        never_fall terms history t (past.first + i) (past.first + j) x y accepted typed (omega arith) x_at y_at,
        λ same. sym (one_map terms history t (past.first + i) (past.first + j) x y accepted typed x_at y_at same).map,
      ) in
      let addressed = accepted_addressed meant initializations parts readings paced short terms followed.url history accepted read w whole
      in
      let fits = rw (all, ← its_terms) at (fit terms history (shown w) t shows typed) in
      let there : slice_get (shown w).tracks t ≡ Some track = cc (slice_get-map (track_of (10 ^ digits)) w.pasts t) in
      let numbers = small terms history (shown w) t track shows there in
      let few = followed.few in
      record {
        head = grind (arith, addressed.0.target, numbers, numbers.1.sections 0, few);
        items = record {
          few = subst (λ (x : Terms). x.digits ≤ 9) (sym its_terms) followed.digits;
          each = kept_readable digits w.common.target past.first past.all addressed.0.target (addressed.1 t past at) fits;
          order = in_order track.kept follow;
        };
        same = segments_are digits track.kept follow;
        sequence = omega (arith, numbers.1.listed, numbers.0, few);
        first_section = first_below (1001 * w.common.accepted) track.kept (λ k d within. numbers.1.sections k d within)
            (omega (arith, numbers.0, few));
        kept = omega (arith, length-map track.kept item_of, numbers.1.kept);
        fits = kept_short digits w.common.target past.first past.all (subst (λ (x : Terms). x.digits ≤ 9) (sym its_terms) followed.digits)
            fits;
      }

  pub followed_texts_are_read : FollowedTextsAreRead
  followed_texts_are_read place terms history s t playlist url spells followed shows there =
      let (w, past, whole, at, same, made) = shown_playlist terms history s t playlist shows.leaves there in
      let can = subst CanBeRead made (past_readable terms history w t past followed shows.accepted whole at) in
      let is = read_again place playlist.head playlist.items url spells can.head can.items in
      (is.0, (is.1.0, cc (is.1.1, can.same)))

  pub followed_texts_are_taken : FollowedTextsAreTaken
  followed_texts_are_taken place terms history s t playlist url spells followed shows there within =
      let (w, past, whole, at, same, made) = shown_playlist terms history s t playlist shows.leaves there in
      let can = subst CanBeRead made (past_readable terms history w t past followed shows.accepted whole at) in
      written_are_taken place playlist.head playlist.items url spells (record {
        readable_head = can.head;
        readable = can.items;
        small = record { target = within.target; sequence = can.sequence; first_section = can.first_section };
        few = omega (arith, can.kept);
        each = within.each;
        short = can.fits;
      }) ∙ ap Ok (cc can.same)

-- ---- reloads
-- what holds of each of some updates holds of those that are accepted, which are no more
abbrev accepted_behind : Terms → List Update → List Update → List Update
accepted_behind terms history updates = fold (λ history u. with_accepted terms history u (update_refusal terms history u)) history updates

all_accepted : (terms : Terms) (updates history : List Update) → AreRead history → AreRead updates
    → AreRead (accepted_behind terms history updates) × (length (accepted_behind terms history updates) ≤ length history + length updates)
all_accepted terms [] history all each = (all, omega arith)
all_accepted terms (u ∷ updates) history all each =
    let more : List Update = with_accepted terms history u (update_refusal terms history u) in
    let pushed = All-push (λ u. IsReadIfAny (mpd_of u)) history u all (each 0 u (omega arith)) in
    let one : AreRead more × (length more ≤ length history + 1) = grind (arith, pushed, length_push history u, all) in
    let rest = all_accepted terms updates more one.0 (λ j d within. each (suc j) d (omega arith)) in
    (rest.0, omega (arith, rest.1, one.1))

accepted_followed : (terms : Terms) (updates : List Update) → IsFollowed terms updates → IsFollowed terms (accepted_of terms updates)
accepted_followed terms updates is =
    let kept = all_accepted terms updates [] (All-nil _) is.read in
    record { url = is.url; digits = is.digits; read = kept.0; few = omega (arith, is.few, kept.1) }

front_followed : (terms : Terms) (updates : List Update) (u : Update) → IsFollowed terms (updates ++ u ∷ []) → IsFollowed terms updates
front_followed terms updates u is =
    let many = length-append updates (u ∷ []) in
    let read : AreRead updates = λ k d within.
    grind (arith, get_or_append_left updates (u ∷ []) d k within, is.read k d (omega (arith, within, many))) in
    record { url = is.url; digits = is.digits; read = read; few = omega (arith, is.few, many) }

-- what a reader gives of a text is what it is read as
only_meaning : (text url : List ℕ) (media given : Media) → ReadsAs text url media → read_media text url ≡ Ok given → media ≡ given
unfolding hls.media_of media_in
only_meaning text url media given is found =
    let of_lines = ap (λ r. and_then (lines_or_fault r) (media_in (place_of text (length text)) url)) (sym is.1.0) ∙ found in
    grind (arith, is.1.1, of_lines)

module _ (texts : FollowedTextsAreRead) (taken : FollowedTextsAreTaken) (reload : ReloadsAreLawful) (sentences : RulesAreSentences)
    (accepted : AcceptedAreAccepted) where
  pub followed_texts_reload : FollowedTextsReload
  followed_texts_reload place terms updates u t old new url spells is =
      let history : List Update = accepted_of terms updates in
      let more : List Update = accepted_of terms (updates ++ u ∷ []) in
      let shows : Shows terms history is.before = record { accepted = accepted terms updates; leaves = is.leaves } in
      let shows_more : Shows terms more is.after = record { accepted = accepted terms (updates ++ u ∷ []); leaves = is.leaves_more } in
      let grown : more ≡ history ++ u ∷ [] = fold-append (λ history u. with_accepted terms history u (update_refusal terms history u)) []
      updates (u ∷ []) ∙ ap (with_accepted terms history u) is.accepted in
      let front = accepted_followed terms updates (front_followed terms updates u is.followed) in
      let shows_grown = subst (λ (us : List Update). Shows terms us is.after) grown shows_more in
      record {
        before = media_of old;
        after = media_of new;
        old_is = texts place terms history is.before t old url spells front shows is.old_is;
        new_is = texts place terms more is.after t new url spells
            (accepted_followed terms (updates ++ u ∷ []) is.followed) shows_more is.new_is;
        lawful = (sentences (media_of old) (media_of new)).0
            (reload terms history u is.before is.after t old new shows shows_grown is.old_is is.new_is);
      }

  pub read_texts_reload : ReadTextsReload
  read_texts_reload place terms updates u t old new url before after spells is old_read new_read =
      let own = followed_texts_reload place terms updates u t old new url spells is in
      let old_same = only_meaning (live_text place old) url own.before before own.old_is old_read in
      rw (← old_same, ← only_meaning (live_text place new) url own.after after own.new_is new_read) own.lawful

  pub taken_texts_reload : TakenTextsReload
  unfolding followed_texts_reload
  taken_texts_reload place terms updates u t old new old_url new_url old_spells new_spells is old_within new_within =
      let history : List Update = accepted_of terms updates in
      let more : List Update = accepted_of terms (updates ++ u ∷ []) in
      let shows : Shows terms history is.before = record { accepted = accepted terms updates; leaves = is.leaves } in
      let shows_more : Shows terms more is.after = record { accepted = accepted terms (updates ++ u ∷ []); leaves = is.leaves_more } in
      let front = accepted_followed terms updates (front_followed terms updates u is.followed) in
      let whole = accepted_followed terms (updates ++ u ∷ []) is.followed in
      let old_read = taken place terms history is.before t old old_url old_spells front shows is.old_is old_within in
      let new_read = taken place terms more is.after t new new_url new_spells whole shows_more is.new_is new_within in
      let both = followed_texts_reload place terms updates u t old new old_url old_spells is in
      (old_read, (new_read, both.lawful))
