-- What accepted updates of typed MPDs leave: their Periods are the last ones of those that are known, their segments stand in order, those
-- of one section lie in one Period and have one map, and no duration is longer than the target allows.
use Rattle.std.proofs.Common.{◌≡◌, ℕ, zero, suc, ◌+◌, Bool, true, false, not, List, [], ◌∷◌, ◌++◌, length, drop, take, filter, Some}
use Rattle.std.proofs.Common.{bytes_eq, refl, sym, ◌∙◌, ap, subst, inl, inr, arith, ◌*◌, ◌<◌, ℤ, map, flat_map, Option, None, Ok, get_or}
use Rattle.std.proofs.{Common.{◌≤◌, ◌/◌}, lemmas.Bool.{and_parts, cases_Bool, cases_lt}}
use Rattle.std.proofs.lemmas.List.{append-nil, append_assoc, take-append-drop, length-map, map-append}
use Rattle.std.proofs.{lemmas.List.Folds.{list_any-append, list_any_at, find-append, find_at}, lemmas.List.Sums.prefix_len-le-length}
use Rattle.std.proofs.lemmas.Option.{same_Some, get_or_from_slice_get, slice_get_within, slice_get-map}
use Rattle.std.proofs.{lemmas.Slice.Eq.{bytes_eq-Decides, starts_is}, lemmas.Bool.Decides.nat_tests}
use Rattle.std.proofs.{lemmas.List.Elements.{filter-append, All-nil, All-append, All-map}, lemmas.Simd.map-map}
use Rattle.std.proofs.Math.Nat.{mul-le-mul_left, one-le-pow}
use Rattle.std.proofs.lemmas.List.FromFn.{length-map-range_with_len, get_or-range_with_len, length-range_with_len}
use Rattle.std.proofs.{lemmas.Grind.div_ceil_times, lemmas.Nat.div-add-mod'}
use Rattle.std.specs.Prelude.{is_none, slice_get, All, is_some, option_map, option_to_list}
use Rattle.std.specs.{List.{list_all, list_any, position_or_len, starts_with, find, range_with_len}, Option.option_map_or}
use Rattle.bridge_io.proofs.Texts.{bytes_eq_sym, equals_itself, same_bytes}
use Rattle.mpd_rules.specs.Laws.{are_once, HaveIdsOnce, PeriodIdsDiffer, ids_of as ids_said}
use Rattle.live_meaning.specs.Segments.{place_of, Segment, id_at, listed_of, Kept, Numbering, listed_in_period, place_behind}
use Rattle.live_meaning.specs.Segments.{segment_with}
use Rattle.live_meaning.specs.Known.{Known, goes_on, goes_on_from, ids_of, is_new, known_by, Attributes, all_same, attributes_at}
use Rattle.live_meaning.specs.{Known.{attributes_of, has_id, known_at, known_with, periods_of}, Updates.{Terms, Update, Values, unit_of}}
use Rattle.live_meaning.specs.Histories.{Common, numbering_of, Past, Whole, all_of, begun_common, common_with, longest_in, new_listed}
use Rattle.live_meaning.specs.{Histories.whole_of, States.{State, shown, state_of}}
use Rattle.live_meaning.specs.Refusals.{Changed, are_alike, differs_at, ids_in, is_changed, moved_by, moved_told, mpd_told, older_than}
use Rattle.live_meaning.specs.Refusals.{rewritten_told, told_if}
use Rattle.live_meaning.specs.Laws.{HasRisingPeriods, IsTyped, AcceptedAreListedInOrder, AreTyped, DurationsFitTarget, IsAccepted}
use Rattle.live_meaning.specs.{Laws.{SectionsHaveOneMap, SectionsNeverFall}, Removal.half_more}
use Rattle.live_meaning.proofs.Histories.{IsAllowed, IsFirst, none_each, told_none, accepted_hold, ranged, unmapped, Each, get_more}
use Rattle.live_meaning.proofs.Histories.{forced, mapped, past_holds, sound}
use Rattle.live_meaning.proofs.Orders.{listed_have, flat_have, behind_have, past_ordered, period_own, periods_are_listed_in_order}
use Rattle.live_meaning.proofs.Orders.{steps_both, IsSoundIn, period_timed, presented_sound}
use Rattle.presentation.specs.{declared.track.Section.Section, declared.track.Track.Track as Described, Counting.sections_of}
use Rattle.presentation.specs.{Presented.{Presented, content_at, looked_at, start_of, listed_at}, declared.parts.Content.Content}
use Rattle.presentation.specs.{Printing.durations_of, Verifying.{greatest, longest_at, longest_of}}
use Rattle.mpd_presentation.specs.{PresentedLaws.SectionsArePeriods, Rows.{Row, first_rows, in_order, section_of, track_of}}
use Rattle.mpd_presentation.specs.Told.{presented_of}
use Rattle.mpd_presentation.proofs.{Ending.all_filled, FromMpd.is_told}
use Rattle.presentation.proofs.{Filling.length_in_order, Grids.{found, same_members, All-at}, Reached.none_within}
use Rattle.url_parts.specs.declared.address.Part.{Part}
use Rattle.timeline.specs.Expansions.{Timing}
use Rattle.hls_writer.specs.Finished.{rounded}
use Rattle.followed.specs.Durations.{durations, last_behind, told, told_behind, Last}
use Rattle.followed.proofs.Sections.{new_section, goes_on as told_goes_on, told_apart}

found_at : (ids : List (List ℕ)) (k : ℕ) (x : List ℕ) → are_once ids ≡ true → slice_get ids k ≡ Some x
    → position_or_len (bytes_eq x) ids ≡ k
found_at [] k x once at = absurd (cc)
found_at (y ∷ ids) zero x once at = grind (arith, nat_tests, same_Some _ _ at, (bytes_eq-Decides x y).1)
found_at (y ∷ ids) (suc k) x once at =
    let any = list_any_at (bytes_eq y) ids k x (slice_get_within ids k x at) in
    grind (arith, nat_tests, bytes_eq_sym x y, get_or_from_slice_get ids k x x at, any, found_at ids k x)

pub place_is : (ids : List (List ℕ)) (id : List ℕ) → place_of ids id ≡ position_or_len (bytes_eq id) ids
place_is ids id = grind (arith, nat_tests, prefix_len-le-length (λ x. not (bytes_eq id x)) ids)

pub placed_at : (ids : List (List ℕ)) (k : ℕ) (x : List ℕ) → are_once ids ≡ true → slice_get ids k ≡ Some x → place_of ids x ≡ k
placed_at ids k x once at = place_is ids x ∙ found_at ids k x once at

abbrev are_absent : (ids xs : List (List ℕ)) → Bool
are_absent ids xs = list_all (λ id. not (list_any (bytes_eq id) ids)) xs

absent-head : (x : List ℕ) (xs ys : List (List ℕ)) → are_absent (x ∷ xs) ys ≡ true
    → (list_any (bytes_eq x) ys ≡ false) × (are_absent xs ys ≡ true)
absent-head x xs = elim [ [] ↦ λ absent. (refl, refl) | y ∷ (ys → ih) ↦ λ absent. grind (arith, nat_tests, bytes_eq_sym x y, ih) ]

once-append : (xs ys : List (List ℕ)) → are_once xs ≡ true → are_once ys ≡ true → are_absent xs ys ≡ true → are_once (xs ++ ys) ≡ true
once-append [] ys first second absent = second
once-append (x ∷ xs) ys first second absent =
    grind (arith, nat_tests, list_any-append (bytes_eq x) xs ys, absent-head x xs ys absent, once-append xs ys)

once-behind : (xs ys : List (List ℕ)) → are_once (xs ++ ys) ≡ true → are_once ys ≡ true
once-behind = elim [ [] ↦ λ ys once. once | x ∷ (xs → ih) ↦ λ ys once. grind (arith, nat_tests, ih ys) ]

unknown : (known : List Known) (id : List ℕ) → is_none (known_by known id) ≡ not (list_any (bytes_eq id) (ids_of known))
unknown = elim [ [] ↦ λ id. refl | k ∷ (known → ih) ↦ λ id. grind (arith, nat_tests, ih id) ]

pub new_in : List (List ℕ) → List (List ℕ) → List (List ℕ)
new_in ids xs = filter (λ id. not (list_any (bytes_eq id) ids)) xs

pub new_ids : (known ks : List Known) → ids_of (filter (is_new known) ks) ≡ new_in (ids_of known) (ids_of ks)
unfolding new_in
new_ids known = elim [ [] ↦ refl | k ∷ (ks → ih) ↦ grind (arith, nat_tests, unknown known k.id, ih) ]

all_new : (ids xs : List (List ℕ)) → are_absent ids xs ≡ true → new_in ids xs ≡ xs
unfolding new_in
all_new ids = elim [ [] ↦ λ absent. refl | x ∷ (xs → ih) ↦ λ absent. grind (arith, nat_tests, ih) ]

none_new : (front xs : List (List ℕ)) → new_in (front ++ xs) xs ≡ []
unfolding new_in
none_new front [] = refl
none_new front (x ∷ xs) =
    let there = list_any-append (bytes_eq x) front (x ∷ xs) in
    grind (arith, nat_tests, there, equals_itself x, append_assoc front (x ∷ []) xs, none_new (front ++ x ∷ []) xs)

-- the ids in force are the last ones of those that are known, of which each stands once
pub record AreLast (known ids : List (List ℕ)) : Type 0 where
  pub front : List (List ℕ)
  pub split : known ≡ front ++ ids
  pub once : are_once known ≡ true

from_place : (known ids : List (List ℕ)) (places : List ℕ) → list_any (goes_on_from known ids) places ≡ true
    → (k : ℕ) × (goes_on_from known ids k ≡ true)
from_place known ids [] some = absurd (cc)
from_place known ids (k ∷ places) some = elim (cases_Bool (goes_on_from known ids k)) [
  | inl is ↦ (k, is)
  | inr other ↦ from_place known ids places (rw other at some)
]

grown : (known front rest fresh : List (List ℕ)) → known ≡ front ++ rest → are_once known ≡ true → are_once (rest ++ fresh) ≡ true
    → are_absent known fresh ≡ true → AreLast (known ++ new_in known (rest ++ fresh)) (rest ++ fresh)
unfolding new_in
grown known front rest fresh parts once own absent =
    let none : new_in known rest ≡ [] = subst (λ (xs : List (List ℕ)). new_in xs rest ≡ []) (sym parts) (none_new front rest) in
    let new = filter-append (λ id. not (list_any (bytes_eq id) known)) rest fresh in
    let whole : known ++ new_in known (rest ++ fresh) ≡ known ++ fresh = cc (none, new, all_new known fresh absent) in
    record {
      front = front;
      split = cc (whole, parts, append_assoc front rest fresh);
      once = ap are_once whole ∙ once-append known fresh once (once-behind rest fresh own) absent;
    }

pub last_with_new : (known ids : List (List ℕ)) → are_once known ≡ true → are_once ids ≡ true → goes_on known ids ≡ true
    → AreLast (known ++ new_in known ids) ids
last_with_new known ids once own is =
    let from = from_place known ids _ is in
    let rest : List (List ℕ) = drop from.0 known in
    let fresh : List (List ℕ) = drop (length rest) ids in
    let split = and_parts (starts_with bytes_eq ids rest) (are_absent known fresh) from.1 in
    let whole : ids ≡ rest ++ fresh = (starts_is bytes_eq-Decides ids rest (starts_with bytes_eq ids rest) refl).0 split.0 in
    subst (λ (xs : List (List ℕ)). AreLast (known ++ new_in known xs) xs) (sym whole)
    (grown known (take from.0 known) rest fresh (sym (take-append-drop from.0 known)) once (ap are_once (sym whole) ∙ own) split.1)

pub last_again : (known ids : List (List ℕ)) → AreLast known ids → AreLast (known ++ new_in known ids) ids
last_again known ids last =
    let once = once-behind last.front ids (ap are_once (sym last.split) ∙ last.once) in
    subst (λ (xs : List (List ℕ)). AreLast (known ++ new_in known xs) xs) (append-nil ids)
    (grown known last.front ids [] last.split last.once (ap are_once (append-nil ids) ∙ once) refl)

none_absent : (xs : List (List ℕ)) → are_absent [] xs ≡ true
none_absent = elim [ [] ↦ refl | x ∷ (xs → ih) ↦ ih ]

pub last_at_first : (ids : List (List ℕ)) → are_once ids ≡ true → AreLast ([] ++ new_in [] ids) ids
last_at_first ids once = grown [] [] [] ids refl refl once (none_absent ids)

pub get_behind : {X : Type 0} (front xs : List X) (k : ℕ) → slice_get (front ++ xs) (length front + k) ≡ slice_get xs k
get_behind {X} [] xs k = let none : length {A = X} [] + k ≡ k = omega arith in ap (λ n. slice_get xs n) none
get_behind {X} (x ∷ front) xs k =
    let more : length (x ∷ front) + k ≡ suc (length front + k) = omega arith in
    ap (λ n. slice_get (x ∷ front ++ xs) n) more ∙ get_behind front xs k

pub placed_in : (known ids : List (List ℕ)) (last : AreLast known ids) (s : ℕ) (x : List ℕ) → slice_get ids s ≡ Some x
    → place_of known x ≡ length last.front + s
placed_in known ids last s x at = placed_at known (length last.front + s) x last.once
    (ap (λ (xs : List (List ℕ)). slice_get xs (length last.front + s)) last.split ∙ get_behind last.front ids s ∙ at)

-- ---- ids of Periods
pub id_there : (xs : List Section) (s : ℕ) → s < length xs
    → slice_get (map (λ section. section.id) xs) s ≡ Some (option_map_or (λ section. section.id) (slice_get xs s) [])
id_there [] s less = absurd (omega arith)
id_there (x ∷ xs) zero less = refl
id_there (x ∷ xs) (suc s) less = id_there xs s (omega arith)

ids_of_periods : (p : Presented) → ids_of (periods_of p) ≡ ids_in p
ids_of_periods p =
    let n : ℕ = length p.sections in
    let many = length-map-range_with_len (known_at p) 0 n in
    let ids = length-map (periods_of p) (λ (k : Known). k.id) in
    let own = length-map p.sections (λ section. section.id) in
    same_members (ids_of (periods_of p)) (ids_in p) (omega (arith, many, ids, own)) (λ k below.
    let less : k < n = omega (arith, below, ids, many) in
    cc (slice_get-map (λ (k : Known). k.id) (periods_of p) k, ranged (known_at p) n k less, id_there p.sections k less))

pub known_grown : (known : List Known) (p : Presented) → ids_of (known_with known p) ≡ ids_of known ++ new_in (ids_of known) (ids_in p)
known_grown known p =
    cc (map-append (λ (k : Known). k.id) known (filter (is_new known) (periods_of p)), new_ids known (periods_of p), ids_of_periods p)

position_mapped : (known : List Known) (id : List ℕ) → position_or_len (bytes_eq id) (ids_of known) ≡ position_or_len (has_id id) known
position_mapped = elim [ [] ↦ λ id. refl | k ∷ (known → ih) ↦ λ id. grind (arith, nat_tests, ih id) ]

known_at_place : (known : List Known) (id : List ℕ) → slice_get known (place_of (ids_of known) id) ≡ known_by known id
known_at_place known id = cc (place_is (ids_of known) id, position_mapped known id, find_at (has_id id) known)

find_kept : (test keep : Known → Bool) (ks : List Known) → ((k : Known) → test k ≡ true → keep k ≡ true)
    → find test (filter keep ks) ≡ find test ks
find_kept test keep = elim [ [] ↦ λ all. refl | k ∷ (ks → ih) ↦ λ all. grind (arith, nat_tests, all k, ih all) ]

abbrev pub maps_of : List Attributes → List Part
maps_of attributes = map (λ a. a.initialization) attributes

abbrev pub IsAsKnown : Known → Presented → ℕ → Type 0
IsAsKnown k p s = (k.start ≡ start_of p s) × (maps_of k.attributes ≡ maps_of (attributes_at p s))

abbrev pub IsKnownIn : List Known → Presented → ℕ → Type 0
IsKnownIn known p s = (k : Known) × ((known_by known (id_at p s) ≡ Some k) × IsAsKnown k p s)

known_in : (known : List Known) (p : Presented) (s : ℕ) (o : Option Known) → are_once (ids_in p) ≡ true → s < length p.sections
    → known_by known (id_at p s) ≡ o → ((k : Known) → known_by known (id_at p s) ≡ Some k → IsAsKnown k p s)
    → IsKnownIn (known_with known p) p s
known_in known p s None once less none old =
    let id : List ℕ = id_at p s in
    let kept = find_kept (has_id id) (is_new known) (periods_of p) (λ k is. cc ((bytes_eq-Decides id k.id).0 is)) in
    let there = placed_at (ids_in p) s id once (id_there p.sections s less) in
    let own : known_by (periods_of p) id ≡ Some (known_at p s) =
    cc (known_at_place (periods_of p) id, ids_of_periods p, there, ranged (known_at p) (length p.sections) s less) in
    (known_at p s, (cc (find-append (has_id id) known (filter (is_new known) (periods_of p)), kept, own), (refl, refl)))
known_in known p s (Some k) once less is old =
    (k, (cc (find-append (has_id (id_at p s)) known (filter (is_new known) (periods_of p))), old k is))

-- ---- the presentation in force
-- Its Periods are the last ones that are known, each once, as they were accepted first; its times are sound, and it has
-- something of each of the first tracks in each Period.
pub record IsInForce (opened : Presented) (known : List Known) (p : Presented) : Type 0 where
  pub last : AreLast (ids_of known) (ids_in p)
  pub sound : All IsSoundIn p.contents
  pub tracks : length p.tracks ≡ length opened.tracks
  pub filled : length p.contents ≡ length p.sections * length p.tracks
  pub same : (s : ℕ) → s < length p.sections → IsKnownIn known p s

pub rising : (c : Common) → IsInForce c.opened c.known c.force → (t : ℕ) → HasRisingPeriods (numbering_of c) c.force t
rising c is t =
    let at = λ (s : ℕ) (less : s < length c.force.sections).
    placed_in (ids_of c.known) (ids_in c.force) is.last s (id_at c.force s) (id_there c.force.sections s less) in
    record {
      places = λ s r less within. omega (arith, less, at s (omega (arith, less, within)), at r within);
      last = λ s. (period_timed c.force s t is.sound).0;
      rise = λ s. (period_timed c.force s t is.sound).1;
    }

presented_filled : (mpd : Values) (url : List ℕ) (now : Option ℤ) (p : Presented) → presented_of mpd url now ≡ Ok p
    → length p.contents ≡ length p.sections * length p.tracks
presented_filled mpd url now p made =
    let told = is_told mpd url now p made in
    let rows : List Row = first_rows mpd.periods in
    let filled = all_filled url mpd.facts.live (is_some now) mpd.periods told.tolds told.none told.told in
    let ordered = length_in_order (λ row. row.description.kind) rows in
    subst (λ (q : Presented). length q.contents ≡ length q.sections * length q.tracks) told.is
    (cc (filled, ordered, length-map told.tolds (λ t. t.content), length-map mpd.periods section_of, length-map (in_order rows) track_of))

alike_many : (ones others : List Described) → are_alike ones others ≡ true → length ones ≡ length others
alike_many (one ∷ ones) (other ∷ others) is = grind (arith, nat_tests, alike_many ones others)
alike_many ones others is = grind arith

same_maps : (ones others : List Attributes) → all_same ones others ≡ true → maps_of ones ≡ maps_of others
same_maps (a ∷ ones) (b ∷ others) is = let same = same_bytes a.initialization.address b.initialization.address in
    grind (arith, nat_tests, same, same_maps ones others)
same_maps ones others is = grind arith

as_known : (c : Common) (p : Presented) (s : ℕ) (k : Known) → moved_told c p ≡ [] → list_any (differs_at c p) (sections_of p) ≡ false
    → s < length p.sections → known_by c.known (id_at p s) ≡ Some k → IsAsKnown k p s
as_known c p s k unmoved alike less is =
    let start = none_within (λ s. moved_by c p s (known_by c.known (id_at p s))) (length p.sections) s unmoved less in
    let any = list_any_at (differs_at c p) (sections_of p) s 0 in
    let there = get_or-range_with_len 0 (length p.sections) s 0 less in
    let same : differs_at c p s ≡ false = grind (arith, alike, any, length-range_with_len 0 (length p.sections), there) in
    (grind (arith, nat_tests, start, is), same_maps k.attributes (attributes_at p s) (grind (arith, same, is)))

mpd_in_force : (s : State) (mpd : Values) (url : List ℕ) (now : ℤ) (p : Presented) → IsInForce s.common.opened s.common.known s.common.force
    → mpd_told s (Some mpd) p ≡ [] → presented_of mpd url (Some now) ≡ Ok p → IsInForce s.common.opened (known_with s.common.known p) p
mpd_in_force s mpd url now p is none made =
    let c : Common = s.common in
    let each = none_each (older_than c.published mpd.facts.publish_time) (told_if (is_changed c mpd p) Changed) (moved_told c p)
    (rewritten_told c p 0 s.tracks) none in
    let kept = told_none (is_changed c mpd p) Changed each.1 in
    let once : are_once (ids_in p) ≡ true = grind (arith, kept) in
    let last = last_with_new (ids_of c.known) (ids_in p) is.last.once once (grind (arith, kept)) in
    let tracks = alike_many c.opened.tracks p.tracks (grind (arith, kept)) in
    let filled = presented_filled mpd url (Some now) p made in
    let same = λ (r : ℕ) (less : r < length p.sections). known_in c.known p r (known_by c.known (id_at p r)) once less refl
    (λ k is. as_known c p r k each.2 (grind (arith, kept)) less is) in
    grind (arith, known_grown c.known p, last, presented_sound mpd url (Some now) p made, tracks, filled, same)

pub later_in_force : (s : State) (u : Update) (p : Presented) → IsAllowed s u p → IsInForce s.common.opened s.common.known s.common.force
    → IsInForce s.common.opened (known_with s.common.known p) p
later_in_force s u p allowed is =
    let c : Common = s.common in
    forced (λ q. IsInForce c.opened (known_with c.known q) q) c.terms c.force u p allowed.forced
    (λ mpd now told made. mpd_in_force s mpd c.terms.url now p is (ap (λ o. mpd_told s o p) (sym told) ∙ allowed.mpd) made) (λ now.
    let p : Presented = looked_at now c.force in
    let same : (r : ℕ) → r < length p.sections → IsKnownIn (known_with c.known p) p r = λ r less.
    let own = is.same r less in
    (own.0, (cc (find-append (has_id (id_at p r)) c.known (filter (is_new c.known) (periods_of p)), own.1.0), own.1.1)) in
    grind (arith, known_grown c.known p, last_again (ids_of c.known) (ids_in p) is.last, is, same))

-- the start of the Period at a place, and what initializes a track there
abbrev pub known_of : List Known → (t place : ℕ) → Option (ℕ × Option Part)
known_of known t place = option_map (λ k. (k.start, slice_get (maps_of k.attributes) t)) (slice_get known place)

abbrev pub IsKnown : List Known → ℕ → Segment → Type 0
IsKnown known t x = known_of known t x.value.place ≡ Some (x.value.period_start, Some x.value.map)

each_given : {X : Type 0} (f : ℕ → Option X) (a n t r : ℕ) → a + t ≡ r → ((r : ℕ) → r < a + n → (x : X) × (f r ≡ Some x)) → t < n
    → slice_get (flat_map (λ r. option_to_list (f r)) (range_with_len a n)) t ≡ f r
each_given {X} f a zero t r same each less = absurd (omega arith)
each_given {X} f a (suc n) zero r same each less =
    let here = (each a (omega arith)).1 in let own : a ≡ r = omega arith in rw here (sym here ∙ ap f own)
each_given {X} f a (suc n) (suc t) r same each less =
    rw (each a (omega arith)).1 (each_given f (a + 1) n t r (omega arith) (λ r within. each r (omega arith)) (omega arith))

own_map : (p : Presented) (s t : ℕ) (content : Content) → length p.contents ≡ length p.sections * length p.tracks → s < length p.sections
    → t < length p.tracks → content_at p s t ≡ Some content → slice_get (maps_of (attributes_at p s)) t ≡ Some content.initialization
own_map p s t content filled in_sections in_tracks at =
    let own : ℕ → Option Attributes = λ r. option_map attributes_of (content_at p s r) in
    let n : ℕ = length p.tracks in
    let given : (r : ℕ) → r < 0 + n → (x : Attributes) × (own r ≡ Some x) = λ r less.
    let there = found p.contents (s * n + r) (omega (arith, less, filled, mul-le-mul_left n in_sections)) in
    (attributes_of there.0, ap (option_map attributes_of) there.1) in
    cc (slice_get-map (λ (a : Attributes). a.initialization) (attributes_at p s) t, each_given own 0 n t t (omega arith) given in_tracks)

pub listed_known : (c : Common) (t : ℕ) → IsInForce c.opened c.known c.force → t < length c.opened.tracks
    → All (IsKnown c.known t) (listed_of (numbering_of c) c.force t)
listed_known c t is in_tracks = listed_have (IsKnown c.known t) (numbering_of c) c.force t (λ s content less at.
    let own = is.same s less in
    let there = known_at_place c.known (id_at c.force s) ∙ own.1.0 in
    let map = own_map c.force s t content is.filled less (omega (arith, in_tracks, is.tracks)) at in
    λ j d within. cc (there, own.1.1.0, own.1.1.1, map))

module _ (sections : SectionsArePeriods) where
  pub first_in_force : (terms : Terms) (mpd : Values) (now : ℤ) (p : Presented) → HaveIdsOnce mpd.facts.live mpd.periods
      → IsFirst terms mpd now p → IsInForce p (known_with [] p) p
  first_in_force terms mpd now p ids_once first =
      let same : ids_in p ≡ ids_said mpd.periods = ap (λ (ss : List Section). map (λ (section : Section). section.id) ss)
      (sections mpd terms.url (Some now) p first.made) ∙ map-map (λ (section : Section). section.id) section_of mpd.periods in
      let once : are_once (ids_in p) ≡ true = ap are_once same ∙ ids_once first.live in
      record {
        last = subst (λ (ids : List (List ℕ)). AreLast ids (ids_in p)) (sym (known_grown [] p)) (last_at_first (ids_in p) once);
        sound = presented_sound mpd terms.url (Some now) p first.made;
        tracks = refl;
        filled = presented_filled mpd terms.url (Some now) p first.made;
        same = λ s less. known_in [] p s None once less refl (λ k never. absurd (cc));
      }

-- ---- durations of what the first MPD lists
greatest_is : (ns : List ℕ) → All (λ n. n ≤ greatest ns) ns
greatest_is [] j d within = absurd (omega arith)
greatest_is (n ∷ ns) zero d within = omega arith
greatest_is (n ∷ ns) (suc j) d within = omega (arith, greatest_is ns j d (omega arith))

greatest_at : (f : ℕ → ℕ) (n s : ℕ) → s < n → f s ≤ greatest (map f (range_with_len 0 n))
greatest_at f n s less =
    let ns : List ℕ = map f (range_with_len 0 n) in All-at (λ m. m ≤ greatest ns) ns s (f s) (greatest_is ns) (ranged f n s less)

module _ (u place start : ℕ) (n : Numbering) where
  printed_at : (o : Option Content) (xs : List Timing) → All (λ k. k.duration ≤ greatest (durations_of u xs))
      (told u (option_map_or (λ content. map (segment_with n place start content) xs) o []))
  printed_at None xs = All-nil (λ (k : Kept). k.duration ≤ greatest (durations_of u xs))
  printed_at (Some content) [] = All-nil (λ (k : Kept). k.duration ≤ greatest (durations_of u []))
  printed_at (Some content) (x ∷ xs) =
      let made : Timing → Segment = segment_with n place start content in
      let most : ℕ = greatest (durations_of u (x ∷ xs)) in
      let here = All-map (λ (y : Segment). y.section ≡ (made x).section) made xs (λ j d within. refl) in
      let own : durations (told u (map made (x ∷ xs))) ≡ durations_of u (x ∷ xs) =
      cc (new_section u None (made x) (map made xs) tt here, map-map (λ (y : Segment). y.end) made xs) in
      unmapped (λ d. d ≤ most) (λ (k : Kept). k.duration) (told u (map made (x ∷ xs)))
      (subst (All (λ d. d ≤ most)) (sym own) (greatest_is (durations_of u (x ∷ xs))))

first_longest : (c : Common) (u t : ℕ) → IsInForce c.opened c.known c.force → t < length c.force.tracks
    → All (λ k. k.duration ≤ longest_in u c.force) (told u (listed_of (numbering_of c) c.force t))
first_longest c u t is in_tracks =
    let p : Presented = c.force in
    let n : Numbering = numbering_of c in
    let rise = rising c is t in
    let most = greatest_at (longest_of p u) (length p.tracks) t in_tracks in
    rw (told_apart (λ s. place_of n.ids (id_at p s) + n.resets) (listed_in_period n p t) (length p.sections) (λ s r less within.
    omega (arith, rise.places s r less within)) (period_own n p t) u None 0 (length p.sections) (omega arith) (λ s above within. tt))
    (flat_have (λ (k : Kept). k.duration ≤ longest_in u p) (λ s. told u (listed_in_period n p t s)) 0 (length p.sections)
    (λ s above less j d within.
    let own = printed_at u (place_of n.ids (id_at p s)) (start_of p s) n (content_at p s t) (listed_at p s t) j d within in
    omega (arith, own, greatest_at (longest_at p u t) (length p.sections) s (omega (arith, less)), most)))

-- half as much again, rounded up, is at least as much to the nearest second
half_more_fits : (unit d longest : ℕ) → 0 < unit → d ≤ longest → rounded unit d ≤ half_more unit longest
half_more_fits unit d longest some le =
    let h : ℕ = half_more unit longest in
    let enough = (div_ceil_times (3 * longest) (2 * unit) (omega arith)).0 in
    let over = λ (more : h ≤ d / unit). mul-le-mul_left unit more in
    let above = λ (more : suc h ≤ d / unit). mul-le-mul_left unit more in
    grind (arith, nat_tests, enough, div-add-mod' d unit, over, above)

-- ---- histories
pub record IsTold (c : Common) (t : ℕ) (past : Past) : Type 0 where
  pub track : t < length c.opened.tracks
  pub known : All (IsKnown c.known t) past.all
  pub fits : All (λ k. rounded (unit_of c.terms) k.duration ≤ c.target) (told (unit_of c.terms) past.all)

abbrev IsForced : Common → Type 0
IsForced c = IsInForce c.opened c.known c.force

still_known : (known more : List Known) (t : ℕ) (x : Segment) → IsKnown known t x → IsKnown (known ++ more) t x
still_known known more t x is =
    let (k, at, same) = mapped _ (slice_get known x.value.place) _ is in
    cc (get_more known more x.value.place k at)

module _ (differ : PeriodIdsDiffer) (sections : SectionsArePeriods) where
  once_if_typed : (mpd : Values) → IsTyped (Some mpd) → HaveIdsOnce mpd.facts.live mpd.periods
  once_if_typed mpd typed live = (differ typed.0 mpd typed.1 live).once

  accepted_left : (terms : Terms) (history : List Update) → IsAccepted terms history → AreTyped history → (w : Whole)
      → whole_of terms history ≡ Some w → IsForced w.common × Each (IsTold w.common) w.pasts
  accepted_left terms = accepted_hold terms IsTyped IsForced IsTold (λ mpd now p typed first.
      let c : Common = begun_common terms mpd now p in
      let u : ℕ = unit_of terms in
      let force : IsForced c = first_in_force sections terms mpd now p (once_if_typed mpd typed) first in
      let some : 1 ≤ u = one-le-pow terms.digits 10 (omega arith) in (
        force,
        λ t less. record {
          track = less;
          known = listed_known c t force less;
          fits = λ j d within. omega (arith, half_more_fits u _ (longest_in u p) some (first_longest c u t force less j d within));
        },
      )) (λ w u p typed its allowed is.
      let c : Common = common_with w.common u p in
      let unit : ℕ = unit_of c.terms in
      let force : IsForced c = later_in_force (shown w) u p allowed is in (
        force,
        λ t past within own told_so.
            let last : Option Last = last_behind None past.all in
            let new : List Segment = new_listed c t past.all in
            let fresh = behind_have (IsKnown c.known t) last (place_behind 0 past.all) (listed_of (numbering_of c) p t)
            (listed_known c t force told_so.track) in
            let known = All-append (IsKnown c.known t) past.all new
            (λ j d within. still_known w.common.known _ t (get_or past.all j d) (told_so.known j d within)) fresh in
            let long = unmapped (λ d. rounded unit d ≤ c.target) (λ (k : Kept). k.duration) (told_behind unit last new) own.long in
            let fits = All-append (λ (k : Kept). rounded unit k.duration ≤ c.target) (told unit past.all) (told_behind unit last new)
            told_so.fits long in
            record { track = told_so.track; known = known; fits = rw (told_goes_on unit None past.all new) fits },
      ))

  pub accepted_are_listed_in_order : AcceptedAreListedInOrder
  accepted_are_listed_in_order terms history accepted typed earlier later w t split whole =
      let same : (front : List Update) (u : Update) (back : List Update) → earlier ≡ front ++ u ∷ back
      → history ≡ front ++ u ∷ (back ++ later) = λ front u back is. cc (append_assoc front (u ∷ back) later) in
      let left = accepted_left terms earlier (λ front u back is. accepted front u (back ++ later) (same front u back is))
      (λ front u back is. typed front u (back ++ later) (same front u back is)) w whole in
      periods_are_listed_in_order (numbering_of w.common) w.common.force t (rising w.common left.0 t)

  steps_in : (terms : Terms) (history : List Update) (t i j : ℕ) (x y : Segment) → IsAccepted terms history → AreTyped history → i ≤ j
      → slice_get (all_of terms history t) i ≡ Some x → slice_get (all_of terms history t) j ≡ Some y
      → (x.value.place ≤ y.value.place) × (x.section + y.value.place ≤ y.section + x.value.place)
  steps_in terms history t i j x y accepted typed = steps_both 0 0 _ (all_of terms history t) i j x y (past_ordered terms history t
      (accepted_are_listed_in_order terms history accepted typed)).1.steps

  pub sections_never_fall : SectionsNeverFall
  sections_never_fall terms history t i j x y accepted typed le at_x at_y =
      let is = steps_in terms history t i j x y accepted typed le at_x at_y in omega (arith, is.0, is.1)

  pub sections_have_one_map : SectionsHaveOneMap
  sections_have_one_map terms history t i j x y accepted typed at_x at_y same =
      let all : List Segment = all_of terms history t in
      let place : x.value.place ≡ y.value.place = elim (cases_lt i j) [
        | inl less ↦ let is = steps_in terms history t i j x y accepted typed (omega arith) at_x at_y in omega (arith, is.0, is.1)
        | inr le ↦ let is = steps_in terms history t j i y x accepted typed le at_y at_x in omega (arith, is.0, is.1)
      ] in
      let known : (known : List Known) × All (IsKnown known t) all =
      past_holds (λ past. (known : List Known) × All (IsKnown known t) past.all) terms history t ([], All-nil (IsKnown [] t))
      (λ w is past at. (w.common.known, ((accepted_left terms history accepted typed w is).1 t past at).known)) in
      let own : (x.value.period_start, Some x.value.map) ≡ (y.value.period_start, Some y.value.map) =
      same_Some _ _ (sym (All-at (IsKnown known.0 t) all i x known.1 at_x) ∙ ap (known_of known.0 t) place
      ∙ All-at (IsKnown known.0 t) all j y known.1 at_y) in
      record { place = place; start = ap (λ v. v.0) own; map = same_Some _ _ (ap (λ v. v.1) own) }

  pub durations_fit_target : DurationsFitTarget
  unfolding state_of
  durations_fit_target terms history s t shows typed = past_holds (λ past. All (λ d. rounded (unit_of terms) d ≤ s.common.target)
      (durations (told (unit_of terms) past.all))) terms history t (All-nil (λ d. rounded (unit_of terms) d ≤ s.common.target))
      (λ w whole past at.
      let fits = ((accepted_left terms history shows.accepted typed w whole).1 t past at).fits in
      let same : shown w ≡ s = same_Some _ _ (ap (option_map shown) (sym whole) ∙ shows.leaves) in
      rw (← (sound terms history w whole).its_terms, ← same) (All-map (λ d. rounded (unit_of w.common.terms) d ≤ w.common.target)
      (λ (k : Kept). k.duration) (told (unit_of w.common.terms) past.all) fits))
