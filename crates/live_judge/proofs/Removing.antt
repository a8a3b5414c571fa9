-- What is removed is found from what is kept, and how long the new segments last.
use Rattle.std.proofs.Common.{◌≡◌, ℕ, ◌+◌, ◌-◌, ◌≤◌, min, Bool, true, false, not, List, [], ◌∷◌, ◌++◌, length, sum, Option, Some, None}
use Rattle.std.proofs.{Common.{refl, ◌∙◌, ap, inl, inr, arith, ◌*◌, ◌^◌, ◌<◌, drop, sym, length-append}, lemmas.Bool.{cases_Bool, cases_lt}}
use Rattle.std.proofs.{lemmas.Bool.Decides.nat_tests, lemmas.List.{length-map, map-append}, lemmas.List.Sums.prefix_len-le-length}
use Rattle.std.proofs.{lemmas.List.Sums.sum_by-cons, lemmas.Grind.common_steps, lemmas.Option.{gets, slice_get-map}}
use Rattle.std.specs.{Prelude.{cond, is_none, slice_get, option_map}, Option.option_map_or, List.position_or_len}
use Rattle.followed.specs.{Places.last_place, Durations.durations}
use Rattle.exact_time.specs.Tick.{time_of}
use Rattle.hls_writer.specs.declared.items.MediaItem.{MediaItem}
use Rattle.timeline.specs.Listed.{is_after}
use Rattle.presentation.specs.Presented.{Following, Presented, is_finished, whole_window, window_at, window_from}
use Rattle.live_judge.proofs.{Walks.sum-append, Keeping.length-kepts, Contents.paired_there}
use Rattle.live_judge.specs.{declared.track.Fact.Fact, declared.track.LiveTrack.LiveTrack, Removal.{is_still_available, kept_in}}
use Rattle.live_judge.specs.{Shown.{kept_of, kepts_of}, declared.track_next.TrackNext.TrackNext, Coming.{IsTrackNext, c_of, p_of, t_of}}
use Rattle.live_meaning.specs.{Segments.{Kept, Segment, segments_of, listed_of}, Removal.{is_available, removed_of}, Updates.unit_of}
use Rattle.live_meaning.specs.{Histories.{least_length, numbering_of}, Refusals.count_kept, States.{kept_and_new, new_durations, new_of}}
use Rattle.live_meaning.specs.States.{new_told, removed_from}
use Rattle.followed.proofs.KeptPlaces.{is_last_place}
use Rattle.presentation.proofs.Grids.{All-at}
use Rattle.live_meaning.proofs.{Orders.behind_have, Histories.{length-told, told-segments}, Playlists.listed_available}

-- of the places in the front the last one is found by what the end lacks
pub last_in_front : (enough : ℕ) (ns ms : List ℕ) (place : ℕ) → place ≤ length ns
    → min place (last_place enough (ns ++ ms)) ≡ min place (last_place (enough - sum ms) ns)
last_in_front enough [] ms place le = omega arith
last_in_front enough (n ∷ ns) ms place le = elim (cases_lt place 1) [
  | inl none ↦ omega arith
  | inr some ↦
      let rest = last_in_front enough ns ms (place - 1) (omega arith) in
      let sums : sum (ns ++ ms) ≡ sum ns + sum ms = sum-append ns ms in
      elim (cases_lt (sum ns + sum ms) enough) [
        | inl short ↦ grind (arith, nat_tests, sums, short)
        | inr whole ↦ grind (arith, nat_tests, sums, whole, rest)
      ]
]

first_kept : (test : Segment → Bool) (xs ys : List Segment) → ((y : Segment) → slice_get ys 0 ≡ Some y → test y ≡ true)
    → position_or_len test (xs ++ ys) ≡ position_or_len test xs
first_kept test [] [] first = refl
first_kept test [] (y ∷ ys) first = rw (first y refl) refl
first_kept test (x ∷ xs) ys first = elim (cases_Bool (test x)) [
  | inl is ↦ rw is refl
  | inr other ↦
      rw other (ap (λ n. 1 + n) (first_kept test xs ys first))
]

within_kept : (g : Following) (kept : List Kept) → position_or_len (is_available g) (segments_of kept) ≤ length (durations kept)
within_kept g kept = omega (
  arith,
  prefix_len-le-length (λ x. not (is_available g x)) (segments_of kept),
  length-map kept (λ (t : Kept). t.segment),
  length-map kept (λ (t : Kept). t.duration),
)

-- where the first new one is available
pub removed_by : (f : Option Following) (units : ℕ) (kept new : List Kept)
    → ((g : Following) (y : Segment) → f ≡ Some g → slice_get (segments_of new) 0 ≡ Some y → is_available g y ≡ true)
    → removed_of f units (kept ++ new) ≡ removed_of f (units - sum (durations new)) kept
removed_by None units kept new first = refl
removed_by (Some g) units kept new first =
    let place = position_or_len (is_available g) (segments_of kept) in
    let one : position_or_len (is_available g) (segments_of (kept ++ new)) ≡ place =
    ap (position_or_len (is_available g)) (map-append (λ (t : Kept). t.segment) kept new)
    ∙ first_kept (is_available g) (segments_of kept) (segments_of new) (λ y at. first g y refl at) in
    let both = last_in_front units (durations kept) (durations new) place (within_kept g kept) in
    rw (one, map-append (λ (t : Kept). t.duration) kept new) (omega (arith, both))

-- ---- what is kept of a track

same_place : (f : Following) (p : Presented) (items : List MediaItem) (facts : List Fact) → p.following ≡ Some f
    → length items ≡ length facts
    → position_or_len (is_still_available p) facts ≡ position_or_len (is_available f) (segments_of (kepts_of items facts))
same_place f p [] [] is same = refl
same_place f p [] (fact ∷ facts) is same = absurd (omega (arith, same))
same_place f p (item ∷ items) [] is same = absurd (omega (arith, same))
same_place f p (item ∷ items) (fact ∷ facts) is same =
    let window : window_from p fact.period_start ≡ window_at f fact.period_start =
    ap (λ (o : Option Following). option_map_or (λ g. window_at g fact.period_start) o whole_window) is in
    let test : is_still_available p fact ≡ is_available f (kept_of item fact).segment =
    ap (λ w. is_after w.after (time_of fact.span.end)) window in
    ap (λ b. cond (not b) (1 + position_or_len (is_still_available p) facts) 0) test
    ∙ ap (λ n. cond (not (is_available f (kept_of item fact).segment)) (1 + n) 0) (same_place f p items facts is (omega (arith, same)))

by_following : (o : Option Following) (p : Presented) (track : LiveTrack) (least available place : ℕ) → p.following ≡ o → is_none o ≡ false
    → length track.items.items ≡ length track.facts.items
    → available ≡ position_or_len (is_still_available p) track.facts.items → place ≡ last_place least (durations (kept_in track))
    → min available place ≡ removed_of o least (kept_in track)
by_following None p track least available place is followed paired first last = absurd (cc)
by_following (Some f) p track least available place is followed paired first last =
    omega (arith, first, last, same_place f p track.items.items track.facts.items is paired)

pub removed_is : (p : Presented) (track : LiveTrack) (least available place : ℕ) → is_finished p ≡ false
    → length track.items.items ≡ length track.facts.items
    → available ≡ position_or_len (is_still_available p) track.facts.items → place ≡ last_place least (durations (kept_in track))
    → min available place ≡ removed_of p.following least (kept_in track)
removed_is p track least available place followed paired first last =
    by_following p.following p track least available place refl followed paired first last

-- ---- a sum of durations from the back

pub durations_long : (track : LiveTrack) → length track.items.items ≡ length track.facts.items
    → length (durations (kept_in track)) ≡ length track.facts.items
durations_long track paired = length-map (kept_in track) (λ (k : Kept). k.duration)
    ∙ length-kepts track.items.items track.facts.items paired

pub bound_more : (count place sum more : ℕ) → count < 2 ^ 63 → 0 < place → more < 2 ^ 64 → sum ≤ (count - place) * 2 ^ 64
    → sum + more < 2 ^ 128
bound_more count place sum more fits some small bound = omega (arith, bound)

sum-cons : (n : ℕ) (ns : List ℕ) → sum (n ∷ ns) ≡ n + sum ns
sum-cons n ns = sum_by-cons (λ m. m) n ns

sum_front : (ns : List ℕ) (place n : ℕ) → 0 < place → slice_get ns (place - 1) ≡ Some n
    → sum (drop (place - 1) ns) ≡ n + sum (drop place ns)
sum_front ns place n some at = let next : place - 1 + 1 ≡ place = omega arith in grind (arith, common_steps, gets, next, sum-cons)

-- the sum with one more in front
pub sum_at : (track : LiveTrack) (place : ℕ) (k : Kept) → 0 < place → slice_get (kept_in track) (place - 1) ≡ Some k
    → sum (drop (place - 1) (durations (kept_in track))) ≡ k.duration + sum (drop place (durations (kept_in track)))
sum_at track place k some at =
    sum_front (durations (kept_in track)) place k.duration some
    (slice_get-map (λ (j : Kept). j.duration) (kept_in track) (place - 1) ∙ ap (option_map (λ (j : Kept). j.duration)) at)

-- the place isn't the last one from which they sum to enough
pub not_last : (enough : ℕ) (ns : List ℕ) (place : ℕ) → 0 < place → last_place enough ns ≤ place → sum (drop place ns) < enough
    → last_place enough ns ≤ place - 1
not_last enough ns place some le short = elim (cases_lt (last_place enough ns) place) [
  | inl less ↦ omega (arith, less)
  | inr not_less ↦
      let is = is_last_place enough ns in
      let same : last_place enough ns ≡ place = omega (arith, le, not_less) in
      elim (cases_lt (sum ns) enough) [
        | inl little ↦ omega (arith, is.none little, some, same)
        | inr whole ↦ let never = rw same at (is.reaches whole) in absurd (omega (arith, short, never))
      ]
]

pub is_last : (enough : ℕ) (ns : List ℕ) (place : ℕ) → last_place enough ns ≤ place → enough ≤ sum (drop place ns) → place ≤ length ns
    → place ≡ last_place enough ns
is_last enough ns place le whole within = elim (cases_lt (last_place enough ns) place) [
  | inl less ↦ absurd (omega (arith, whole, (is_last_place enough ns).last place less within))
  | inr not_less ↦ omega (arith, le, not_less)
]

-- ---- what is removed with the new segments, and how many are kept

new_available : (l : TrackNext) (f : Following) (y : Segment) → (p_of l.next.now).following ≡ Some f
    → slice_get (segments_of (new_told (c_of l) l.index (t_of l))) 0 ≡ Some y
    → is_available f y ≡ true
new_available l f y is first =
    All-at (λ x. is_available f x ≡ true) (new_of (c_of l) l.index (t_of l)) 0 y
    (behind_have (λ x. is_available f x ≡ true) (t_of l).last (t_of l).place (listed_of (numbering_of (c_of l)) (p_of l.next.now) l.index)
    (listed_available (numbering_of (c_of l)) (p_of l.next.now) l.index f is))
    (ap (λ (xs : List Segment). slice_get xs 0)
    (sym (told-segments (unit_of (c_of l).terms) (t_of l).last (new_of (c_of l) l.index (t_of l)))) ∙ first)

-- ---- what is removed

pub removed_there : (l : TrackNext) (least removed : ℕ) → least ≡ least_length (c_of l) - sum (new_durations (c_of l) l.index (t_of l))
    → removed ≡ removed_of (p_of l.next.now).following least (kept_in l.track.now)
    → removed ≡ removed_from (c_of l) (kept_and_new (c_of l) l.index (t_of l))
removed_there l least removed same is =
    is ∙ ap (λ n. removed_of (p_of l.next.now).following n (kept_in l.track.now)) same
    ∙ sym (removed_by (p_of l.next.now).following (least_length (c_of l)) (kept_in l.track.now) (new_told (c_of l) l.index (t_of l))
    (new_available l))

-- ---- how many are kept

pub kept_there : (l : TrackNext) → IsTrackNext l → (count removed kept : ℕ) → count ≡ length (new_of (c_of l) l.index (t_of l))
    → removed ≡ removed_from (c_of l) (kept_and_new (c_of l) l.index (t_of l)) → kept ≡ (length (l.track.now).facts.items + count) - removed
    → kept ≡ count_kept (c_of l) (kept_and_new (c_of l) l.index (t_of l))
kept_there l is count removed kept counted gone left =
    omega (
      arith,
      counted,
      gone,
      left,
      length-append (kept_in l.track.now) (new_told (c_of l) l.index (t_of l)),
      length-told (unit_of (c_of l).terms) (t_of l).last (new_of (c_of l) l.index (t_of l)),
      length-kepts (l.track.now).items.items (l.track.now).facts.items (paired_there l is).paired,
    )
