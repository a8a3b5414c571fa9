-- What is new of a track, over the sections of an update.
use Rattle.std.proofs.Common.{◌≡◌, ℕ, ◌+◌, ◌<◌, List, [], ◌∷◌, ◌++◌, length, Some, refl, sym, ◌∙◌, ap, subst, inl, inr, arith}
use Rattle.std.proofs.{lemmas.List.nil_from_length, lemmas.List.Concat.length-flat_map, lemmas.List.Sums.sum_by-cons}
use Rattle.std.proofs.lemmas.Option.{same_Some, slice_get-map}
use Rattle.std.specs.Prelude.{flat_map, option_map, slice_get, sum_by}
use Rattle.timeline.specs.{Expansions.Timing, Steady.IsWithinLimits}
use Rattle.presentation.specs.{Counting.sections_of, Presented.start_of}
use Rattle.presentation.proofs.{Counts.{from_on, from_on-first, from_on-start}, Reached.none_within}
use Rattle.live_meaning.specs.{Segments.{Segment, id_at, segment_with}, Known.ids_of, Histories.numbering_of, States.new_of}
use Rattle.live_meaning.specs.Refusals.{ids_in}
use Rattle.live_meaning.proofs.Accepted.{id_there}
use Rattle.live_judge.specs.{declared.track_next.TrackNext.TrackNext, Coming.{IsTrackNext, c_of, coming_of, p_of, t_of, IsQuietIn}}
use Rattle.live_judge.specs.{New.{IsFirstNew, new_in, new_timings}, Shown.track_shown, declared.coming.Next.Next}
use Rattle.live_judge.specs.declared.track.LiveTrack.{LiveTrack}
use Rattle.live_judge.proofs.{Contents.length-new, New.{new_is, new_made}, Places.place_there}

abbrev pub times_in : TrackNext → ℕ → List Timing
times_in l s = new_timings (p_of l.next.now) (l.next.now).place (t_of l) l.index s

abbrev pub news_in : TrackNext → ℕ → List Segment
news_in l s = new_in (numbering_of (c_of l)) (p_of l.next.now) (l.next.now).place (t_of l) l.index s

abbrev pub count_in : TrackNext → ℕ → ℕ
count_in l s = length (times_in l s)

pub new_there : (l : TrackNext) → IsTrackNext l → new_of (c_of l) l.index (t_of l) ≡ flat_map (news_in l) (sections_of (p_of l.next.now))
new_there l is = new_is (c_of l) (l.next.now).place (t_of l) l.index
    (λ s less. place_there (ids_of (c_of l).known) (ids_in (p_of l.next.now)) (l.next.now).place s
    (id_at (p_of l.next.now) s) is.next.stands (id_there (p_of l.next.now).sections s less))

sums_same : (f g : ℕ → ℕ) (xs : List ℕ) → ((s : ℕ) → f s ≡ g s) → sum_by f xs ≡ sum_by g xs
sums_same f g [] same = refl
sums_same f g (x ∷ xs) same = omega (arith, sum_by-cons f x xs, sum_by-cons g x xs, same x, sums_same f g xs same)

-- there is nothing new before a section
abbrev pub IsNoneNew : TrackNext → ℕ → Type 0
IsNoneNew l i = new_of (c_of l) l.index (t_of l) ≡ flat_map (news_in l) (from_on i (length (p_of l.next.now).sections))

pub none_yet : (l : TrackNext) → IsTrackNext l → IsNoneNew l 0
none_yet l is = new_there l is ∙ ap (flat_map (news_in l)) (sym (from_on-start (length (p_of l.next.now).sections)))

pub count_there : (l : TrackNext) → IsTrackNext l → length (new_of (c_of l) l.index (t_of l))
    ≡ sum_by (count_in l) (from_on 0 (length (p_of l.next.now).sections))
count_there l is =
    ap (λ (xs : List Segment). length xs) (none_yet l is)
    ∙ length-flat_map (news_in l) (from_on 0 (length (p_of l.next.now).sections))
    ∙ sums_same (λ s. length (news_in l s)) (count_in l) (from_on 0 (length (p_of l.next.now).sections))
    (λ s. length-new (numbering_of (c_of l)) (p_of l.next.now) (l.next.now).place (t_of l) l.index s)

-- ---- the first one

pub none_in : (l : TrackNext) (s : ℕ) → times_in l s ≡ [] → news_in l s ≡ []
none_in l s none =
    nil_from_length (news_in l s) (length-new (numbering_of (c_of l)) (p_of l.next.now) (l.next.now).place (t_of l) l.index s
    ∙ ap (λ (xs : List Timing). length xs) none)

pub none_more : (l : TrackNext) (i : ℕ) → i < length (p_of l.next.now).sections → times_in l i ≡ [] → IsNoneNew l i → IsNoneNew l (i + 1)
none_more l i within none before =
    before ∙ ap (flat_map (news_in l)) (from_on-first i (length (p_of l.next.now).sections) within) ∙ (rw (none_in l i none) refl)

first_in : (xs ys : List Segment) (x : Segment) → slice_get xs 0 ≡ Some x → slice_get (xs ++ ys) 0 ≡ Some x
first_in [] ys x at = absurd (cc)
first_in (y ∷ xs) ys x at = at

pub first_new_is : (l : TrackNext) (i number : ℕ) (t : Timing) → i < length (p_of l.next.now).sections → IsNoneNew l i
    → slice_get (times_in l i) 0 ≡ Some t → IsWithinLimits t → number ≡ (l.next.now).place + i + (coming_of l.next.now).resets
    → IsFirstNew number t (new_of (c_of l) l.index (t_of l))
first_new_is l i number t within before at limits numbered =
    let n = numbering_of (c_of l) in
    let place = (l.next.now).place + i in
    elim (new_made n (p_of l.next.now) (l.next.now).place (t_of l) l.index i) [
      | inl none ↦ absurd (let never = subst (λ (xs : List Timing). slice_get xs 0 ≡ Some t) none.0 at in cc)
      | inr made ↦
          let make = segment_with n place (start_of (p_of l.next.now) i) made.0 in
          let there : slice_get (news_in l i) 0 ≡ Some (make t) =
          ap (λ (xs : List Segment). slice_get xs 0) made.1 ∙ slice_get-map make (times_in l i) 0 ∙ ap (option_map make) at in
          record {
            segment = make t;
            first = ap (λ (xs : List Segment). slice_get xs 0) (before
                ∙ ap (flat_map (news_in l)) (from_on-first i (length (p_of l.next.now).sections) within))
                ∙ first_in (news_in l i) (flat_map (news_in l) (from_on (i + 1) (length (p_of l.next.now).sections))) (make t) there;
            numbered = sym numbered;
            timed = refl;
            limits = limits;
          }
    ]

-- ---- tracks of which nothing is new

-- nothing is new of the track at a place
abbrev pub IsQuietAt : Next → ℕ → Type 0
IsQuietAt n t = (track : LiveTrack) → slice_get n.tracks.now t ≡ Some track → IsQuietIn (p_of n) n.place t (track_shown track)

pub quiet_at : (n : Next) (t : ℕ) (l : TrackNext) → IsTrackNext l → l.next.now ≡ n → l.index ≡ t
    → slice_get n.tracks.now t ≡ Some l.track.now
    → new_of (c_of l) l.index (t_of l) ≡ [] → IsQuietAt n t
quiet_at n t l is next index there none track at =
    let same : track ≡ l.track.now = same_Some track l.track.now (sym at ∙ there) in
    rw (← next, ← index, same) (λ s less.
    let gone : news_in l s ≡ [] = none_within (news_in l) (length (p_of l.next.now).sections) s (sym (new_there l is) ∙ none) less in
    nil_from_length (times_in l s) (sym (length-new (numbering_of (c_of l)) (p_of l.next.now) (l.next.now).place (t_of l) l.index s)
    ∙ ap (λ (xs : List Segment). length xs) gone))
