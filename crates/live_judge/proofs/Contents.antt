-- Where the new segments of a section begin.
use Rattle.std.proofs.Common.{◌≡◌, ℕ, ◌+◌, ◌<◌, nat_lt, ◌==◌, true, false, List, [], length, take, map, Option, Some, None, refl, sym, ◌∙◌}
use Rattle.std.proofs.{Common.{ap, subst, inl, inr, arith}, lemmas.Bool.Decides.nat_tests, lemmas.List.length-map}
use Rattle.std.proofs.{lemmas.List.Elements.filter_agree, lemmas.Option.{slice_get-map, slice_get_within}}
use Rattle.std.specs.Prelude.{IfSome, filter, option_map}
use Rattle.exact_time.specs.{Time.{Time, before}, Tick.time_of}
use Rattle.timeline.specs.{declared.window.Window.Window, Expansions.{SegmentTimeline, Timing}, Listed.{IsPlaceAfter, expansion, listed}}
use Rattle.timeline.specs.Listed.{listed_from, IsReached}
use Rattle.presentation.specs.{declared.parts.Content.Content, Presented.{Presented, content_at, start_of, window_of}}
use Rattle.presentation.proofs.{Extents.{listed_of, reached_of}, GoingOn.listed_later, Printing.all_listed, Grids.All-at}
use Rattle.followed.specs.Durations.{Last}
use Rattle.followed.proofs.KeptPlaces.{all_kept}
use Rattle.live_meaning.specs.{Segments.{Numbering, is_later, segment_with}, States.Track}
use Rattle.live_judge.specs.{New.{StartsNew, new_in, new_timings}, declared.track_next.TrackNext.TrackNext, Coming.{IsTrackNext, p_of}}
use Rattle.live_judge.specs.{Coming.t_of, Sound.{IsPaired, IsSoundTrack}, declared.track.LastKept.LastKept, Shown.{common_shown, last_of}}
use Rattle.live_judge.specs.Shown.{track_shown}
use Rattle.live_judge.proofs.New.{new_made, none_earlier}

pub content_there : (o : Option Content) (r : SegmentTimeline) → option_map (λ (content : Content). content.runs) o ≡ Some r
    → (content : Content) × (o ≡ Some content) × (content.runs ≡ r)
content_there None r is = absurd (cc)
content_there (Some content) r is = (content, refl, cc)

pub here_by_end : (l : Last) (k place : ℕ) → k ≡ place → (end : Time) → is_later l place k end ≡ before l.end end
here_by_end l k place same end =
    let none : nat_lt place k ≡ false = grind (arith, nat_tests, same) in
    let one : (place == k) ≡ true = grind (arith, nat_tests, same) in
    rw (none, one) refl

later_all : (l : Last) (k place : ℕ) → place < k → (end : Time) → is_later l place k end ≡ true
later_all l k place less end = let is : nat_lt place k ≡ true = grind (arith, nat_tests, less) in rw is refl

module _ (p : Presented) (place : ℕ) (of : Track) (t s : ℕ) (l : Last) (last : of.last ≡ Some l) (content : Content)
    (is : content_at p s t ≡ Some content) where
  abbrev window : Window
  window = window_of p s

  abbrev all : List Timing
  all = expansion content.runs window

  new_are : new_timings p place of t s ≡ filter (λ x. is_later l of.place (place + s) x.end) (listed window all)
  new_are = rw last (ap (filter (λ x. is_later l of.place (place + s) x.end)) (listed_of p s t content is))

  there : (cursor : ℕ) → listed_from cursor content.runs window ≡ new_timings p place of t s → StartsNew p place of t s cursor
  there cursor same = subst (λ (o : Option Content). IfSome o (λ c. listed_from cursor c.runs window ≡ new_timings p place of t s))
      (sym is) same

  pub starts_behind : (cursor : ℕ) → place + s ≡ of.place → IsPlaceAfter l.end all cursor → StartsNew p place of t s cursor
  starts_behind cursor same after = there cursor
      (listed_later l.end window all cursor after
      ∙ filter_agree (λ x. before l.end x.end) (λ x. is_later l of.place (place + s) x.end)
      (λ x. sym (here_by_end l (place + s) of.place same x.end)) (listed window all)
      ∙ sym new_are)

  pub starts_first : (cursor : ℕ) → of.place < place + s → listed window (take cursor all) ≡ [] → StartsNew p place of t s cursor
  starts_first cursor less none = there cursor
      (all_listed window all cursor none
      ∙ sym (all_kept (λ x. is_later l of.place (place + s) x.end) (listed window all) (λ j d within. later_all l
      (place + s) of.place less _))
      ∙ sym new_are)

-- there are as many new segments as new times
pub length-new : (n : Numbering) (p : Presented) (place : ℕ) (of : Track) (t s : ℕ)
    → length (new_in n p place of t s) ≡ length (new_timings p place of t s)
length-new n p place of t s = elim (new_made n p place of t s) [
  | inl none ↦ rw (none.1, none.0) refl
  | inr made ↦ rw made.1 (length-map (new_timings p place of t s) (segment_with n (place + s) (start_of p s) made.0))
]

-- ---- a track of an update

pub index_within : (l : TrackNext) → IsTrackNext l → l.index < length (p_of l.next.now).tracks
index_within l is = omega (arith, slice_get_within (l.next.now).tracks.now l.index l.track.now is.there, is.next.alike)

pub paired_there : (l : TrackNext) → IsTrackNext l → IsPaired l.track.now
paired_there l is = All-at IsPaired (l.next.now).tracks.now l.index l.track.now is.next.live.paired is.there

pub sound_there : (l : TrackNext) → IsTrackNext l → IsSoundTrack (common_shown (l.next.now).standing.now) (t_of l)
sound_there l is = All-at (IsSoundTrack (common_shown (l.next.now).standing.now)) (map track_shown (l.next.now).tracks.now) l.index
    (t_of l) is.next.live.sound.tracks
    (slice_get-map track_shown (l.next.now).tracks.now l.index ∙ ap (option_map track_shown) is.there)

pub reached_there : (l : TrackNext) → IsTrackNext l → (s : ℕ) (r : SegmentTimeline) → s < length (p_of l.next.now).sections
    → option_map (λ (content : Content). content.runs) (content_at (p_of l.next.now) s l.index) ≡ Some r
    → IsReached r (window_of (p_of l.next.now) s)
reached_there l is s r within has =
    let at = content_there (content_at (p_of l.next.now) s l.index) r has in
    subst (λ (q : SegmentTimeline). IsReached q (window_of (p_of l.next.now) s)) at.2
    (reached_of (p_of l.next.now) s l.index at.0 at.1 (is.next.counted s l.index within (index_within l is)))

pub none_before : (l : TrackNext) (s : ℕ) (k : LastKept) → (t_of l).last ≡ Some (last_of k) → (t_of l).place ≡ k.place
    → (l.next.now).place + s < k.place
    → new_timings (p_of l.next.now) (l.next.now).place (t_of l) l.index s ≡ []
none_before l s k last at less = none_earlier (p_of l.next.now) (l.next.now).place (t_of l) l.index s (last_of k) last
    (omega (arith, at, less))

module _ (l : TrackNext) (s : ℕ) (r : SegmentTimeline) (has : option_map (λ (content : Content). content.runs)
    (content_at (p_of l.next.now) s l.index) ≡ Some r) where
  abbrev its : (content : Content) × (content_at (p_of l.next.now) s l.index ≡ Some content) × (content.runs ≡ r)
  its = content_there (content_at (p_of l.next.now) s l.index) r has

  module _ (k : LastKept) (last : (t_of l).last ≡ Some (last_of k)) (at : (t_of l).place ≡ k.place) where
    pub cursor_behind : (cursor : ℕ) → (l.next.now).place + s ≡ k.place
        → IsPlaceAfter (time_of k.end) (expansion r (window_of (p_of l.next.now) s)) cursor
        → StartsNew (p_of l.next.now) (l.next.now).place (t_of l) l.index s cursor
    cursor_behind cursor same after =
        starts_behind (p_of l.next.now) (l.next.now).place (t_of l) l.index s (last_of k) last its.0 its.1 cursor (same ∙ sym at)
        (rw its.2 after)

    pub cursor_first : (cursor : ℕ) (w : Window) → w ≡ window_of (p_of l.next.now) s → k.place < (l.next.now).place + s
        → listed w (take cursor (expansion r w)) ≡ []
        → StartsNew (p_of l.next.now) (l.next.now).place (t_of l) l.index s cursor
    cursor_first cursor w same less none =
        starts_first (p_of l.next.now) (l.next.now).place (t_of l) l.index s (last_of k) last its.0 its.1 cursor (omega (arith, at, less))
        (rw its.2 (subst (λ (v : Window). listed v (take cursor (expansion r v)) ≡ []) same none))
