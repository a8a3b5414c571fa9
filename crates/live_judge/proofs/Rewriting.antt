-- What a track keeps of a Period, and what an update's presentation has there.
use Rattle.live_judge.specs.declared.coming.Coming.TheVariants as comes
use Rattle.std.proofs.Common.{◌≡◌, ◌≤◌, ℕ, ◌+◌, ◌<◌, ◌==◌, ℤ, pos, ◌-ℤ◌, min, true, false, List, [], length, map, IfSome, Option, None}
use Rattle.std.proofs.{Common.{Some, refl, sym, ◌∙◌, ap, subst, inl, inr, arith, ◌*◌, All, Ok}, lemmas.Bool.{cases_lt, ne_eqb}}
use Rattle.std.proofs.{lemmas.Bool.Decides.nat_tests, lemmas.Int.ints, lemmas.List.length-map, lemmas.Option.{same_Some, slice_get_within}}
use Rattle.std.proofs.lemmas.List.Elements.{All-from_recursion, All-nil}
use Rattle.std.specs.{Prelude.{int_lt, option_map, option_to_list, slice_get, is_none, is_some}, List.last_or, Option.option_map_or}
use Rattle.exact_time.specs.Time.{IsAtMost, Time, nanoseconds, IsTime}
use Rattle.exact_time.proofs.TimeOrder.{IsAtMost-trans, at_most-from}
use Rattle.timeline.specs.{declared.window.Window.Window, Expansions.{SegmentTimeline, Timing}, Listed.{expansion, is_until}}
use Rattle.timeline.specs.{OpenEnds.UntilTells, Steady.AreLasting}
use Rattle.presentation.specs.declared.parts.Content.{Content}
use Rattle.presentation.specs.Presented.{Following, at_instant, content_at, start_of, whole_window, window_at, window_of, Presented}
use Rattle.presentation.specs.Presented.{looked_at}
use Rattle.mpd_presentation.specs.Told.{presented_of}
use Rattle.presentation.proofs.Grids.{All-at}
use Rattle.mpd_presentation.proofs.Pace.{expansion_has}
use Rattle.live_meaning.specs.{Segments.{Segment, id_at, place_of, times_of}, Known.{Known, ids_of}}
use Rattle.live_meaning.specs.Refusals.{Rewritten, expansion_at, ids_in, latest_in, latest_of, rewritten_by, rewritten_in}
use Rattle.live_meaning.specs.{Histories.availability_start_of, Updates.mpd_of}
use Rattle.live_meaning.proofs.{Accepted.{new_in, id_there, known_grown}, Orders.{IsSoundIn, presented_sound}}
use Rattle.live_judge.specs.{declared.block.Block.Block, declared.rewritten.Pair.Pair, declared.track_next.TrackNext.TrackNext}
use Rattle.live_judge.specs.{Blocks.{IsBlock, in_block, segments_in}, Changed.AreUnmoved}
use Rattle.live_judge.specs.{Coming.{IsTrackNext, p_of, t_of, Comes, update_of}, Removal.kept_in, Rewriting.{pair_of, EndAtTimes}}
use Rattle.live_judge.specs.{Shown.common_shown, Sound.IsSegmentOf, declared.coming.Coming.Coming, declared.standing.Standing.Standing}
use Rattle.live_judge.proofs.{Blocks.filter_none, Contents.{content_there, sound_there}, Places.place_before}
use Rattle.mpd_levels.specs.Segments.{Segments}
use Rattle.mpd_rules.specs.{Typed.TypedMpd, Views.segments_mpd}

start_is : (o : Option Known) (a b : ℕ) → option_map (λ (k : Known). k.start) o ≡ Some a → IfSome o (λ (k : Known). k.start ≡ b) → a ≡ b
start_is None a b is same = absurd (cc)
start_is (Some k) a b is same = sym (same_Some k.start a is) ∙ same

-- what has ended by an instant is listed up to a later one
pub later_ended : (now instant own : ℤ) (start : ℕ) (end : Time) → int_lt now instant ≡ false
    → IsAtMost end (nanoseconds ((instant -ℤ own) -ℤ pos start)) → IsAtMost end (nanoseconds ((now -ℤ own) -ℤ pos start))
later_ended now instant own start end forward ended =
    let a = (instant -ℤ own) -ℤ pos start in
    let z = (now -ℤ own) -ℤ pos start in
    let later : IsAtMost (nanoseconds a) (nanoseconds z) = grind (arith, ints, nat_tests) in
    IsAtMost-trans end (nanoseconds a) (nanoseconds z) (omega arith) ended later

until_reaches : (o : Option Following) (now instant start_at : ℤ) (start : ℕ) (end : Time) → int_lt now instant ≡ false
    → IfSome (option_map (at_instant now) o) (λ f. f.availability_start ≡ start_at)
    → IsAtMost end (nanoseconds ((instant -ℤ start_at) -ℤ pos start))
    → is_until (option_map_or (λ f. window_at f start) (option_map (at_instant now) o) whole_window).until end ≡ true
until_reaches None now instant start_at start end forward follows ended = refl
until_reaches (Some g) now instant start_at start end forward follows ended =
    ap (λ s. is_until (Some ((now -ℤ s) -ℤ pos start)) end) follows
    ∙ at_most-from end (nanoseconds ((now -ℤ start_at) -ℤ pos start)) (later_ended now instant start_at start end forward ended)

module _ (l : TrackNext) (is : IsTrackNext l) where
  abbrev known : List Known
  known = (common_shown (l.next.now).standing.now).known

  pub segment_there : (i : ℕ) (x : Segment) → slice_get (segments_in l.track.now) i ≡ Some x
      → IsSegmentOf (common_shown (l.next.now).standing.now) x
  segment_there i x at = All-at (IsSegmentOf (common_shown (l.next.now).standing.now)) (segments_in l.track.now) i x
      (sound_there l is).segments at

  place_known : (i : ℕ) (x : Segment) → slice_get (segments_in l.track.now) i ≡ Some x → x.value.place < length known
  place_known i x at = known_within (slice_get known x.value.place) refl (segment_there i x at).starts
    where
      known_within : (o : Option Known) → slice_get known x.value.place ≡ o → option_map (λ (k : Known). k.start) o
          ≡ Some x.value.period_start → x.value.place < length known
      known_within None there starts = absurd (cc)
      known_within (Some k) there starts = slice_get_within known x.value.place k there

  none_latest : (place : ℕ) → length known ≤ place → latest_in place (kept_in l.track.now) ≡ []
  none_latest place beyond =
      ap (λ (ys : List Segment). latest_of (last_or None ys) ys)
      (filter_none (λ (x : Segment). x.value.place == place) (segments_in l.track.now)
      (λ i x at. let low = place_known i x at in ne_eqb _ _ (λ same. omega (arith, low, beyond, same))))

  latest_same : (place : ℕ) → latest_in (min place (length known)) (kept_in l.track.now) ≡ latest_in place (kept_in l.track.now)
  latest_same place = elim (cases_lt place (length known)) [
    | inl less ↦ let same : min place (length known) ≡ place = omega (arith, less) in ap (λ n. latest_in n (kept_in l.track.now)) same
    | inr not_less ↦ none_latest (min place (length known)) (omega (arith, not_less)) ∙ sym (none_latest place not_less)
  ]

  module _ (s : ℕ) (within : s < length (p_of l.next.now).sections) where
    place_is : place_of (ids_of known) (id_at (p_of l.next.now) s) ≡ min ((l.next.now).place + s) (length known)
    place_is =
        place_before (ids_of known) (new_in (ids_of known) (ids_in (p_of l.next.now))) (ids_in (p_of l.next.now)) (l.next.now).place s
        (id_at (p_of l.next.now) s) (rw known_grown at is.next.stands) (id_there (p_of l.next.now).sections s within)
        ∙ ap (min ((l.next.now).place + s)) (length-map known (λ (k : Known). k.id))

    -- what is told of a section, where its block is held against it
    pub told_in : (block : Block) (found : Option Pair) → IsBlock ((l.next.now).place + s) l.track.now block
        → option_map pair_of found ≡ rewritten_by (times_of (in_block block l.track.now)) (expansion_at (p_of l.next.now) l.index s)
        → rewritten_in (common_shown (l.next.now).standing.now) (p_of l.next.now) l.index (t_of l) s
        ≡ map (λ pair. Rewritten l.index pair.0 pair.1) (option_to_list (option_map pair_of found))
    told_in block found one same = rw (place_is, latest_same ((l.next.now).place + s), one.are, same) refl

    -- what is kept of a Period has ended by then
    pub until_there : AreUnmoved (l.next.now).standing.now.known (p_of l.next.now) (l.next.now).place → (i : ℕ) (x : Segment)
        → slice_get (segments_in l.track.now) i ≡ Some x
        → x.value.place ≡ (l.next.now).place + s → is_until (window_of (p_of l.next.now) s).until x.end ≡ true
    until_there unmoved i x at there =
        let one = segment_there i x at in
        let start : x.value.period_start ≡ start_of (p_of l.next.now) s =
        start_is (slice_get known ((l.next.now).place + s)) x.value.period_start (start_of (p_of l.next.now) s)
        (ap (λ n. option_map (λ (k : Known). k.start) (slice_get known n)) (sym there) ∙ one.starts) (unmoved s within) in
        until_reaches (l.next.now).force.now.following (l.next.now).now ((l.next.now).standing.now).instant _
        (start_of (p_of l.next.now) s) x.end is.next.forward is.next.follows
        (subst (λ n. IsAtMost x.end (nanoseconds
        ((((l.next.now).standing.now).instant -ℤ availability_start_of ((l.next.now).standing.now).opened) -ℤ pos n))) start
        (one.ended is.next.unended))

    -- what the presentation has there
    pub expansion_is : (r : SegmentTimeline) (w : Window) → UntilTells
        → option_map (λ (content : Content). content.runs) (content_at (p_of l.next.now) s l.index) ≡ Some r
        → w.until ≡ (window_of (p_of l.next.now) s).until → expansion_at (p_of l.next.now) l.index s ≡ expansion r w
    expansion_is r w tells has until =
        let at = content_there (content_at (p_of l.next.now) s l.index) r has in
        ap (λ (o : Option Content). option_map_or (λ content. expansion content.runs (window_of (p_of l.next.now) s)) o []) at.1
        ∙ ap (λ (q : SegmentTimeline). expansion q (window_of (p_of l.next.now) s)) at.2
        ∙ sym (tells r w (window_of (p_of l.next.now) s) until).2

-- ---- the segments of an MPD's presentation end at times

at_times : (w : Window) (o : Option Content) → ((content : Content) → o ≡ Some content → AreLasting content.runs.members)
    → All (λ (x : Timing). IsTime x.end) (option_map_or (λ content. expansion content.runs w) o [])
at_times w None last = All-nil (λ (x : Timing). IsTime x.end)
at_times w (Some content) last =
    All-from_recursion (λ (x : Timing). IsTime x.end) (expansion content.runs w)
    (expansion_has (λ start end. IsTime end) (λ x lasts. lasts.end_is) content.runs w (last content refl))

made_timed : (mpd : TypedMpd (Option Segments)) (url : List ℕ) (now : ℤ) (p : Presented) → presented_of mpd url (Some now) ≡ Ok p
    → EndAtTimes (looked_at now p)
made_timed mpd url now p made t s =
    at_times (window_of (looked_at now p) s) (content_at p s t)
    (λ content at. (All-at IsSoundIn p.contents (s * length p.tracks + t) content (presented_sound mpd url (Some now) p made) at).lasting)

-- those of an update's MPD do
pub comes_timed : (s : Standing) (c : Coming) (force : Presented) (now at : ℤ) → Comes s c force now
    → is_some (mpd_of (update_of c at)) ≡ true → EndAtTimes (looked_at now force)
comes_timed s (comes.Refresh mpd) force now at made some = made_timed (segments_mpd mpd.now) s.base now force made
comes_timed s (comes.Reset mpd) force now at made some = made_timed (segments_mpd mpd.now) s.base now force made
comes_timed s comes.Tick force now at made some = absurd (cc)

pub some_is : {X Y : Type 0} (f : X → Y) (o : Option X) (r : Option Y) → option_map f o ≡ r → is_none o ≡ false → is_some r ≡ true
some_is f None r is other = absurd (cc)
some_is f (Some x) r is other = ap is_some (sym is)
