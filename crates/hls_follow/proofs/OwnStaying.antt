-- A segment that is listed again stays as it was.
use Rattle.hls_follow.proofs.Contiguous as contiguous
use Rattle.std.proofs.Common.{◌≡◌, ℕ, zero, suc, ◌+◌, ◌-◌, ◌<◌, ◌≤◌, Bool, true, false, eqb, List, [], ◌∷◌, drop, length, map, slice_get, get_or}
use Rattle.std.proofs.Common.{All, Option, Some, None, option_map, unwrap_or, Ok, refl, sym, ◌∙◌, ap, subst, arith}
use Rattle.std.proofs.{lemmas.Bool.{eq-eqb, eqb-true}, lemmas.List.Elements.{All-append, All-cons, All-head, All-map, All-nil, All-tail}}
use Rattle.std.proofs.lemmas.Option.{slice_get-map, slice_get_within}
use Rattle.bridge_io.specs.Outside.{Files}
use Rattle.hls_master.specs.declared.track.MasterTrack.{MasterTrack}
use Rattle.hls_media.specs.{Laws.IsBounded, declared.media.MediaSegment.MediaSegment}
use Rattle.reload_law.specs.{Laws.{IsInBoth, IsLawful, RulesAreSentences}, Rules.end_of}
use Rattle.hls_presentation.specs.Tracks.{Source, sources}
use Rattle.dash_writer.specs.{Live.part_of, declared.live.LivePeriod.LivePeriod}
use Rattle.dash_writer.specs.{declared.live.LiveRun.LiveRun, declared.live.LiveSegment.LiveSegment}
use Rattle.fragment_times.specs.{Origins.origin_of}
use Rattle.hls_follow.specs.declared.periods.Extent.{Extent}
use Rattle.hls_follow.specs.{declared.state.Followed.Followed, declared.state.FollowedTrack.FollowedTrack}
use Rattle.hls_follow.specs.{Kept.{flags_of, kept_by, periods_of}, Listed.{Listed}, OwnTimes.{Snapshot, period_in}}
use Rattle.hls_follow.specs.{OwnTimes.{run_at, scale_of}, Periods.known_in, Rules.{judged_reload, sections_in}, Stretches.known_times}
use Rattle.hls_follow.specs.Ticks.{offset_of}
use Rattle.hls_follow.specs.TimedHistories.{IsPlaced, IsRound, Round, TimedSegmentsStay, timed_by}
use Rattle.hls_follow.specs.TimedListed.{AreOwn, ListsOwnTrack, OwnListed, OwnPlaced, own_listed_as, own_listed_of, own_placed_as}
use Rattle.hls_follow.specs.TimedListed.{own_placed_in, own_placed_of}
use Rattle.hls_follow.proofs.{Bounded.{bounded_kept, bounded_sources}, CellFacts.facts_of, Cells.{Cell, IsCell, placed_by}}
use Rattle.hls_follow.proofs.Histories.{Rises, at_index, judged_at, kept_length, number_of, same_listed, sections_rise, sources_length}
use Rattle.hls_follow.proofs.{OwnHistories.{Goes, from_first, over}, OwnParts.{OwnParts, parts_of}}
use Rattle.hls_follow.proofs.OwnTracks.{column_of, listed_are, listed_numbers, lists_own, snapshot, source_of, times_are_own, tracks_many}
use Rattle.hls_follow.proofs.Sections.{first_sections}

-- ---- what is known of a segment of an MPD

record IsKnown (known : List LivePeriod) (place : ℕ) (p : OwnPlaced) : Type 0 where
  period : LivePeriod
  is : period_in p.listed.section known ≡ Some period
  run : LiveRun
  at : slice_get period.runs place ≡ Some run
  start : period.start ≡ p.start
  scale : run.scale ≡ p.scale
  offset : run.offset ≡ p.offset

record IsFrom (from : ℕ) (known : List LivePeriod) (period : LivePeriod) : Type 0 where
  least : from ≤ period.number
  is : period_in period.number known ≡ Some period

from_behind : (from : ℕ) (q : LivePeriod) (known : List LivePeriod) (p : LivePeriod) → from ≤ q.number → IsFrom (q.number + 1) known p
    → IsFrom from (q ∷ known) p
from_behind from q known p least k = by (eqb q.number p.number) refl k.least
  where
    by : (b : Bool) → eqb q.number p.number ≡ b → q.number + 1 ≤ p.number → IsFrom from (q ∷ known) p
    by true b past = absurd (let same = eqb-true q.number p.number b in omega (arith, same))
    by false b past = record { least = omega arith; is = rw b k.is }

from_self : (from : ℕ) (known : List LivePeriod) → Rises from (map number_of known) → All (IsFrom from known) known
from_self from [] rises = All-nil (IsFrom from [])
from_self from (q ∷ known) rises =
    All-cons (IsFrom from (q ∷ known)) q known (record { least = rises.0; is = rw (eq-eqb q.number q.number refl) refl })
    (λ i d within. from_behind from q known _ rises.0 (from_self (q.number + 1) known rises.1 i d within))

abbrev EachPlaced : (Q : OwnPlaced → Type 0) (place : ℕ) → LivePeriod → Type 0
EachPlaced Q place period = (run : LiveRun) → slice_get period.runs place ≡ Some run → (segment : LiveSegment)
    → Q (own_placed_as period run segment)

placed_all : (Q : OwnPlaced → Type 0) (place : ℕ) (listed : List LivePeriod) → All (EachPlaced Q place) listed
    → All Q (own_placed_of place listed)
placed_all Q place [] each = All-nil Q
placed_all Q place (period ∷ listed) each =
    All-append Q (own_placed_in period (slice_get period.runs place)) (own_placed_of place listed) (by (slice_get period.runs place) refl)
    (placed_all Q place listed (All-tail (EachPlaced Q place) period listed each))
  where
    by : (run : Option LiveRun) → slice_get period.runs place ≡ run → All Q (own_placed_in period run)
    by None at = All-nil Q
    by (Some run) at = All-map Q (own_placed_as period run) run.segments
        (λ i d within. All-head (EachPlaced Q place) period listed each run at (get_or run.segments i d))

known_all : (place : ℕ) (known : List LivePeriod) → Rises 0 (map number_of known) → All (IsKnown known place) (own_placed_of place known)
known_all place known rises = placed_all (IsKnown known place) place known (λ i d within run at segment. record {
  period = get_or known i d;
  is = (from_self 0 known rises i d within).is;
  run = run;
  at = at;
  start = refl;
  scale = refl;
  offset = refl;
})

extent_known : (number : ℕ) (known : List LivePeriod) (period : LivePeriod) → period_in number known ≡ Some period
    → known_in number known ≡ Some (record { start = period.start; longest = period.longest })
extent_known number [] period is = absurd (cc)
extent_known number (q ∷ known) period is = by (eqb q.number number) refl (extent_known number known period)
  where
    by : (b : Bool) → eqb q.number number ≡ b
        → (period_in number known ≡ Some period → known_in number known ≡ Some (record { start = period.start; longest = period.longest }))
        → known_in number (q ∷ known) ≡ Some (record { start = period.start; longest = period.longest })
    by true b later =
        (let h : period_in number (q ∷ known) ≡ Some q = rw b refl in
        let same : q ≡ period = cc in
        rw b (ap (λ (p : LivePeriod). Some (record { start = p.start; longest = p.longest })) same))
    by false b later =
        (let h : period_in number (q ∷ known) ≡ period_in number known = rw b refl in rw b (later (sym h ∙ is)))

-- ---- how a segment of an MPD goes on from what is known

abbrev HasOffset : OwnPlaced → Type 0
HasOffset p = p.offset ≡ Some (unwrap_or p.offset 0)

record GoesOn (known : List LivePeriod) (place : ℕ) (p : OwnPlaced) : Type 0 where
  starts : (e : Extent) → known_in p.listed.section known ≡ Some e → p.start ≡ e.start
  clock : (run : LiveRun) → run_at (period_in p.listed.section known) place ≡ Some run
      → (p.scale ≡ run.scale) × (p.offset ≡ Some (unwrap_or run.offset 0))
  offset : HasOffset p

module _ (s : Snapshot) (files : Files) (place : ℕ) where
  cell_goes : (c : Cell) → IsCell s files place c → (segment : LiveSegment)
      → GoesOn s.periods place (own_placed_as c.period c.live segment)
  cell_goes c is segment =
      let f = facts_of s files place c is in
      record {
        starts = is.start;
        clock = λ run known. (
          f.live_scale ∙ (let h : scale_of s.folder files (Some run) c.stretch ≡ Ok c.times.scale =
              ap (λ (o : Option LiveRun). scale_of s.folder files o c.stretch) (sym known) ∙ f.scale in
              let same : run.scale ≡ c.times.scale = cc in sym same),
          f.live_offset ∙ ap (λ (o : Option LiveRun). Some (offset_of o (origin_of c.row) c.times)) known,
        );
        offset = rw f.live_offset refl;
      }

  cells_go : (cells : List Cell) → All (IsCell s files place) cells → All (GoesOn s.periods place) (placed_by cells)
  cells_go [] each = All-nil (GoesOn s.periods place)
  cells_go (c ∷ cells) each =
      All-append (GoesOn s.periods place) (map (own_placed_as c.period c.live) c.live.segments) (placed_by cells)
      (All-map (GoesOn s.periods place) (own_placed_as c.period c.live) c.live.segments
      (λ i d within. cell_goes c (All-head (IsCell s files place) c cells each) (get_or c.live.segments i d)))
      (cells_go cells (All-tail (IsCell s files place) c cells each))

-- ---- what each accepted snapshot leaves

-- so many tracks are kept as flags say, of which each is listed, in Periods whose numbers rise
pub record IsWhole (tracks : List MasterTrack) (f : Followed) : Type 0 where
  pub count : (all : List Source) → length all ≡ length tracks → length f.tracks ≡ length (kept_by f.kept all)
  pub numbers : Rises 0 (map number_of f.mpd.periods)
  pub lists : (place : ℕ) (track : FollowedTrack) → slice_get f.tracks place ≡ Some track → ListsOwnTrack f place track
  pub offsets : (place : ℕ) (track : FollowedTrack) → slice_get f.tracks place ≡ Some track
      → All HasOffset (own_placed_of place f.mpd.periods)

module _ (tracks : List MasterTrack) (folder : List ℕ) (former : Option Followed) (round : Round) (new : Followed)
    (accepted : timed_by tracks folder former round ≡ Ok new) where
  abbrev parts : OwnParts folder former (sources tracks round.medias) round new
  parts = parts_of tracks folder former round new accepted

  goes_at : (place : ℕ) (track : FollowedTrack) → slice_get new.tracks place ≡ Some track
      → All (GoesOn (periods_of former) place) (own_placed_of place new.mpd.periods)
  goes_at place track at =
      let here = sources tracks round.medias in
      let c = column_of folder former here round new parts place track at in
      subst (λ (ps : List OwnPlaced). All (GoesOn (periods_of former) place) ps)
      (sym c.placed ∙ ap (own_placed_of place) (sym (listed_are folder former here round new parts)))
      (cells_go (snapshot folder former here round new parts) round.files place c.cells c.each)

  pub whole_of : IsRound tracks round → IsWhole tracks new
  whole_of given =
      let here = sources tracks round.medias in
      let p = parts in
      let tracks_length : length new.tracks ≡ length (kept_by new.kept here) =
      ap (λ (ts : List FollowedTrack). length ts) p.tracks ∙ tracks_many (length p.kept) 0 p.kept p.times
      ∙ ap (λ (ss : List Source). length ss) p.are ∙ ap (λ (flags : List Bool). length (kept_by flags here)) (sym p.flags) in
      let bounded = subst (All (λ (s : Source). IsBounded s.media)) (sym p.are)
      (bounded_kept (flags_of former here) here (bounded_sources tracks round.medias given.bounded)) in
      record {
        count = λ all as_many. tracks_length
            ∙ kept_length new.kept here all (sources_length tracks round.medias given.one_each ∙ sym as_many);
        numbers = subst (Rises 0) (first_sections p.kept p.sections p.judged.common
            ∙ sym (listed_numbers folder former here round new p)) (rise p.kept bounded);
        lists = lists_own folder former here round new p;
        offsets = λ place track at i d within. (goes_at place track at i d within).offset;
      }
    where
      rise : (kept : List Source) → All (λ (s : Source). IsBounded s.media) kept → Rises 0 (sections_in kept)
      rise [] are = tt
      rise (s ∷ kept) are = sections_rise s.media (All-head (λ (s : Source). IsBounded s.media) s kept are)

-- ---- a segment that is listed again

record IsListedAt (segments : List MediaSegment) (times : List ℕ) (i : ℕ) (l : OwnListed) : Type 0 where
  segment : MediaSegment
  time : ℕ
  segment_at : slice_get segments i ≡ Some segment
  time_at : slice_get times i ≡ Some time
  is : l ≡ own_listed_as segment time

listed_at : (segments : List MediaSegment) (times : List ℕ) (i : ℕ) (l : OwnListed)
    → slice_get (own_listed_of segments times) i ≡ Some l → IsListedAt segments times i l
listed_at [] times i l is = absurd (cc)
listed_at (s ∷ segments) [] i l is = absurd (cc)
listed_at (s ∷ segments) (time ∷ times) zero l is = record {
  segment = s;
  time = time;
  segment_at = refl;
  time_at = refl;
  is = (let same : own_listed_as s time ≡ l = cc in sym same);
}
listed_at (s ∷ segments) (time ∷ times) (suc i) l is =
    (let h = listed_at segments times i l is in
    record { segment = h.segment; time = h.time; segment_at = h.segment_at; time_at = h.time_at; is = h.is })

is_listed : (segments : List MediaSegment) (times : List ℕ) (i : ℕ) (s : MediaSegment) (time : ℕ) → slice_get segments i ≡ Some s
    → slice_get times i ≡ Some time → slice_get (own_listed_of segments times) i ≡ Some (own_listed_as s time)
is_listed [] times i s time one two = absurd (cc)
is_listed (x ∷ segments) [] i s time one two = absurd (cc)
is_listed (x ∷ segments) (t ∷ times) zero s time one two =
    (let a : x ≡ s = cc in let b : t ≡ time = cc in ap (λ (s : MediaSegment). Some (own_listed_as s t)) a
    ∙ ap (λ (t : ℕ). Some (own_listed_as s t)) b)
is_listed (x ∷ segments) (t ∷ times) (suc i) s time one two = is_listed segments times i s time one two

record IsValueAt (placed : List OwnPlaced) (i : ℕ) (l : OwnListed) : Type 0 where
  value : OwnPlaced
  at : slice_get placed i ≡ Some value
  is : value.listed ≡ l

value_at : (placed : List OwnPlaced) (i : ℕ) (l : OwnListed) → slice_get (map (λ (p : OwnPlaced). p.listed) placed) i ≡ Some l
    → IsValueAt placed i l
value_at [] i l is = absurd (cc)
value_at (p ∷ placed) zero l is = record { value = p; at = refl; is = (let same : p.listed ≡ l = cc in same) }
value_at (p ∷ placed) (suc i) l is = (let h = value_at placed i l is in record { value = h.value; at = h.at; is = h.is })

-- without its duration
abbrev own_of : Listed → OwnListed
own_of l = record { section = l.section; initialization = l.initialization; part = part_of l.segment; time = l.segment.time }

-- a known time is kept
kept_time : (folder : List ℕ) (files : Files) (known : List ℕ) (segments : List MediaSegment) (times : List ℕ) (i time : ℕ)
    → AreOwn folder files known segments times → i < length segments → slice_get known i ≡ Some time → slice_get times i ≡ Some time
kept_time folder files known [] times i time own within at = absurd (omega arith)
kept_time folder files [] (s ∷ segments) times i time own within at = absurd (cc)
kept_time folder files (k ∷ known) (s ∷ segments) [] i time own within at = absurd own
kept_time folder files (k ∷ known) (s ∷ segments) (t ∷ times) zero time own within at =
    ap Some own.0 ∙ at
kept_time folder files (k ∷ known) (s ∷ segments) (t ∷ times) (suc i) time own within at =
    kept_time folder files known segments times i time own.1 (omega arith) at

drop_at : (xs : List ℕ) (n i : ℕ) → slice_get (drop n xs) i ≡ slice_get xs (n + i)
drop_at xs zero i = (let e : 0 + i ≡ i = omega arith in ap (slice_get xs) (sym e))
drop_at [] (suc n) i = refl
drop_at (x ∷ xs) (suc n) i = drop_at xs n i ∙ (let e : suc n + i ≡ suc (n + i) = omega arith in ap (slice_get (x ∷ xs)) (sym e))

-- the track at a place, behind what it was, with what was listed and is again
record Stays (tracks : List MasterTrack) (place number : ℕ) (placed : OwnPlaced) (f : Followed) : Type 0 where
  whole : IsWhole tracks f
  track : FollowedTrack
  kept : slice_get f.tracks place ≡ Some track
  before : number < end_of track.media
  is : track.media.sequence ≤ number → slice_get (own_placed_of place f.mpd.periods) (number - track.media.sequence) ≡ Some placed

module _ (sentences : RulesAreSentences) (tracks : List MasterTrack) (folder : List ℕ) (place number : ℕ) (placed : OwnPlaced) where
  -- a playlist behind another one, both of the track at the place
  record Next (new : Followed) (a b : FollowedTrack) : Type 0 where
    kept : slice_get new.tracks place ≡ Some b
    lawful : IsLawful a.media (contiguous.ended_now b.media)

  next_track : (former : Followed) (round : Round) (new : Followed) (s : Stays tracks place number placed former)
      → IsRound tracks round → timed_by tracks folder (Some former) round ≡ Ok new → (b : FollowedTrack) × Next new s.track b
  next_track former round new s given accepted =
      let p = parts tracks folder (Some former) round new accepted in
      let here = sources tracks round.medias in
      let as_many : length here ≡ length tracks = sources_length tracks round.medias given.one_each in
      let now = (whole_of tracks folder (Some former) round new accepted given).count here as_many in
      let was = s.whole.count here as_many in
      let flags : length (kept_by new.kept here) ≡ length (kept_by former.kept here) =
      ap (λ (flags : List Bool). length (kept_by flags here)) p.flags in
      let within = slice_get_within former.tracks place s.track s.kept in
      let b = contiguous.some_at new.tracks place (omega arith) in
      let t = source_of folder (Some former) here round new p place b.0 b.1 in
      let judged = judged_at judged_reload former.tracks 0 place p.kept t.source p.judged.reloads t.kept_at in
      let e : 0 + place ≡ place = omega arith in
      let old : slice_get former.tracks (0 + place) ≡ Some s.track = ap (slice_get former.tracks) e ∙ s.kept in
      let one : judged_reload (0 + place) (Some s.track) b.0.media ≡ Ok tt =
      ap (λ (t : FollowedTrack). judged_reload (0 + place) (Some s.track) t.media) t.is
      ∙ ap (λ (o : Option FollowedTrack). judged_reload (0 + place) o t.source.media) (sym old) ∙ judged in (
        b.0,
        record {
          kept = b.1;
          lawful = (sentences s.track.media (contiguous.ended_now b.0.media)).0
              (contiguous.lawful_ended (0 + place) s.track.media b.0.media one);
        },
      )

  -- what it lists again is listed as it was
  same_again : (former : Followed) (round : Round) (new : Followed) (s : Stays tracks place number placed former) (b : FollowedTrack)
      → Next new s.track b → IsRound tracks round → timed_by tracks folder (Some former) round ≡ Ok new → b.media.sequence ≤ number
      → slice_get (map (λ (p : OwnPlaced). p.listed) (own_placed_of place new.mpd.periods)) (number - b.media.sequence) ≡ Some placed.listed
  same_again former round new s b next given accepted from =
      let a = s.track in
      let l = next.lawful in
      let rising = l.sequence in
      let ends = l.ends in
      let before = s.before in
      let i = number - a.media.sequence in
      let j = number - b.media.sequence in
      let m = b.media.sequence - a.media.sequence in
      let p = parts tracks folder (Some former) round new accepted in
      let lists_a = s.whole.lists place a s.kept in
      let lists_b = lists_own folder (Some former) (sources tracks round.medias) round new p place b next.kept in
      let own = times_are_own folder (Some former) (sources tracks round.medias) round new p place b next.kept in
      let old : slice_get (own_listed_of a.media.segments a.times) i ≡ Some placed.listed =
      ap (λ (ls : List OwnListed). slice_get ls i) (sym lists_a.segments)
      ∙ slice_get-map (λ (p : OwnPlaced). p.listed) (own_placed_of place former.mpd.periods) i
      ∙ ap (option_map (λ (p : OwnPlaced). p.listed)) (s.is (omega (arith, rising))) in
      let o = listed_at a.media.segments a.times i placed.listed old in
      let n = contiguous.some_at b.media.segments j (omega (arith, rising, ends, before)) in
      let mj : m + j ≡ i = omega (arith, rising, from) in
      let known : slice_get (drop m a.times) j ≡ Some o.time = drop_at a.times m j ∙ ap (slice_get a.times) mj ∙ o.time_at in
      let known_own = subst (λ (former : Option FollowedTrack). AreOwn folder round.files
      (known_times former b.media) b.media.segments b.times) s.kept own in
      let there : slice_get b.times j ≡ Some o.time = kept_time folder round.files (drop m a.times) b.media.segments b.times j o.time known_own
      (omega (arith, rising, ends, before)) known in
      let both : IsInBoth a.media (contiguous.ended_now b.media) number o.segment n.0 = record {
        in_old = contiguous.listed_at a.media number i o.segment (omega (arith, rising)) refl o.segment_at;
        in_new = contiguous.listed_at (contiguous.ended_now b.media) number j n.0 from refl n.1;
      } in
      let same = ap own_of (same_listed o.segment n.0 o.time (l.segments number o.segment n.0 both)
      (eqb-true o.segment.section n.0.section (l.sections number o.segment n.0 both))) in
      ap (λ (ls : List OwnListed). slice_get ls j) lists_b.segments
      ∙ is_listed b.media.segments b.times j n.0 o.time n.1 there ∙ ap (λ (l : OwnListed). Some l) (sym same ∙ sym o.is)

  -- in a Period that begins when it did, with its clock
  starts_again : (former : Followed) (round : Round) (new : Followed) (s : Stays tracks place number placed former) (b : FollowedTrack)
      (i j : ℕ) (q : OwnPlaced) → timed_by tracks folder (Some former) round ≡ Ok new → slice_get new.tracks place ≡ Some b
      → slice_get (own_placed_of place former.mpd.periods) i ≡ Some placed
      → slice_get (own_placed_of place new.mpd.periods) j ≡ Some q → q.listed ≡ placed.listed → q ≡ placed
  starts_again former round new s b i j q accepted at was now listed =
      let k = at_index (IsKnown former.mpd.periods place) (own_placed_of place former.mpd.periods) i placed
      (known_all place former.mpd.periods s.whole.numbers) was in
      let had = at_index HasOffset (own_placed_of place former.mpd.periods) i placed (s.whole.offsets place s.track s.kept) was in
      let g = at_index (GoesOn former.mpd.periods place) (own_placed_of place new.mpd.periods) j q
      (goes_at tracks folder (Some former) round new accepted place b at) now in
      let section : q.listed.section ≡ placed.listed.section = ap (λ (l : OwnListed). l.section) listed in
      let period : period_in q.listed.section former.mpd.periods ≡ Some k.period =
      ap (λ n. period_in n former.mpd.periods) section ∙ k.is in
      let start : q.start ≡ placed.start =
      g.starts (record { start = k.period.start; longest = k.period.longest })
      (extent_known q.listed.section former.mpd.periods k.period period) ∙ k.start in
      let clock = g.clock k.run (ap (λ (o : Option LivePeriod). run_at o place) period ∙ k.at) in
      let scale : q.scale ≡ placed.scale = clock.0 ∙ k.scale in
      let offset : q.offset ≡ placed.offset = clock.1 ∙ ap (λ (o : Option ℕ). Some (unwrap_or o 0)) k.offset ∙ sym had in
      ap (λ n. record { start = n; scale = q.scale; offset = q.offset; listed = q.listed }) start
      ∙ ap (λ n. record { start = placed.start; scale = n; offset = q.offset; listed = q.listed }) scale
      ∙ ap (λ (o : Option ℕ). record { start = placed.start; scale = placed.scale; offset = o; listed = q.listed }) offset
      ∙ ap (λ (l : OwnListed). record { start = placed.start; scale = placed.scale; offset = placed.offset; listed = l }) listed

  goes_on : Goes tracks folder (IsRound tracks) (Stays tracks place number placed)
  goes_on former round new s given accepted =
      let t = next_track former round new s given accepted in
      let b = t.0 in
      let l = t.1.lawful in
      let rising = l.sequence in
      let ends = l.ends in
      let before = s.before in
      record {
        whole = whole_of tracks folder (Some former) round new accepted given;
        track = b;
        kept = t.1.kept;
        before = omega (arith, ends, before);
        is = λ from.
            (let q = value_at (own_placed_of place new.mpd.periods) (number - b.media.sequence) placed.listed
            (same_again former round new s b t.1 given accepted from) in
            q.at ∙ ap (λ (p : OwnPlaced). Some p) (starts_again former round new s b (number - s.track.media.sequence)
            (number - b.media.sequence) q.value accepted t.1.kept (s.is (omega (arith, rising))) q.at q.is));
      }

-- a number that the MPD has is one of the playlist
within_track : (f : Followed) (place number : ℕ) (placed : OwnPlaced) (p : IsPlaced f place number placed) → ListsOwnTrack f place p.track
    → number < end_of p.track.media
within_track f place number placed p lists =
    let i = number - p.track.media.sequence in
    let l : slice_get (own_listed_of p.track.media.segments p.track.times) i ≡ Some placed.listed =
    ap (λ (ls : List OwnListed). slice_get ls i) (sym lists.segments)
    ∙ slice_get-map (λ (p : OwnPlaced). p.listed) (own_placed_of place f.mpd.periods) i ∙ ap (option_map (λ (p : OwnPlaced). p.listed)) p.is in
    let o = listed_at p.track.media.segments p.track.times i placed.listed l in
    let within = slice_get_within p.track.media.segments i o.segment o.segment_at in
    let from = p.from in
    omega (arith, within, from)

pub segments_stay : RulesAreSentences → TimedSegmentsStay
segments_stay sentences tracks folder before after old new place number placed first then p has =
    let whole = from_first tracks folder (IsRound tracks) (IsWhole tracks)
    (λ round new given accepted. whole_of tracks folder None round new accepted given)
    (λ former round new was given accepted. whole_of tracks folder (Some former) round new accepted given) before old first.whole first.left in
    let s : Stays tracks place number placed new = over tracks folder (IsRound tracks) (Stays tracks place number placed)
    (goes_on sentences tracks folder place number placed) old after new then.whole
    (record {
      whole = whole;
      track = p.track;
      kept = p.kept;
      before = within_track old place number placed p (whole.lists place p.track p.kept);
      is = λ from. p.is;
    }) then.left in
    let same : has.track ≡ s.track = (let one = has.kept in let two = s.kept in cc) in
    let from : s.track.media.sequence ≤ number = subst (λ (t : FollowedTrack). t.media.sequence ≤ number) same has.lists.from in
    record { track = s.track; kept = s.kept; from = from; is = s.is from }
