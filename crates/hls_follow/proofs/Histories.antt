-- What stays over every list of accepted rounds.
use Rattle.hls_follow.proofs.Contiguous as contiguous
use Rattle.hls_follow.proofs.Listing as listing
use Rattle.hls_follow.proofs.Staying as staying
use Rattle.std.proofs.Common.{◌≡◌, ℕ, zero, suc, ◌+◌, ◌-◌, ◌<◌, ◌≤◌, Bool, true, false, ◌&&◌, eqb, ltb, List, [], ◌∷◌, map, length}
use Rattle.std.proofs.Common.{slice_get, All, Option, Some, None, Result, Ok, Err, refl, sym, ◌∙◌, ap, ap₂, subst, arith, bytes_eq}
use Rattle.std.proofs.{Common.option_map, lemmas.Bool.{eq-eqb, eqb-true, eqb-false, le-ltb}, lemmas.List.Elements.{All-nil, All-cons}}
use Rattle.std.proofs.{lemmas.List.Elements.{All-append, All-head, All-map, All-tail}, lemmas.Option.{get_or_from_slice_get, slice_get-map}}
use Rattle.std.proofs.{lemmas.Option.slice_get_within, lemmas.Slice.Eq.bytes_eq-Decides}
use Rattle.std.specs.{Option.option_eq, List.Sorted.IsNonDecreasingBy}
use Rattle.bridge_io.proofs.AndThen.{steps_of}
use Rattle.hls_master.specs.declared.track.MasterTrack.{MasterTrack}
use Rattle.hls_media.specs.{Laws.IsBounded, declared.media.Media.Media, declared.media.MediaSegment.MediaSegment}
use Rattle.reload_law.specs.{Laws.{IsInBoth, IsLawful, RulesAreSentences}, Rules.{end_of, same_part, same_range, same_segment}}
use Rattle.hls_presentation.specs.Tracks.{Source, sources}
use Rattle.dash_writer.specs.{declared.live.LiveMpd.LiveMpd, declared.live.LivePeriod.LivePeriod, declared.live.LiveRun.LiveRun}
use Rattle.dash_writer.specs.declared.live.LiveSegment.{LiveSegment}
use Rattle.hls_follow.specs.declared.periods.Extent.{Extent}
use Rattle.hls_follow.specs.declared.state.Followed.{Followed}
use Rattle.layer_faults.specs.declared.live.LiveFault.{LiveFault}
use Rattle.hls_follow.specs.{declared.state.FollowedTrack.FollowedTrack, Times.TimedSegment}
use Rattle.hls_follow.specs.Histories.{AreContiguousFromTheFirst, IsPlaced, IsRound, LastPlaylistsAreListed, Playlists, SegmentsStay}
use Rattle.hls_follow.specs.{Histories.{StartsStayOverRounds, accepted_after}, Kept.{flags_of, formers_of, kept_by}, Laws.Follows}
use Rattle.hls_follow.specs.{Laws.IsContiguous, Listed.{Listed, ListsTrack, Placed, listed_as, listed_of, placed_as, placed_in, placed_of}}
use Rattle.hls_follow.specs.{Periods.known_in, Rounds.{followed_of, followed_tracks}, Groups.groups_of, Rules.{judged_all, judged_reload}}
use Rattle.hls_follow.specs.{Rules.{sections_behind, sections_in, sections_of}, Times.{former_time, timed_all, timed_of, unless_late}}
use Rattle.hls_follow.proofs.{Bounded.{bounded_kept, bounded_sources}, Sections.{first_sections, same_options, same_parts, same_ranges}}

-- ---- by induction over rounds

record Accepted (tracks : List MasterTrack) (former : Option Followed) (round : Playlists) (rounds : List Playlists)
    (new : Followed) : Type 0 where
  next : Followed
  accepted : followed_of tracks former round.0 round.1 ≡ Ok next
  later : accepted_after tracks (Some next) rounds ≡ Some new

accepted_of : (tracks : List MasterTrack) (former : Option Followed) (round : Playlists) (rounds : List Playlists) (new : Followed)
    → accepted_after tracks former (round ∷ rounds) ≡ Some new → Accepted tracks former round rounds new
accepted_of tracks former round rounds new is = by (followed_of tracks former round.0 round.1) refl
  where
    by : (r : Result Followed LiveFault) → followed_of tracks former round.0 round.1 ≡ r → Accepted tracks former round rounds new
    by (Ok next) r = record {
      next = next;
      accepted = r;
      later = (let h : accepted_after tracks former (round ∷ rounds) ≡ accepted_after tracks (Some next) rounds = rw r refl in sym h ∙ is);
    }
    by (Err fault) r = absurd (let h : accepted_after tracks former (round ∷ rounds) ≡ None = rw r refl in cc)

-- what a round leaves where it holds of what was there before
abbrev pub Goes : List MasterTrack → (Playlists → Type 0) → (Followed → Type 0) → Type 0
Goes tracks R P = (former : Followed) (round : Playlists) (new : Followed) → P former → R round
    → followed_of tracks (Some former) round.0 round.1 ≡ Ok new → P new

over : (tracks : List MasterTrack) (R : Playlists → Type 0) (P : Followed → Type 0) → Goes tracks R P → (former : Followed)
    (rounds : List Playlists) (new : Followed) → All R rounds → P former → accepted_after tracks (Some former) rounds ≡ Some new → P new
over tracks R P goes former [] new whole was is = subst P (let same : former ≡ new = cc in same) was
over tracks R P goes former (round ∷ rounds) new whole was is =
    let a = accepted_of tracks (Some former) round rounds new is in
    let here = goes former round a.next was (All-head R round rounds whole) a.accepted in
    over tracks R P goes a.next rounds new (All-tail R round rounds whole) here a.later

-- and the first one
abbrev pub Begins : List MasterTrack → (Playlists → Type 0) → (Followed → Type 0) → Type 0
Begins tracks R P = (round : Playlists) (new : Followed) → R round → followed_of tracks None round.0 round.1 ≡ Ok new → P new

pub from_first : (tracks : List MasterTrack) (R : Playlists → Type 0) (P : Followed → Type 0) → Begins tracks R P → Goes tracks R P
    → (rounds : List Playlists) (new : Followed) → All R rounds → accepted_after tracks None rounds ≡ Some new → P new
from_first tracks R P begins goes [] new whole is = absurd (cc)
from_first tracks R P begins goes (round ∷ rounds) new whole is =
    let a = accepted_of tracks None round rounds new is in
    over tracks R P goes a.next rounds new (All-tail R round rounds whole)
    (begins round a.next (All-head R round rounds whole) a.accepted) a.later

abbrev pub Any : Playlists → Type 0
Any round = Unit {0}

pub starts_stay : StartsStayOverRounds
starts_stay tracks rounds old new is = over tracks Any (λ (f : Followed). f.mpd.start ≡ old.mpd.start)
    (λ former round new was any accepted.
    staying.starts_stay former new (record { tracks = tracks; now = round.0; medias = round.1; accepted = accepted }) ∙ was)
    old rounds new (λ i d within. tt) refl is

pub times_are : RulesAreSentences → AreContiguousFromTheFirst
times_are sentences tracks rounds new is = from_first tracks Any (λ (f : Followed). All IsContiguous f.tracks)
    (λ round new any accepted. contiguous.times_are sentences tracks None round.0 round.1 new accepted (All-nil IsContiguous))
    (λ former round new was any accepted. contiguous.times_are sentences tracks (Some former) round.0 round.1 new accepted was)
    rounds new (λ i d within. tt) is

pub last_are_listed : LastPlaylistsAreListed
last_are_listed tracks rounds new place track is = from_first tracks Any
    (λ (f : Followed). slice_get f.tracks place ≡ Some track → ListsTrack f place track)
    (λ round new any accepted. listing.lists_track None (sources tracks round.1) new
    (staying.parts_of tracks None round.0 round.1 new accepted) place track)
    (λ former round new was any accepted. listing.lists_track (Some former) (sources tracks round.1) new
    (staying.parts_of tracks (Some former) round.0 round.1 new accepted) place track)
    rounds new (λ i d within. tt) is

-- ---- what each accepted round leaves

-- each number is at least the one before it and one
abbrev pub Rises : (from : ℕ) → List ℕ → Type 0
Rises from [] = Unit {0}
Rises from (n ∷ numbers) = (from ≤ n) × Rises (n + 1) numbers

abbrev pub number_of : LivePeriod → ℕ
number_of period = period.number

-- so many tracks are kept as flags say, of which each is listed, in Periods whose numbers rise
record IsWhole (tracks : List MasterTrack) (f : Followed) : Type 0 where
  count : (all : List Source) → length all ≡ length tracks → length f.tracks ≡ length (kept_by f.kept all)
  numbers : Rises 0 (map number_of f.mpd.periods)
  lists : (place : ℕ) (track : FollowedTrack) → slice_get f.tracks place ≡ Some track → ListsTrack f place track

pub kept_length : (flags : List Bool) (xs ys : List Source) → length xs ≡ length ys → length (kept_by flags xs) ≡ length (kept_by flags ys)
kept_length [] [] [] is = refl
kept_length [] [] (y ∷ ys) is = absurd (omega arith)
kept_length [] (x ∷ xs) [] is = absurd (omega arith)
kept_length [] (x ∷ xs) (y ∷ ys) is = kept_length [] xs ys (omega arith)
kept_length (flag ∷ flags) [] [] is = refl
kept_length (flag ∷ flags) [] (y ∷ ys) is = absurd (omega arith)
kept_length (flag ∷ flags) (x ∷ xs) [] is = absurd (omega arith)
kept_length (true ∷ flags) (x ∷ xs) (y ∷ ys) is = ap suc (kept_length flags xs ys (omega arith))
kept_length (false ∷ flags) (x ∷ xs) (y ∷ ys) is = kept_length flags xs ys (omega arith)

pub sources_length : (tracks : List MasterTrack) (medias : List Media) → length medias ≡ length tracks
    → length (sources tracks medias) ≡ length tracks
sources_length [] medias is = refl
sources_length (track ∷ tracks) [] is = absurd (omega arith)
sources_length (track ∷ tracks) (media ∷ medias) is = ap suc (sources_length tracks medias (omega arith))

timed_length : (formers : List FollowedTrack) (from : ℕ) (kept : List Source) (timed : List (List TimedSegment))
    → timed_all formers from kept ≡ Ok timed → length (followed_tracks kept timed) ≡ length kept
timed_length formers from [] timed are = refl
timed_length formers from (s ∷ kept) timed are =
    let x = steps_of (unless_late (timed_of (slice_get formers from) s.media)) _ timed are in
    let y = steps_of (timed_all formers (from + 1) kept) _ timed x.then in
    let whole : x.value ∷ y.value ≡ timed = (let h = y.then in cc) in
    ap (λ (timed : List (List TimedSegment)). length (followed_tracks (s ∷ kept) timed)) (sym whole)
    ∙ ap suc (timed_length formers (from + 1) kept y.value y.first)

-- sections whose numbers never fall
rises_behind : (s : MediaSegment) (rest : List MediaSegment) → IsNonDecreasingBy (λ (t : MediaSegment). t.section) (s ∷ rest)
    → Rises (s.section + 1) (sections_behind (Some s.section) rest)
rises_behind s [] rising = tt
rises_behind s (next ∷ later) rising =
    let more = rises_behind next later (λ i j d before within. rising (suc i) (suc j) d (omega arith) (omega arith)) in
    let least : s.section ≤ next.section = rising 0 1 s (omega arith) (omega arith) in
    by (eqb s.section next.section) refl least more
  where
    by : (b : Bool) → eqb s.section next.section ≡ b → s.section ≤ next.section
        → Rises (next.section + 1) (sections_behind (Some next.section) later)
        → Rises (s.section + 1) (sections_behind (Some s.section) (next ∷ later))
    by true b least more =
        (let same : next.section ≡ s.section = sym (eqb-true s.section next.section b) in
        let e : sections_behind (Some s.section) (next ∷ later) ≡ sections_behind (Some s.section) later = rw b refl in
        subst (Rises (s.section + 1)) (sym e) (subst (λ (n : ℕ). Rises (n + 1) (sections_behind (Some n) later)) same more))
    by false b least more =
        (let other = eqb-false s.section next.section b in
        let e : sections_behind (Some s.section) (next ∷ later) ≡ next.section ∷ sections_behind (Some next.section) later = rw b refl in
        subst (Rises (s.section + 1)) (sym e) (omega (arith, other), more))

pub sections_rise : (media : Media) → IsBounded media → Rises 0 (sections_of media)
sections_rise media bounded = by media.segments bounded.sections
  where
    by : (segments : List MediaSegment) → IsNonDecreasingBy (λ (t : MediaSegment). t.section) segments
        → Rises 0 (sections_behind None segments)
    by [] rising = tt
    by (s ∷ rest) rising = (omega arith, rises_behind s rest rising)

whole_of : (tracks : List MasterTrack) (former : Option Followed) (round : Playlists) (new : Followed) → IsRound tracks round
    → followed_of tracks former round.0 round.1 ≡ Ok new → IsWhole tracks new
whole_of tracks former round new given accepted =
    let p = staying.parts_of tracks former round.0 round.1 new accepted in
    let here = sources tracks round.1 in
    let tracks_length : length new.tracks ≡ length (kept_by new.kept here) =
    ap (λ (ts : List FollowedTrack). length ts) p.tracks ∙ timed_length (formers_of former) 0 p.kept p.timed p.times
    ∙ ap (λ (ss : List Source). length ss) p.are ∙ ap (λ (flags : List Bool). length (kept_by flags here)) (sym p.flags) in
    let bounded = subst (All (λ (s : Source). IsBounded s.media)) (sym p.are)
    (bounded_kept (flags_of former here) here (bounded_sources tracks round.1 given.bounded)) in
    let rise : (kept : List Source) → All (λ (s : Source). IsBounded s.media) kept → Rises 0 (sections_in kept) =
    λ kept. elim kept as (λ kept. All (λ (s : Source). IsBounded s.media) kept → Rises 0 (sections_in kept)) [
      | [] ↦ λ are. tt
      | s ∷ kept ↦ λ are. sections_rise s.media (All-head (λ (s : Source). IsBounded s.media) s kept are)
    ] in
    record {
      count = λ all as_many. tracks_length ∙ kept_length new.kept here all (sources_length tracks round.1 given.one_each ∙ sym as_many);
      numbers = subst (Rises 0) (first_sections p.kept p.sections p.judged.common
          ∙ sym (listing.numbers_are _ (map groups_of p.timed) _ 0 p.sections p.listed p.periods)
          ∙ ap (λ (mpd : LiveMpd). map number_of mpd.periods) (sym p.mpd)) (rise p.kept bounded);
      lists = listing.lists_track former here new p;
    }

-- ---- starts of Periods

-- what is known of a Period is its start
record IsKnown (periods : List LivePeriod) (number at : ℕ) : Type 0 where
  extent : Extent
  is : known_in number periods ≡ Some extent
  start : extent.start ≡ at

record IsKnownFrom (from : ℕ) (periods : List LivePeriod) (period : LivePeriod) : Type 0 where
  least : from ≤ period.number
  known : IsKnown periods period.number period.start

known_behind : (from : ℕ) (q : LivePeriod) (periods : List LivePeriod) (p : LivePeriod) → from ≤ q.number
    → IsKnownFrom (q.number + 1) periods p → IsKnownFrom from (q ∷ periods) p
known_behind from q periods p least k = by (eqb q.number p.number) refl k.least
  where
    by : (b : Bool) → eqb q.number p.number ≡ b → q.number + 1 ≤ p.number → IsKnownFrom from (q ∷ periods) p
    by true b past = absurd (let same = eqb-true q.number p.number b in omega (arith, same))
    by false b past = record {
      least = omega arith;
      known = record {
        extent = k.known.extent;
        is = rw b k.known.is;
        start = k.known.start;
      };
    }

known_self : (from : ℕ) (periods : List LivePeriod) → Rises from (map number_of periods) → All (IsKnownFrom from periods) periods
known_self from [] rises = All-nil (IsKnownFrom from [])
known_self from (q ∷ periods) rises =
    All-cons (IsKnownFrom from (q ∷ periods)) q periods
    (record {
      least = rises.0;
      known = record {
        extent = record { start = q.start; longest = q.longest };
        is =
            rw (eq-eqb q.number q.number refl) refl;
        start = refl;
      };
    })
    (λ i d within. known_behind from q periods _ rises.0 (known_self (q.number + 1) periods rises.1 i d within))

placed_all : (Q : Placed → Type 0) (place : ℕ) (periods : List LivePeriod)
    → All (λ (period : LivePeriod). (run : LiveRun) (segment : LiveSegment) → Q (placed_as period run segment)) periods
    → All Q (placed_of place periods)
placed_all Q place [] each = All-nil Q
placed_all Q place (period ∷ periods) each =
    All-append Q (placed_in period (slice_get period.runs place)) (placed_of place periods) (by (slice_get period.runs place))
    (placed_all Q place periods (All-tail (λ (period : LivePeriod). (run : LiveRun) (segment : LiveSegment)
    → Q (placed_as period run segment)) period periods each))
  where
    by : (run : Option LiveRun) → All Q (placed_in period run)
    by None = All-nil Q
    by (Some run) = All-map Q (placed_as period run) run.segments (λ i d within. All-head (λ (period : LivePeriod). (run : LiveRun)
        (segment : LiveSegment) → Q (placed_as period run segment)) period periods each run _)

pub at_index : {X : Type 0} (P : X → Type 0) (xs : List X) (i : ℕ) (x : X) → All P xs → slice_get xs i ≡ Some x → P x
at_index P xs i x all is = subst P (get_or_from_slice_get xs i x x is) (all i x (slice_get_within xs i x is))

-- ---- a segment that is listed again

record IsListedAt (segments : List MediaSegment) (times : List ℕ) (i : ℕ) (l : Listed) : Type 0 where
  segment : MediaSegment
  time : ℕ
  segment_at : slice_get segments i ≡ Some segment
  time_at : slice_get times i ≡ Some time
  is : l ≡ listed_as segment time

listed_at : (segments : List MediaSegment) (times : List ℕ) (i : ℕ) (l : Listed) → slice_get (listed_of segments times) i ≡ Some l
    → IsListedAt segments times i l
listed_at [] times i l is = absurd (cc)
listed_at (s ∷ segments) [] i l is = absurd (cc)
listed_at (s ∷ segments) (time ∷ times) zero l is =
    record { segment = s; time = time; segment_at = refl; time_at = refl; is = (let same : listed_as s time ≡ l = cc in sym same) }
listed_at (s ∷ segments) (time ∷ times) (suc i) l is =
    (let h = listed_at segments times i l is in
    record { segment = h.segment; time = h.time; segment_at = h.segment_at; time_at = h.time_at; is = h.is })

is_listed : (segments : List MediaSegment) (times : List ℕ) (i : ℕ) (s : MediaSegment) (time : ℕ) → slice_get segments i ≡ Some s
    → slice_get times i ≡ Some time → slice_get (listed_of segments times) i ≡ Some (listed_as s time)
is_listed [] times i s time one two = absurd (cc)
is_listed (x ∷ segments) [] i s time one two = absurd (cc)
is_listed (x ∷ segments) (t ∷ times) zero s time one two =
    (let a : x ≡ s = cc in let b : t ≡ time = cc in ap (λ (s : MediaSegment). Some (listed_as s t)) a
    ∙ ap (λ (t : ℕ). Some (listed_as s t)) b)
is_listed (x ∷ segments) (t ∷ times) (suc i) s time one two = is_listed segments times i s time one two

record IsFrom (placed : List Placed) (i : ℕ) (l : Listed) : Type 0 where
  value : Placed
  at : slice_get placed i ≡ Some value
  is : value.listed ≡ l

from_of : (placed : List Placed) (i : ℕ) (l : Listed) → slice_get (map (λ (p : Placed). p.listed) placed) i ≡ Some l → IsFrom placed i l
from_of [] i l is = absurd (cc)
from_of (p ∷ placed) zero l is = record { value = p; at = refl; is = (let same : p.listed ≡ l = cc in same) }
from_of (p ∷ placed) (suc i) l is = (let h = from_of placed i l is in record { value = h.value; at = h.at; is = h.is })

-- segments that are the same are listed alike
record AreTrue (p q r s : Bool) : Type 0 where
  one : p ≡ true
  two : q ≡ true
  three : r ≡ true
  four : s ≡ true

are_true : (p q r s : Bool) → (p && q && r && s) ≡ true → AreTrue p q r s
are_true true true true true is = record { one = refl; two = refl; three = refl; four = refl }
are_true true true true false is = absurd (cc)
are_true true true false s is = absurd (cc)
are_true true false r s is = absurd (cc)
are_true false q r s is = absurd (cc)

pub same_listed : (a b : MediaSegment) (time : ℕ) → same_segment a b ≡ true → a.section ≡ b.section → listed_as a time ≡ listed_as b time
same_listed a b time same section =
    let t = are_true (bytes_eq a.address b.address) (option_eq same_range a.range b.range) (eqb a.duration b.duration)
    (option_eq same_part a.map b.map) same in
    let address = (bytes_eq-Decides a.address b.address).0 t.one in
    let range = same_options same_range same_ranges a.range b.range t.two in
    let duration = eqb-true a.duration b.duration t.three in
    let of = same_options same_part same_parts a.map b.map t.four in
    cc

pub judged_at : (judge : ℕ → Option FollowedTrack → Media → Result (Unit {0}) LiveFault) (formers : List FollowedTrack) (from place : ℕ)
    (kept : List Source) (s : Source) → judged_all judge formers from kept ≡ Ok tt → slice_get kept place ≡ Some s
    → judge (from + place) (slice_get formers (from + place)) s.media ≡ Ok tt
judged_at judge formers from place [] s judged is = absurd (cc)
judged_at judge formers from zero (k ∷ kept) s judged is =
    let j = steps_of (judge from (slice_get formers from) k.media) _ tt judged in
    let same : k ≡ s = cc in
    let e : from ≡ from + 0 = omega arith in
    subst (λ (n : ℕ). judge n (slice_get formers n) s.media ≡ Ok tt) e
    (subst (λ (s : Source). judge from (slice_get formers from) s.media ≡ Ok tt) same j.first)
judged_at judge formers from (suc place) (k ∷ kept) s judged is =
    let j = steps_of (judge from (slice_get formers from) k.media) _ tt judged in
    let e : from + 1 + place ≡ from + suc place = omega arith in
    subst (λ (n : ℕ). judge n (slice_get formers n) s.media ≡ Ok tt) e (judged_at judge formers (from + 1) place kept s j.then is)

-- the track at a place, behind what it was, with what was listed and is again
record Stays (tracks : List MasterTrack) (place number : ℕ) (placed : Placed) (f : Followed) : Type 0 where
  whole : IsWhole tracks f
  track : FollowedTrack
  kept : slice_get f.tracks place ≡ Some track
  before : number < end_of track.media
  is : track.media.sequence ≤ number → slice_get (placed_of place f.mpd.periods) (number - track.media.sequence) ≡ Some placed

module _ (sentences : RulesAreSentences) (tracks : List MasterTrack) (place number : ℕ) (placed : Placed) where
  -- a playlist behind another one, both of the track at the place
  record Next (former new : Followed) (a b : FollowedTrack) : Type 0 where
    kept : slice_get new.tracks place ≡ Some b
    lawful : IsLawful a.media (contiguous.ended_now b.media)

  next_track : (former : Followed) (round : Playlists) (new : Followed) (s : Stays tracks place number placed former)
      → IsRound tracks round → followed_of tracks (Some former) round.0 round.1 ≡ Ok new
      → (b : FollowedTrack) × Next former new s.track b
  next_track former round new s given accepted =
      let p = staying.parts_of tracks (Some former) round.0 round.1 new accepted in
      let here = sources tracks round.1 in
      let as_many : length here ≡ length tracks = sources_length tracks round.1 given.one_each in
      let whole = whole_of tracks (Some former) round new given accepted in
      let now = whole.count here as_many in
      let was = s.whole.count here as_many in
      let flags : length (kept_by new.kept here) ≡ length (kept_by former.kept here) =
      ap (λ (flags : List Bool). length (kept_by flags here)) p.flags in
      let within = slice_get_within former.tracks place s.track s.kept in
      let b = contiguous.some_at new.tracks place (omega arith) in
      let t = listing.track_of (Some former) here new p place b.0 b.1 in
      let judged = judged_at judged_reload former.tracks 0 place p.kept t.source p.judged.reloads t.kept_at in
      let e : 0 + place ≡ place = omega arith in
      let old : slice_get former.tracks (0 + place) ≡ Some s.track = ap (slice_get former.tracks) e ∙ s.kept in
      let one : judged_reload (0 + place) (Some s.track) b.0.media ≡ Ok tt =
      ap (λ (t : FollowedTrack). judged_reload (0 + place) (Some s.track) t.media) t.is
      ∙ ap (λ (o : Option FollowedTrack). judged_reload (0 + place) o t.source.media) (sym old) ∙ judged in (
        b.0,
        record {
          kept = b.1;
          lawful = (sentences s.track.media (contiguous.ended_now b.0.media)).0
              (contiguous.lawful_ended (0 + place) s.track.media b.0.media one);
        },
      )

  -- what it lists again is listed as it was
  same_again : (former : Followed) (round : Playlists) (new : Followed) (s : Stays tracks place number placed former) (b : FollowedTrack)
      → Next former new s.track b → IsRound tracks round → followed_of tracks (Some former) round.0 round.1 ≡ Ok new
      → b.media.sequence ≤ number
      → slice_get (map (λ (p : Placed). p.listed) (placed_of place new.mpd.periods)) (number - b.media.sequence) ≡ Some placed.listed
  same_again former round new s b next given accepted from =
      let a = s.track in
      let l = next.lawful in
      let rising = l.sequence in
      let ends = l.ends in
      let before = s.before in
      let i = number - a.media.sequence in
      let j = number - b.media.sequence in
      let whole = whole_of tracks (Some former) round new given accepted in
      let lists_a = s.whole.lists place a s.kept in
      let lists_b = whole.lists place b next.kept in
      let old : slice_get (listed_of a.media.segments a.times) i ≡ Some placed.listed =
      ap (λ (ls : List Listed). slice_get ls i) (sym lists_a.segments)
      ∙ slice_get-map (λ (p : Placed). p.listed) (placed_of place former.mpd.periods) i
      ∙ ap (option_map (λ (p : Placed). p.listed)) (s.is (omega (arith, rising))) in
      let o = listed_at a.media.segments a.times i placed.listed old in
      let n = contiguous.some_at b.media.segments j (omega (arith, rising, ends, before)) in
      let past : ltb number a.media.sequence ≡ false = le-ltb number a.media.sequence (omega (arith, rising)) in
      let past_b : ltb number b.media.sequence ≡ false = le-ltb number b.media.sequence from in
      let time : former_time (Some a) number ≡ Some o.time = rw past o.time_at in
      let time_b : former_time (Some b) number ≡ Some o.time = staying.numbers_stay former new a b number o.time
      (record { tracks = tracks; now = round.0; medias = round.1; accepted = accepted })
      (record { place = place; in_old = s.kept; in_new = next.kept })
      (record { from = from; before = omega (arith, ends, before) }) time in
      let there : slice_get b.times j ≡ Some o.time = (let h = time_b in rw past_b at h) in
      let both : IsInBoth a.media (contiguous.ended_now b.media) number o.segment n.0 = record {
        in_old = contiguous.listed_at a.media number i o.segment (omega (arith, rising)) refl o.segment_at;
        in_new = contiguous.listed_at (contiguous.ended_now b.media) number j n.0 from refl n.1;
      } in
      let same = same_listed o.segment n.0 o.time (l.segments number o.segment n.0 both)
      (eqb-true o.segment.section n.0.section (l.sections number o.segment n.0 both)) in
      ap (λ (ls : List Listed). slice_get ls j) lists_b.segments
      ∙ is_listed b.media.segments b.times j n.0 o.time n.1 there ∙ ap (λ (l : Listed). Some l) (sym same ∙ sym o.is)

  -- in a Period that begins when it did
  starts_again : (former new : Followed) (s : Stays tracks place number placed former) (i j : ℕ) (q : Placed)
      → Follows former new → slice_get (placed_of place former.mpd.periods) i ≡ Some placed
      → slice_get (placed_of place new.mpd.periods) j ≡ Some q → q.listed ≡ placed.listed → q ≡ placed
  starts_again former new s i j q follows was now listed =
      let known = known_self 0 former.mpd.periods s.whole.numbers in
      let k : IsKnown former.mpd.periods placed.listed.section placed.start =
      at_index (λ (p : Placed). IsKnown former.mpd.periods p.listed.section p.start) (placed_of place former.mpd.periods) i placed
      (placed_all (λ (p : Placed). IsKnown former.mpd.periods p.listed.section p.start) place former.mpd.periods
      (λ i d within run segment. (known i d within).known)) was in
      let starts : (e : Extent) → known_in q.listed.section former.mpd.periods ≡ Some e → q.start ≡ e.start =
      at_index (λ (p : Placed). (e : Extent) → known_in p.listed.section former.mpd.periods ≡ Some e → p.start ≡ e.start)
      (placed_of place new.mpd.periods) j q
      (placed_all (λ (p : Placed). (e : Extent) → known_in p.listed.section former.mpd.periods ≡ Some e → p.start ≡ e.start)
      place new.mpd.periods (λ i d within run segment. staying.sections_stay former new follows i d within)) now in
      let start : q.start ≡ placed.start =
      starts k.extent (ap (λ (l : Listed). known_in l.section former.mpd.periods) listed ∙ k.is) ∙ k.start in
      ap₂ (λ (at : ℕ) (l : Listed). record { start = at; listed = l }) start listed

  goes_on : Goes tracks (IsRound tracks) (Stays tracks place number placed)
  goes_on former round new s given accepted =
      let t = next_track former round new s given accepted in
      let b = t.0 in
      let l = t.1.lawful in
      let rising = l.sequence in
      let ends = l.ends in
      let before = s.before in
      record {
        whole = whole_of tracks (Some former) round new given accepted;
        track = b;
        kept = t.1.kept;
        before = omega (arith, ends, before);
        is = λ from.
            (let q = from_of (placed_of place new.mpd.periods) (number - b.media.sequence) placed.listed
            (same_again former round new s b t.1 given accepted from) in
            q.at ∙ ap (λ (p : Placed). Some p) (starts_again former new s (number - s.track.media.sequence)
            (number - b.media.sequence) q.value
            (record { tracks = tracks; now = round.0; medias = round.1; accepted = accepted })
            (s.is (omega (arith, rising))) q.at q.is));
      }

-- a number that the MPD has is one of the playlist
within_track : (f : Followed) (place number : ℕ) (placed : Placed) (p : IsPlaced f place number placed) → ListsTrack f place p.track
    → number < end_of p.track.media
within_track f place number placed p lists =
    let i = number - p.track.media.sequence in
    let l : slice_get (listed_of p.track.media.segments p.track.times) i ≡ Some placed.listed =
    ap (λ (ls : List Listed). slice_get ls i) (sym lists.segments)
    ∙ slice_get-map (λ (p : Placed). p.listed) (placed_of place f.mpd.periods) i ∙ ap (option_map (λ (p : Placed). p.listed)) p.is in
    let o = listed_at p.track.media.segments p.track.times i placed.listed l in
    let within = slice_get_within p.track.media.segments i o.segment o.segment_at in
    let from = p.from in
    omega (arith, within, from)

pub segments_stay : RulesAreSentences → SegmentsStay
segments_stay sentences tracks before after old new place number placed first then p has =
    let whole = from_first tracks (IsRound tracks) (IsWhole tracks)
    (λ round new given accepted. whole_of tracks None round new given accepted)
    (λ former round new was given accepted. whole_of tracks (Some former) round new given accepted) before old first.whole first.left in
    let s : Stays tracks place number placed new = over tracks (IsRound tracks) (Stays tracks place number placed)
    (goes_on sentences tracks place number placed) old after new then.whole
    (record {
      whole = whole;
      track = p.track;
      kept = p.kept;
      before = within_track old place number placed p (whole.lists place p.track p.kept);
      is = λ from. p.is;
    }) then.left in
    let same : has.track ≡ s.track = (let one = has.kept in let two = s.kept in cc) in
    let from : s.track.media.sequence ≤ number = subst (λ (t : FollowedTrack). t.media.sequence ≤ number) same has.lists.from in
    record { track = s.track; kept = s.kept; from = from; is = s.is from }
