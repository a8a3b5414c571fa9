-- The kept tracks of an accepted snapshot, each with its files' times.
use Rattle.hls_follow.specs.TimedPeriods as periods
use Rattle.hls_presentation.specs.Sections as cuts
use Rattle.std.proofs.Common.{◌≡◌, ℕ, zero, suc, ◌+◌, ◌*◌, ◌/◌, Bool, true, false, cond, eqb, List, [], ◌∷◌, ◌++◌, length, map, get_or, take, drop}
use Rattle.std.proofs.Common.{slice_get, All, Option, Some, None, Ok, refl, sym, ◌∙◌, ap, subst, arith, length-append}
use Rattle.std.proofs.{lemmas.List.Elements.{All-head, All-map, All-tail}, lemmas.Nat.div-mul-add, lemmas.Option.slice_get_within}
use Rattle.bridge_io.specs.Outside.{Files}
use Rattle.bridge_io.proofs.AndThen.{steps_of}
use Rattle.url_parts.specs.declared.address.Part.{Part}
use Rattle.hls_media.specs.{declared.media.MediaSegment.MediaSegment}
use Rattle.hls_presentation.specs.{Presenting.flattened, Tracks.{Source, map_changes}}
use Rattle.dash_writer.specs.{declared.live.LiveMpd.LiveMpd, declared.live.LivePeriod.LivePeriod, declared.timed.TickRun.TickRun}
use Rattle.fragment_times.specs.declared.times.SegmentTimes.{SegmentTimes}
use Rattle.hls_follow.specs.{declared.state.Followed.Followed, declared.state.FollowedTrack.FollowedTrack}
use Rattle.hls_follow.specs.Times.{TimedSegment}
use Rattle.hls_follow.specs.{Groups.{groups_of, put_before}, Kept.{formers_of, periods_of}, Maps.{judged_maps, judged_maps_of_all}}
use Rattle.hls_follow.specs.{OwnTimes.{Snapshot, map_in, map_of, period_in, section_times, times_from}}
use Rattle.hls_follow.specs.{Periods.{end_of, extent_of, known_in, last_end}, Rounds.followed_track}
use Rattle.hls_follow.specs.Rules.{judged_segments_of, sections_behind, sections_of}
use Rattle.hls_follow.specs.{Stretches.{Stretch, known_times, stretches_from, stretches_of_all}, TimedHistories.Round}
use Rattle.hls_follow.specs.TimedListed.{AreOwn, ListsOwnTrack, OwnPlaced, own_listed_of, own_placed_of}
use Rattle.hls_follow.specs.TimedRounds.{snapshot_with, times_of, times_over, tracks_from}
use Rattle.hls_follow.proofs.{CellFacts.facts_of, Cells.{Cell, IsCell, IsColumn, column, starts_of, times_many}}
use Rattle.hls_follow.proofs.{OwnListing.{AreGroups, IsGroup, cells_listed, cells_own, own_length}, OwnParts.OwnParts}
use Rattle.hls_follow.proofs.Sections.{AreCut, cut, no_change, sections_at, segments_in}

-- ---- groups of segments

-- segments of one section have one map
pub record IsOf (section : ℕ) (group : List MediaSegment) : Type 0 where
  pub map : Option Part
  pub sections : All (λ (s : MediaSegment). s.section ≡ section) group
  pub maps : All (λ (s : MediaSegment). s.map ≡ map) group

-- groups of these sections
abbrev pub AreCutAt : List (List MediaSegment) → List ℕ → Type 0
AreCutAt [] [] = Unit {0}
AreCutAt [] (n ∷ sections) = ⊥
AreCutAt (group ∷ groups) [] = ⊥
AreCutAt (group ∷ groups) (n ∷ sections) = IsOf n group × AreCutAt groups sections

abbrev timed : List MediaSegment → List TimedSegment
timed segments = map (λ (s : MediaSegment). record { segment = s; time = 0 }) segments

untimed : (segments : List MediaSegment) → segments_in (timed segments) ≡ segments
untimed [] = refl
untimed (s ∷ segments) = ap (λ (ss : List MediaSegment). s ∷ ss) (untimed segments)

put_alike : (t : TimedSegment) (groups : List (List TimedSegment))
    → map segments_in (put_before t groups) ≡ cuts.put_before t.segment (map segments_in groups)
put_alike t [] = refl
put_alike t ([] ∷ groups) = refl
put_alike t ((next ∷ rest) ∷ groups) = by (eqb t.segment.section next.segment.section)
  where
    by : (b : Bool) → map segments_in (cond b ((t ∷ next ∷ rest) ∷ groups) ((t ∷ []) ∷ (next ∷ rest) ∷ groups))
        ≡ cond b ((t.segment ∷ next.segment ∷ segments_in rest) ∷ map segments_in groups)
        ((t.segment ∷ []) ∷ (next.segment ∷ segments_in rest) ∷ map segments_in groups)
    by true = refl
    by false = refl

groups_alike : (ts : List TimedSegment) → map segments_in (groups_of ts) ≡ cuts.groups_of (segments_in ts)
groups_alike [] = refl
groups_alike (t ∷ ts) = put_alike t (groups_of ts) ∙ ap (cuts.put_before t.segment) (groups_alike ts)

cut_alike : (groups : List (List TimedSegment)) (sections : List ℕ) → AreCut groups sections → AreCutAt (map segments_in groups) sections
cut_alike [] [] are = tt
cut_alike [] (n ∷ sections) are = absurd are
cut_alike (group ∷ groups) [] are = absurd are
cut_alike (group ∷ groups) (n ∷ sections) are = (
  record {
    map = are.0.map;
    sections = All-map (λ (s : MediaSegment). s.section ≡ n) (λ (t : TimedSegment). t.segment) group are.0.sections;
    maps = All-map (λ (s : MediaSegment). s.map ≡ are.0.map) (λ (t : TimedSegment). t.segment) group are.0.maps;
  },
  cut_alike groups sections are.1,
)

cut_at : (segments : List MediaSegment) → map_changes segments ≡ false → AreCutAt (cuts.groups_of segments) (sections_behind None segments)
cut_at segments none =
    let e = untimed segments in
    subst (λ (ss : List MediaSegment). AreCutAt (cuts.groups_of ss) (sections_behind None ss)) e
    (subst (λ (gs : List (List MediaSegment)). AreCutAt gs (sections_behind None (segments_in (timed segments)))) (groups_alike (timed segments))
    (cut_alike (groups_of (timed segments)) (sections_behind None (segments_in (timed segments)))
    (cut (timed segments) (ap map_changes e ∙ none))))

put_flat : (s : MediaSegment) (groups : List (List MediaSegment)) → flattened (cuts.put_before s groups) ≡ s ∷ flattened groups
put_flat s [] = refl
put_flat s ([] ∷ groups) = refl
put_flat s ((next ∷ rest) ∷ groups) = by (eqb s.section next.section)
  where
    by : (b : Bool) → flattened (cond b ((s ∷ next ∷ rest) ∷ groups) ((s ∷ []) ∷ (next ∷ rest) ∷ groups))
        ≡ s ∷ flattened ((next ∷ rest) ∷ groups)
    by true = refl
    by false = refl

all_segments : (segments : List MediaSegment) → flattened (cuts.groups_of segments) ≡ segments
all_segments [] = refl
all_segments (s ∷ segments) = put_flat s (cuts.groups_of segments) ∙ ap (λ (ss : List MediaSegment). s ∷ ss) (all_segments segments)

cut_many : (groups : List (List MediaSegment)) (sections : List ℕ) → AreCutAt groups sections → length groups ≡ length sections
cut_many [] [] are = refl
cut_many [] (n ∷ sections) are = absurd are
cut_many (group ∷ groups) [] are = absurd are
cut_many (group ∷ groups) (n ∷ sections) are = ap suc (cut_many groups sections are.1)

stretches_many : (known : List ℕ) (groups : List (List MediaSegment)) → length (stretches_from known groups) ≡ length groups
stretches_many known [] = refl
stretches_many known (group ∷ groups) = ap suc (stretches_many _ groups)

-- ---- a kept track

pub record HasSource (count from place : ℕ) (kept : List Source) (times : List SegmentTimes) (track : FollowedTrack) : Type 0 where
  pub source : Source
  pub kept_at : slice_get kept place ≡ Some source
  pub is : track ≡ followed_track source (times_of count (from + place) times)

source_at : (count from place : ℕ) (kept : List Source) (times : List SegmentTimes) (track : FollowedTrack)
    → slice_get (tracks_from count from kept times) place ≡ Some track → HasSource count from place kept times track
source_at count from place [] times track at = absurd (cc)
source_at count from zero (s ∷ kept) times track at =
    let e : from + 0 ≡ from = omega arith in
    record { source = s; kept_at = refl; is = rw e (let same : followed_track s (times_of count from times) ≡ track = cc in sym same) }
source_at count from (suc place) (s ∷ kept) times track at =
    let h = source_at count (from + 1) place kept times track at in
    let e : from + suc place ≡ from + 1 + place = omega arith in
    record { source = h.source; kept_at = h.kept_at; is = rw e h.is }

pub tracks_many : (count from : ℕ) (kept : List Source) (times : List SegmentTimes) → length (tracks_from count from kept times) ≡ length kept
tracks_many count from [] times = refl
tracks_many count from (s ∷ kept) times = ap suc (tracks_many count (from + 1) kept times)

stretches_at : (formers : List FollowedTrack) (from place : ℕ) (kept : List Source) (s : Source) → slice_get kept place ≡ Some s
    → slice_get (stretches_of_all formers from kept) place
    ≡ Some (stretches_from (known_times (slice_get formers (from + place)) s.media) (cuts.groups_in s))
stretches_at formers from place [] s at = absurd (cc)
stretches_at formers from zero (k ∷ kept) s at =
    let e : from + 0 ≡ from = omega arith in
    let same : k ≡ s = cc in
    rw (e, ← same) refl
stretches_at formers from (suc place) (k ∷ kept) s at =
    let e : from + suc place ≡ from + 1 + place = omega arith in
    rw e (stretches_at formers (from + 1) place kept s at)

pub all_many : (formers : List FollowedTrack) (from : ℕ) (kept : List Source) → length (stretches_of_all formers from kept) ≡ length kept
all_many formers from [] = refl
all_many formers from (s ∷ kept) = ap suc (all_many formers (from + 1) kept)

judged_one : (known : List LivePeriod) (from place : ℕ) (kept : List Source) (s : Source) → judged_maps_of_all known from kept ≡ Ok tt
    → slice_get kept place ≡ Some s → judged_segments_of s.media ≡ Ok tt
judged_one known from place [] s judged at = absurd (cc)
judged_one known from zero (k ∷ kept) s judged at =
    let a = steps_of (judged_segments_of k.media) _ tt judged in
    let same : k ≡ s = cc in
    subst (λ (s : Source). judged_segments_of s.media ≡ Ok tt) same a.first
judged_one known from (suc place) (k ∷ kept) s judged at =
    let a = steps_of (judged_segments_of k.media) _ tt judged in
    let b = steps_of (judged_maps known from None k.media.segments) _ tt a.then in
    judged_one known (from + 1) place kept s b.then at

times_total : (s : Snapshot) (files : Files) (place : ℕ) (sections : List ℕ) (times : List SegmentTimes)
    → times_from s files place sections ≡ Ok times → length times ≡ length sections * length s.tracks
times_total s files place [] times is = ap length (let none : [] ≡ times = cc in sym none) ∙ (omega arith)
times_total s files place (number ∷ sections) times is =
    let a = steps_of (section_times s files (period_in number s.periods) place) _ times is in
    let b = steps_of (times_from s files (place + 1) sections) _ times a.then in
    let whole : a.value ++ b.value ≡ times = (let h = b.then in cc) in
    let one = times_many s.folder files (period_in number s.periods) place 0 s.tracks a.value a.first in
    let others = times_total s files (place + 1) sections b.value b.first in
    ap length (sym whole) ∙ length-append a.value b.value ∙ omega (arith, one, others)

-- the map of a section's first segment is that of all
group_of : (number : ℕ) (group : List MediaSegment) (initialization : Part) → IsOf number group → map_of group ≡ Ok initialization
    → IsGroup number initialization group
group_of number [] initialization of is = absurd (cc)
group_of number (s ∷ group) initialization of is =
    let first : s.map ≡ of.map = All-head (λ (t : MediaSegment). t.map ≡ of.map) s group of.maps in
    let same : s.map ≡ Some initialization = by s.map is in
    record { sections = of.sections; maps = λ i d within. of.maps i d within ∙ sym first ∙ same }
  where
    by : (o : Option Part) → map_in o ≡ Ok initialization → o ≡ Some initialization
    by (Some p) is = (let same : p ≡ initialization = cc in ap Some same)
    by None is = absurd (cc)

-- the cells of a track with groups of these sections
grouped : (s : Snapshot) (files : Files) (p : ℕ) (known : List ℕ) (groups : List (List MediaSegment)) (sections : List ℕ) (cells : List Cell)
    → All (IsCell s files p) cells → map (λ (c : Cell). c.stretch) cells ≡ stretches_from known groups
    → map (λ (c : Cell). c.period.number) cells ≡ sections → AreCutAt groups sections → AreGroups s files p cells groups
grouped s files p known [] sections [] each are numbers cuts_are = tt
grouped s files p known [] sections (c ∷ cells) each are numbers cuts_are = absurd (cc)
grouped s files p known (group ∷ groups) sections [] each are numbers cuts_are = absurd (cc)
grouped s files p known (group ∷ groups) [] (c ∷ cells) each are numbers cuts_are = absurd (cc)
grouped s files p known (group ∷ groups) (n ∷ sections) (c ∷ cells) each are numbers cuts_are =
    let first : c.stretch ≡ record { segments = group; known = take (length group) known } = cc in
    let later : map (λ (c : Cell). c.stretch) cells ≡ stretches_from (drop (length group) known) groups = cc in
    let number : c.period.number ≡ n = cc in
    let rest : map (λ (c : Cell). c.period.number) cells ≡ sections = cc in
    let f = facts_of s files p c (All-head (IsCell s files p) c cells each) in
    let same : c.stretch.segments ≡ group = ap (λ (st : Stretch). st.segments) first in
    let is : map_of group ≡ Ok c.live.initialization = ap map_of (sym same) ∙ f.map in (
      same,
      (
        group_of c.period.number group c.live.initialization (subst (λ n. IsOf n group) (sym number) cuts_are.0) is,
        grouped s files p (drop (length group) known) groups sections cells (All-tail (IsCell s files p) c cells each) later rest cuts_are.1,
      ),
    )

-- the numbers of Periods are those of their sections
numbers_are : (s : Snapshot) (former place : ℕ) (sections : List ℕ) (runs : List TickRun) (listed : List LivePeriod)
    → periods.periods_from s former place sections runs ≡ Ok listed → map (λ (p : LivePeriod). p.number) listed ≡ sections
numbers_are s former place [] runs listed is = ap (map (λ (p : LivePeriod). p.number)) (let none : [] ≡ listed = cc in sym none)
numbers_are s former place (number ∷ sections) runs listed is =
    let x = steps_of (periods.period_of s former number place (take (length s.tracks) runs)) _ listed is in
    let y = steps_of (periods.periods_from s (end_of x.value) (place + 1) sections (drop (length s.tracks) runs)) _ listed x.then in
    let whole : x.value ∷ y.value ≡ listed = (let h = y.then in cc) in
    let a = steps_of (extent_of (known_in number s.periods) former (periods.longest_of (take (length s.tracks) runs))) _ x.value x.first in
    let b = steps_of (periods.runs_at s place (take (length s.tracks) runs)) _ x.value a.then in
    let one : x.value.number ≡ number = ap (λ (p : LivePeriod). p.number)
    (let same : record { number = number; start = a.value.start; longest = a.value.longest; runs = b.value } ≡ x.value =
    (let h = b.then in cc) in sym same) in
    let others = numbers_are s (end_of x.value) (place + 1) sections (drop (length s.tracks) runs) y.value y.first in
    ap (map (λ (p : LivePeriod). p.number)) (sym whole) ∙ rw (one, others) refl

module _ (folder : List ℕ) (former : Option Followed) (all : List Source) (round : Round) (new : Followed)
    (parts : OwnParts folder former all round new) where
  abbrev pub snapshot : Snapshot
  snapshot = snapshot_with former parts.kept parts.sections folder

  pub listed_are : new.mpd.periods ≡ parts.listed
  listed_are = ap (λ (mpd : LiveMpd). mpd.periods) parts.mpd

  pub listed_numbers : map (λ (p : LivePeriod). p.number) new.mpd.periods ≡ parts.sections
  listed_numbers = ap (map (λ (p : LivePeriod). p.number)) listed_are
      ∙ numbers_are snapshot (last_end (periods_of former)) 0 parts.sections parts.runs parts.listed parts.periods

  module _ (place : ℕ) (track : FollowedTrack) (at : slice_get new.tracks place ≡ Some track) where
    pub source_of : HasSource (length parts.kept) 0 place parts.kept parts.times track
    source_of = source_at (length parts.kept) 0 place parts.kept parts.times track
        (ap (λ (tracks : List FollowedTrack). slice_get tracks place) (sym parts.tracks) ∙ at)

    -- the times that the last accepted round had
    abbrev known : List ℕ
    known = known_times (slice_get (formers_of former) (0 + place)) source_of.source.media

    abbrev groups : List (List MediaSegment)
    groups = cuts.groups_in source_of.source

    cut_of : AreCutAt groups parts.sections
    cut_of =
        let h = source_of in
        let m = h.source.media in
        let unchanged = no_change m (judged_one (periods_of former) 0 place parts.kept h.source parts.judged.maps h.kept_at) in
        subst (AreCutAt groups) (sym (sections_at parts.kept parts.sections place h.source parts.judged.common h.kept_at))
        (cut_at m.segments unchanged)

    pub column_of : IsColumn snapshot round.files place parts.sections parts.times parts.listed (stretches_from known groups)
    column_of =
        let h = source_of in
        let own = stretches_from known groups in
        let e : 0 + place ≡ place = omega arith in
        column snapshot round.files place (last_end (periods_of former)) 0 parts.sections parts.times parts.runs parts.listed own own
        parts.read parts.ticked parts.periods (stretches_at (formers_of former) 0 place parts.kept h.source h.kept_at)
        (λ i. let z : 0 + i ≡ i = omega arith in ap (slice_get own) z)
        (stretches_many known groups ∙ cut_many groups parts.sections cut_of)
        (λ i within. let z : 0 + i ≡ i = omega arith in ap (λ n. get_or parts.sections n 0) z)

    times_are : track.times ≡ starts_of column_of.cells
    times_are =
        let h = source_of in
        let n = length parts.kept in
        let within = slice_get_within parts.kept place h.source h.kept_at in
        let many : length (stretches_of_all (formers_of former) 0 parts.kept) ≡ n = all_many (formers_of former) 0 parts.kept in
        let total = times_total snapshot round.files 0 parts.sections parts.times parts.read in
        let e : 0 + place ≡ place = omega arith in
        let count : length parts.times / n ≡ length parts.sections =
        ap (λ t. t / n) (total ∙ ap (λ m. length parts.sections * m) many ∙ (let z : length parts.sections * n ≡ length parts.sections * n + 0 =
        omega arith in z)) ∙ div-mul-add (length parts.sections) n 0 (omega (arith, within)) in
        ap (λ (t : FollowedTrack). t.times) h.is
        ∙ ap (λ p. times_over (length parts.times / n) n p parts.times) e
        ∙ ap (λ c. times_over c n place parts.times) count
        ∙ ap (λ m. times_over (length parts.sections) m place parts.times) (sym many) ∙ column_of.starts

    all_of_media : flattened groups ≡ track.media.segments
    all_of_media = all_segments source_of.source.media.segments
        ∙ ap (λ (t : FollowedTrack). t.media.segments) (sym source_of.is)

    pub times_are_own : AreOwn folder round.files (known_times (slice_get (formers_of former) place) track.media) track.media.segments track.times
    times_are_own =
        let c = column_of in
        let e : 0 + place ≡ place = omega arith in
        let own = cells_own snapshot round.files place known groups c.cells c.each c.stretches in
        let same : known ≡ known_times (slice_get (formers_of former) place) track.media =
        ap (λ p. known_times (slice_get (formers_of former) p) source_of.source.media) e
        ∙ ap (λ (t : FollowedTrack). known_times (slice_get (formers_of former) place) t.media) (sym source_of.is) in
        subst (λ known. AreOwn folder round.files known track.media.segments track.times) same
        (subst (λ segments. AreOwn folder round.files known segments track.times) all_of_media
        (subst (AreOwn folder round.files known (flattened groups)) (sym times_are) own))

    pub lists_own : ListsOwnTrack new place track
    lists_own =
        let c = column_of in
        let listed = cells_listed snapshot round.files place known groups c.cells c.each c.stretches
        (grouped snapshot round.files place known groups parts.sections c.cells c.each c.stretches c.numbers cut_of) in
        let h = source_of in
        record {
          sections = listed_numbers ∙ sections_at parts.kept parts.sections place h.source parts.judged.common h.kept_at
              ∙ ap (λ (t : FollowedTrack). sections_of t.media) (sym h.is);
          timed = own_length folder round.files (known_times (slice_get (formers_of former) place) track.media) track.media.segments track.times
              times_are_own;
          segments = ap (λ (ps : List LivePeriod). map (λ (p : OwnPlaced). p.listed) (own_placed_of place ps)) listed_are
              ∙ ap (map (λ (p : OwnPlaced). p.listed)) c.placed ∙ listed
              ∙ ap (λ segments. own_listed_of segments (starts_of c.cells)) all_of_media
              ∙ ap (own_listed_of track.media.segments) (sym times_are);
        }
