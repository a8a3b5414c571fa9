-- An MPD lists what the last playlists do.
use Rattle.hls_follow.specs.Periods as periods
use Rattle.std.proofs.Common.{◌≡◌, ℕ, false, zero, suc, ◌+◌, List, [], ◌∷◌, ◌++◌, map, length, slice_get, All, Option, Some, None, Ok, refl}
use Rattle.std.proofs.{Common.{sym, ◌∙◌, ap, subst, arith, option_map, unwrap_or}, lemmas.List.map-append, lemmas.List.Elements.All-head}
use Rattle.std.proofs.{lemmas.List.Elements.All-tail, lemmas.Option.slice_get-map}
use Rattle.std.specs.List.{list_any}
use Rattle.bridge_io.proofs.AndThen.{steps_of}
use Rattle.url_parts.specs.declared.address.Part.{Part}
use Rattle.hls_media.specs.declared.media.MediaSegment.{MediaSegment}
use Rattle.hls_presentation.specs.{Presenting.flattened, Tracks.{Source, map_changes}}
use Rattle.dash_writer.specs.{declared.live.LiveMpd.LiveMpd, declared.live.LivePeriod.LivePeriod, declared.live.LiveRun.LiveRun}
use Rattle.dash_writer.specs.declared.live.LiveSegment.{LiveSegment}
use Rattle.hls_follow.specs.{declared.state.Followed.Followed, declared.state.FollowedTrack.FollowedTrack, declared.state.Last.Last}
use Rattle.hls_follow.specs.{Times.TimedSegment, Groups.{group_at, groups_of, row_at, row_end}, Kept.formers_of}
use Rattle.hls_follow.specs.Listed.{Listed, ListsTrack, Placed, listed_as, listed_of, placed_as, placed_in, placed_of}
use Rattle.hls_follow.specs.{Rounds.{followed_tracks, times_in}, Rules.{sections_behind, sections_of}, Times.{behind_segment, is_late}}
use Rattle.hls_follow.specs.Times.{last_of, time_of, timed_all, timed_from, timed_of, unless_late}
use Rattle.hls_follow.proofs.{Contiguous.length_timed, Sections.{AreCut, AreOf, cut, flat, segments_in, sections_at, unchanged_at}}
use Rattle.hls_follow.proofs.Staying.{Parts, same_by}

-- ---- segments with their times

abbrev pub listed_timed : TimedSegment → Listed
listed_timed t = listed_as t.segment t.time

pub segments_timed : (former : Option FollowedTrack) (target number : ℕ) (last : Option Last) (segments : List MediaSegment)
    → segments_in (timed_from former target number last segments) ≡ segments
segments_timed former target number last [] = refl
segments_timed former target number last (s ∷ segments) = ap (λ (ss : List MediaSegment). s ∷ ss)
    (segments_timed former target (number + 1) (Some (behind_segment number (time_of former target number s.section last) s)) segments)

listed_row : (timed : List TimedSegment) → map listed_timed timed ≡ listed_of (segments_in timed) (times_in timed)
listed_row [] = refl
listed_row (t ∷ timed) = ap (λ (ls : List Listed). listed_timed t ∷ ls) (listed_row timed)

-- ---- one group

pub listed_map : (part : Part) (of : Option Part) → periods.initialization_in of ≡ Ok part → of ≡ Some part
listed_map part (Some p) is = (let same : p ≡ part = cc in ap Some same)
listed_map part None is = absurd (cc)

listed_segments : (period : LivePeriod) (run : LiveRun) (group : List TimedSegment)
    → All (λ (t : TimedSegment). t.segment.section ≡ period.number) group
    → All (λ (t : TimedSegment). t.segment.map ≡ Some run.initialization) group
    → map (λ (p : Placed). p.listed) (map (placed_as period run) (periods.live_segments group)) ≡ map listed_timed group
listed_segments period run [] sections maps = refl
listed_segments period run (t ∷ group) sections maps =
    let section = All-head (λ (t : TimedSegment). t.segment.section ≡ period.number) t group sections in
    let of = All-head (λ (t : TimedSegment). t.segment.map ≡ Some run.initialization) t group maps in
    let here : (placed_as period run (periods.live_segment t)).listed ≡ listed_timed t = cc in
    let others = listed_segments period run group
    (All-tail (λ (t : TimedSegment). t.segment.section ≡ period.number) t group sections)
    (All-tail (λ (t : TimedSegment). t.segment.map ≡ Some run.initialization) t group maps) in
    ap (λ (l : Listed). l ∷ map (λ (p : Placed). p.listed) (map (placed_as period run) (periods.live_segments group))) here
    ∙ ap (λ (ls : List Listed). listed_timed t ∷ ls) others

listed_group : (period : LivePeriod) (run : LiveRun) (group : List TimedSegment) → periods.run_of group ≡ Ok run
    → AreOf period.number group → map (λ (p : Placed). p.listed) (placed_in period (Some run)) ≡ map listed_timed group
listed_group period run [] is are = absurd (cc)
listed_group period run (t ∷ group) is are =
    let x = steps_of (periods.initialization_in t.segment.map) _ run is in
    let same : periods.nominal_run x.value (t ∷ group) ≡ run = (let h = x.then in cc) in
    let first = All-head (λ (t : TimedSegment). t.segment.map ≡ are.map) t group are.maps in
    let of : are.map ≡ Some run.initialization = sym first ∙ listed_map x.value t.segment.map x.first
    ∙ ap (λ (r : LiveRun). Some r.initialization) same in
    ap (λ (segments : List LiveSegment). map (λ (p : Placed). p.listed) (map (placed_as period run) segments))
    (ap (λ (r : LiveRun). r.segments) (sym same))
    ∙ listed_segments period run (t ∷ group) are.sections (λ i d within. are.maps i d within ∙ of)

-- ---- one Period

pub record HasRun (runs : List LiveRun) (place : ℕ) (group : List TimedSegment) : Type 0 where
  pub run : LiveRun
  pub at : slice_get runs place ≡ Some run
  pub is : periods.run_of group ≡ Ok run

run_at : (row : List (List TimedSegment)) (runs : List LiveRun) (place : ℕ) (group : List TimedSegment) → periods.runs_of row ≡ Ok runs
    → slice_get row place ≡ Some group → HasRun runs place group
run_at [] runs place group are is = absurd (cc)
run_at (g ∷ row) runs place group are is =
    let x = steps_of (periods.run_of g) _ runs are in
    let y = steps_of (periods.runs_of row) _ runs x.then in
    let whole : x.value ∷ y.value ≡ runs = (let h = y.then in cc) in
    subst (λ (runs : List LiveRun). HasRun runs place group) whole (by place x.value y.value is x.first
    (λ place at. run_at row y.value place group y.first at))
  where
    by : (place : ℕ) (run : LiveRun) (runs : List LiveRun) → slice_get (g ∷ row) place ≡ Some group → periods.run_of g ≡ Ok run
        → ((place : ℕ) → slice_get row place ≡ Some group → HasRun runs place group) → HasRun (run ∷ runs) place group
    by zero run runs at one later = record { run = run; at = refl; is = (let same : g ≡ group = cc in ap periods.run_of (sym same) ∙ one) }
    by (suc place) run runs at one later = (let h = later place at in record { run = h.run; at = h.at; is = h.is })

pub record IsPeriod (period : LivePeriod) (number : ℕ) (row : List (List TimedSegment)) : Type 0 where
  pub named : period.number ≡ number
  pub runs : periods.runs_of row ≡ Ok period.runs

pub period_is : (known : List LivePeriod) (former number : ℕ) (row : List (List TimedSegment)) (period : LivePeriod)
    → periods.period_of known former number row ≡ Ok period → IsPeriod period number row
period_is known former number row period is =
    let x = steps_of (periods.extent_of (periods.known_in number known) former (row_end row)) _ period is in
    let y = steps_of (periods.runs_of row) _ period x.then in
    let same : record { number = number; start = x.value.start; longest = x.value.longest; runs = y.value }
    ≡ period = (let h = y.then in cc) in
    subst (λ (p : LivePeriod). IsPeriod p number row) same (record { named = refl; runs = y.first })

-- ---- all Periods

pub numbers_are : (known : List LivePeriod) (tracks : List (List (List TimedSegment))) (former place : ℕ) (sections : List ℕ)
    (listed : List LivePeriod)
    → periods.periods_from known tracks former place sections ≡ Ok listed → map (λ (p : LivePeriod). p.number) listed ≡ sections
numbers_are known tracks former place [] listed is =
    ap (map (λ (p : LivePeriod). p.number)) (let none : [] ≡ listed = cc in sym none)
numbers_are known tracks former place (number ∷ sections) listed is =
    let x = steps_of (periods.period_of known former number (row_at tracks place)) _ listed is in
    let y = steps_of (periods.periods_from known tracks (periods.end_of x.value) (place + 1) sections) _ listed x.then in
    let whole : x.value ∷ y.value ≡ listed = (let h = y.then in cc) in
    let one = period_is known former number (row_at tracks place) x.value x.first in
    let others = numbers_are known tracks (periods.end_of x.value) (place + 1) sections y.value y.first in
    ap (map (λ (p : LivePeriod). p.number)) (sym whole) ∙ ap (λ (n : ℕ). n ∷ map (λ (p : LivePeriod). p.number) y.value) one.named
    ∙ ap (λ (ns : List ℕ). number ∷ ns) others

-- the groups of a track from a place on
abbrev AreAt : List (List TimedSegment) → (place : ℕ) → List (List TimedSegment) → Type 0
AreAt groups place rest = (i : ℕ) → slice_get groups (place + i) ≡ slice_get rest i

next_at : (groups rest : List (List TimedSegment)) (group : List TimedSegment) (place : ℕ) → AreAt groups place (group ∷ rest)
    → AreAt groups (place + 1) rest
next_at groups rest group place are i =
    let e : place + 1 + i ≡ place + suc i = omega arith in
    ap (slice_get groups) e ∙ are (suc i)

group_is : (tracks : List (List (List TimedSegment))) (groups rest : List (List TimedSegment)) (group : List TimedSegment) (place p : ℕ)
    → slice_get tracks p ≡ Some groups → AreAt groups place (group ∷ rest) → slice_get (row_at tracks place) p ≡ Some group
group_is tracks groups rest group place p at are =
    let e : place + 0 ≡ place = omega arith in
    slice_get-map (group_at place) tracks p ∙ ap (option_map (group_at place)) at
    ∙ ap (λ (o : Option (List TimedSegment)). Some (unwrap_or o [])) (ap (slice_get groups) (sym e) ∙ are 0)

placed_is : (known : List LivePeriod) (tracks : List (List (List TimedSegment))) (former place p : ℕ) (sections : List ℕ)
    (listed : List LivePeriod) (groups rest : List (List TimedSegment))
    → periods.periods_from known tracks former place sections ≡ Ok listed → slice_get tracks p ≡ Some groups → AreAt groups place rest
    → AreCut rest sections → map (λ (p : Placed). p.listed) (placed_of p listed) ≡ map listed_timed (flattened rest)
placed_is known tracks former place p [] listed groups [] is at are cut =
    ap (λ (listed : List LivePeriod). map (λ (p : Placed). p.listed) (placed_of p listed)) (let none : [] ≡ listed = cc in sym none)
placed_is known tracks former place p [] listed groups (group ∷ rest) is at are cut = absurd cut
placed_is known tracks former place p (number ∷ sections) listed groups [] is at are cut = absurd cut
placed_is known tracks former place p (number ∷ sections) listed groups (group ∷ rest) is at are cut =
    let row = row_at tracks place in
    let x = steps_of (periods.period_of known former number row) _ listed is in
    let y = steps_of (periods.periods_from known tracks (periods.end_of x.value) (place + 1) sections) _ listed x.then in
    let whole : x.value ∷ y.value ≡ listed = (let h = y.then in cc) in
    let one = period_is known former number row x.value x.first in
    let run = run_at row x.value.runs p group one.runs (group_is tracks groups rest group place p at are) in
    let others = placed_is known tracks (periods.end_of x.value) (place + 1) p sections y.value groups rest y.first at
    (next_at groups rest group place are) cut.1 in
    let here = listed_group x.value run.run group run.is (subst (λ (n : ℕ). AreOf n group) (sym one.named) cut.0) in
    ap (λ (listed : List LivePeriod). map (λ (p : Placed). p.listed) (placed_of p listed)) (sym whole)
    ∙ map-append (λ (p : Placed). p.listed) (placed_in x.value (slice_get x.value.runs p)) (placed_of p y.value)
    ∙ ap (λ (r : Option LiveRun). map (λ (p : Placed). p.listed) (placed_in x.value r) ++ map (λ (p : Placed). p.listed)
    (placed_of p y.value)) run.at
    ∙ ap (λ (ls : List Listed). ls ++ map (λ (p : Placed). p.listed) (placed_of p y.value)) here
    ∙ ap (λ (ls : List Listed). map listed_timed group ++ ls) others
    ∙ sym (map-append listed_timed group (flattened rest))

-- ---- one track

-- the track at a place, with its source and its times
pub record IsTrackAt (formers : List FollowedTrack) (from place : ℕ) (kept : List Source) (timed : List (List TimedSegment))
    (track : FollowedTrack) : Type 0 where
  pub source : Source
  pub row : List TimedSegment
  pub kept_at : slice_get kept place ≡ Some source
  pub timed_at : slice_get timed place ≡ Some row
  pub times : row ≡ timed_of (slice_get formers (from + place)) source.media
  pub is : track ≡ record { media = source.media; times = times_in row }

track_first : (formers : List FollowedTrack) (from : ℕ) (s : Source) (kept : List Source) (first : List TimedSegment) (timed : List
    (List TimedSegment)) (track : FollowedTrack)
    → timed_of (slice_get formers from) s.media ≡ first → slice_get (followed_tracks (s ∷ kept) (first ∷ timed)) 0 ≡ Some track
    → IsTrackAt formers from 0 (s ∷ kept) (first ∷ timed) track
track_first formers from s kept first timed track here is =
    let e : from + 0 ≡ from = omega arith in
    record {
      source = s;
      row = first;
      kept_at = refl;
      timed_at = refl;
      times = sym here ∙ ap (λ (n : ℕ). timed_of (slice_get formers n) s.media) (sym e);
      is = (let same : record { media = s.media; times = times_in first } ≡ track = cc in sym same);
    }

track_later : (formers : List FollowedTrack) (from place : ℕ) (s : Source) (kept : List Source) (first : List TimedSegment) (timed : List
    (List TimedSegment)) (track : FollowedTrack)
    → IsTrackAt formers (from + 1) place kept timed track → IsTrackAt formers from (suc place) (s ∷ kept) (first ∷ timed) track
track_later formers from place s kept first timed track t =
    let e : from + 1 + place ≡ from + suc place = omega arith in
    record {
      source = t.source;
      row = t.row;
      kept_at = t.kept_at;
      timed_at = t.timed_at;
      times = t.times ∙ ap (λ (n : ℕ). timed_of (slice_get formers n) t.source.media) e;
      is = t.is;
    }

pub track_at : (formers : List FollowedTrack) (from place : ℕ) (kept : List Source) (timed : List (List TimedSegment))
    (track : FollowedTrack)
    → timed_all formers from kept ≡ Ok timed → slice_get (followed_tracks kept timed) place ≡ Some track
    → IsTrackAt formers from place kept timed track
track_at formers from place [] timed track are is =
    absurd (let none : [] ≡ timed = cc in let h : slice_get (followed_tracks [] timed) place ≡ None = refl in cc)
track_at formers from place (s ∷ kept) timed track are is =
    let x = steps_of (unless_late (timed_of (slice_get formers from) s.media)) _ timed are in
    let y = steps_of (timed_all formers (from + 1) kept) _ timed x.then in
    let whole : x.value ∷ y.value ≡ timed = (let h = y.then in cc) in
    let here : timed_of (slice_get formers from) s.media ≡ x.value = same_by (timed_of (slice_get formers from) s.media) x.value
    (list_any is_late (timed_of (slice_get formers from) s.media)) refl x.first in
    subst (λ (timed : List (List TimedSegment)). IsTrackAt formers from place (s ∷ kept) timed track) whole
    (by place x.value y.value here (λ place is. track_at formers (from + 1) place kept y.value track y.first is)
    (subst (λ (timed : List (List TimedSegment)). slice_get (followed_tracks (s ∷ kept) timed) place ≡ Some track) (sym whole) is))
  where
    by : (place : ℕ) (first : List TimedSegment) (timed : List (List TimedSegment)) → timed_of (slice_get formers from) s.media ≡ first
        → ((place : ℕ) → slice_get (followed_tracks kept timed) place ≡ Some track → IsTrackAt formers (from + 1) place kept timed track)
        → slice_get (followed_tracks (s ∷ kept) (first ∷ timed)) place ≡ Some track
        → IsTrackAt formers from place (s ∷ kept) (first ∷ timed) track
    by zero first timed here later at = track_first formers from s kept first timed track here at
    by (suc place) first timed here later at = track_later formers from place s kept first timed track (later place at)

module _ (former : Option Followed) (all : List Source) (new : Followed) (p : Parts former all new) (place : ℕ) (track : FollowedTrack)
    (at : slice_get new.tracks place ≡ Some track) where
  pub track_of : IsTrackAt (formers_of former) 0 place p.kept p.timed track
  track_of = track_at (formers_of former) 0 place p.kept p.timed track p.times
      (ap (λ (tracks : List FollowedTrack). slice_get tracks place) (sym p.tracks) ∙ at)

  pub lists_track : ListsTrack new place track
  unfolding timed_of
  lists_track =
      let t = track_of in
      let m = t.source.media in
      let f = slice_get (formers_of former) (0 + place) in
      let segments : segments_in t.row ≡ m.segments = ap segments_in t.times
      ∙ segments_timed f m.target m.sequence (last_of f) m.segments in
      let unchanged : map_changes (segments_in t.row) ≡ false = ap map_changes segments
      ∙ unchanged_at p.kept place t.source p.judged.segments t.kept_at in
      let sections = sections_at p.kept p.sections place t.source p.judged.common t.kept_at in
      let cut_by : AreCut (groups_of t.row) p.sections = subst (AreCut (groups_of t.row))
      (ap (sections_behind None) segments ∙ sym sections) (cut t.row unchanged) in
      let groups : slice_get (map groups_of p.timed) place ≡ Some (groups_of t.row) =
      slice_get-map groups_of p.timed place ∙ ap (option_map groups_of) t.timed_at in
      let same : (i : ℕ) → slice_get (groups_of t.row) (0 + i) ≡ slice_get (groups_of t.row) i =
      λ i. (let e : 0 + i ≡ i = omega arith in ap (slice_get (groups_of t.row)) e) in
      let placed = placed_is _ (map groups_of p.timed) _ 0 place p.sections p.listed (groups_of t.row) (groups_of t.row) p.periods groups
      same cut_by in
      let mpd_periods : new.mpd.periods ≡ p.listed = ap (λ (mpd : LiveMpd). mpd.periods) p.mpd in
      record {
        sections = ap (map (λ (p : LivePeriod). p.number)) mpd_periods
            ∙ numbers_are _ (map groups_of p.timed) _ 0 p.sections p.listed p.periods
            ∙ sections ∙ ap (λ (t : FollowedTrack). sections_of t.media) (sym t.is);
        timed = ap (λ (t : FollowedTrack). length t.times) t.is ∙ ap (λ (row : List TimedSegment). length (times_in row)) t.times
            ∙ length_timed f m.target m.sequence (last_of f) m.segments ∙ ap (λ (t : FollowedTrack). length t.media.segments) (sym t.is);
        segments = ap (λ (ps : List LivePeriod). map (λ (p : Placed). p.listed) (placed_of place ps)) mpd_periods ∙ placed
            ∙ ap (map listed_timed) (flat t.row) ∙ listed_row t.row
            ∙ ap (λ (ss : List MediaSegment). listed_of ss (times_in t.row)) segments
            ∙ ap (λ (t : FollowedTrack). listed_of t.media.segments t.times) (sym t.is);
      }
