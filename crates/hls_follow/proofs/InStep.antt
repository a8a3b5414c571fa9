-- The tracks of a Period have one presentation time offset over their timescales.
use Rattle.hls_follow.specs.TimedPeriods as periods
use Rattle.std.proofs.Common.{◌≡◌, ℕ, suc, ◌+◌, ◌*◌, ◌<◌, Bool, true, false, eqb, List, [], ◌∷◌, length, map, get_or}
use Rattle.std.proofs.Common.{slice_get, All, Option, Some, None, unwrap_or, Ok, refl, sym, ◌∙◌, ap, subst, arith}
use Rattle.std.proofs.{lemmas.List.length-map, lemmas.List.Elements.{All-cons, All-head, All-map, All-nil, All-tail, All-weaker}}
use Rattle.bridge_io.specs.{Outside.Files}
use Rattle.bridge_io.proofs.AndThen.{steps_of}
use Rattle.hls_master.specs.declared.track.MasterTrack.{MasterTrack}
use Rattle.hls_presentation.specs.Tracks.{sources}
use Rattle.dash_writer.specs.{declared.live.LivePeriod.LivePeriod, declared.live.LiveRun.LiveRun}
use Rattle.dash_writer.specs.declared.timed.TickRun.{TickRun}
use Rattle.fragment_times.specs.{declared.origin.Origin.Origin, declared.times.SegmentTimes.SegmentTimes, Times.IsScaled}
use Rattle.url_parts.specs.declared.address.Part.{Part}
use Rattle.hls_media.specs.declared.media.MediaSegment.{MediaSegment}
use Rattle.dash_writer.specs.Live.{first_time}
use Rattle.fragment_times.specs.{declared.fault.SegmentSpot.SegmentSpot, declared.lasting.Clock.Clock}
use Rattle.fragment_times.specs.Durations.{begun_at, last_ticks_of, next_begun, ticks_behind, ticks_from, ticks_of}
use Rattle.fragment_times.specs.Origins.{OffsetsAreOneTime, first_of, offset_in, origin_of}
use Rattle.fragment_times.specs.Parts.{scale_at}
use Rattle.fragment_times.proofs.Scaled.{in_part}
use Rattle.std.proofs.Math.ListN.{get_or-map}
use Rattle.hls_follow.specs.{declared.state.Followed.Followed, declared.state.FollowedTrack.FollowedTrack}
use Rattle.hls_follow.specs.{Kept.{formers_of, kept_by, periods_of}, OwnTimes.{Snapshot, map_of, of_live, period_in, row_times}}
use Rattle.hls_follow.specs.OwnTimes.{run_at, scale_of, section_times, track_times}
use Rattle.hls_follow.specs.Stretches.{Stretch, stretch_at}
use Rattle.hls_follow.specs.Ticks.{clock_with, last_ticks, offset_of, row_runs, section_runs, spot_of, stretch_in, track_run}
use Rattle.hls_follow.specs.TimedHistories.{BeginsByOffset, IsInStep, IsRound, PeriodsAreInStep, Round, timed_by}
use Rattle.hls_follow.proofs.{CellFacts.{live_of, run_of, times_of}, Cells.{known_run, times_many}, OwnListing.times_ok}
use Rattle.hls_follow.proofs.Histories.{sources_length}
use Rattle.hls_follow.proofs.{OwnHistories.from_first, OwnParts.{parts_of}, OwnStaying.{IsWhole, whole_of}}
use Rattle.hls_follow.proofs.OwnTracks.{all_many, snapshot, tracks_many}
use Rattle.hls_follow.proofs.OwnRows.{HasRow, rows_are}

-- ---- offsets and timescales

-- a track's offset and its timescale
abbrev clock_of : LiveRun → ℕ × ℕ
clock_of run = (unwrap_or run.offset 0, run.scale)

abbrev Together : ℕ × ℕ → ℕ × ℕ → Type 0
Together one other = one.0 * other.1 ≡ other.0 * one.1

abbrev AreTogether : List (ℕ × ℕ) → Type 0
AreTogether clocks = All (λ (one : ℕ × ℕ). All (Together one) clocks) clocks

-- what holds of all pairs of an image holds of all pairs
pairs_of : {X : Type 0} (f : X → ℕ × ℕ) (xs : List X) → AreTogether (map f xs)
    → All (λ (x : X). All (λ (y : X). Together (f x) (f y)) xs) xs
pairs_of f xs all i d within j e inside =
    subst (Together (f (get_or xs i d))) (get_or-map f xs j e)
    (subst (λ c. Together c (get_or (map f xs) j (f e))) (get_or-map f xs i d)
    (all i (f d) (rw (length-map xs f) within) j (f e) (rw (length-map xs f) inside)))

to_pairs : {X : Type 0} (f : X → ℕ × ℕ) (xs : List X) → All (λ (x : X). All (λ (y : X). Together (f x) (f y)) xs) xs
    → AreTogether (map f xs)
to_pairs f xs all =
    All-map (λ c. All (Together c) (map f xs)) f xs (λ i d within. All-map (Together (f (get_or xs i d))) f xs (all i d within))

-- ---- a section

-- the clocks of the tracks from one on
abbrev clocks_from : Option LivePeriod → Origin → (track : ℕ) → List SegmentTimes → List (ℕ × ℕ)
clocks_from known origin track [] = []
clocks_from known origin track (times ∷ row) =
    (offset_of (run_at known track) origin times, times.scale) ∷ clocks_from known origin (track + 1) row

module _ (s : Snapshot) (place : ℕ) (origin : Origin) where
  clocks_are : (track : ℕ) (tracks : List (List Stretch)) (row : List SegmentTimes) (ticks : List TickRun) (runs : List LiveRun)
      → row_runs s place track origin row ≡ Ok ticks → periods.live_runs place tracks ticks ≡ Ok runs → length tracks ≡ length row
      → map clock_of runs ≡ clocks_from (period_in (get_or s.sections place 0) s.periods) origin track row
  clocks_are track tracks [] ticks runs is live many =
      (let none : [] ≡ ticks = cc in
      let h : periods.live_runs place tracks [] ≡ Ok runs = ap (periods.live_runs place tracks) none ∙ live in
      ap (map clock_of) (let empty : [] ≡ runs = cc in sym empty))
  clocks_are track [] (times ∷ row) ticks runs is live many = absurd (omega (arith, many))
  clocks_are track (own ∷ tracks) (times ∷ row) ticks runs is live many =
      let offset = offset_of (known_run s (get_or s.sections place 0) track) origin times in
      let a = steps_of (track_run s (spot_of place track) offset times) _ ticks is in
      let b = steps_of (row_runs s place (track + 1) origin row) _ ticks a.then in
      let whole : a.value ∷ b.value ≡ ticks = (let h = b.then in cc) in
      let lives : periods.live_runs place (own ∷ tracks) (a.value ∷ b.value) ≡ Ok runs =
      ap (periods.live_runs place (own ∷ tracks)) whole ∙ live in
      let c = steps_of (periods.live_run (stretch_at place own) a.value) _ runs lives in
      let d = steps_of (periods.live_runs place tracks b.value) _ runs c.then in
      let all : c.value ∷ d.value ≡ runs = (let h = d.then in cc) in
      let r = run_of s (spot_of place track) offset times a.value a.first in
      let l = live_of (stretch_at place own) a.value c.value c.first in
      let scale : c.value.scale ≡ times.scale = l.scale ∙ ap (λ (run : TickRun). run.scale) (sym r.is) in
      let at : c.value.offset ≡ Some offset = l.offset ∙ ap (λ (run : TickRun). Some run.offset) (sym r.is) in
      let head : clock_of c.value ≡ (offset, times.scale) = rw (at, scale) refl in
      let later = clocks_are (track + 1) tracks row b.value d.value b.first d.first (omega (arith, many)) in
      ap (map clock_of) (sym all) ∙ ap (λ (x : ℕ × ℕ). x ∷ map clock_of d.value) head
      ∙ ap (λ (xs : List (ℕ × ℕ)). (offset, times.scale) ∷ xs) later

-- no segment begins before its section's offset
module _ (s : Snapshot) (place : ℕ) (origin : Origin) where
  first_is : (at : SegmentSpot) (clock : Clock) (last : ℕ) (starts durations : List ℕ) (segments : List MediaSegment) (map : Part)
      → ticks_of at clock last starts ≡ Ok durations → map_of segments ≡ Ok map
      → first_time (periods.segments_from (get_or starts 0 0) durations segments) ≡ get_or starts 0 0
  first_is at clock last starts durations [] map is of = absurd (cc)
  first_is at clock last [] durations (x ∷ segments) map is of = rw (let none : [] ≡ durations = cc in sym none) refl
  first_is at clock last (start ∷ []) durations (x ∷ segments) map is of =
      let a = steps_of (last_ticks_of clock last (begun_at at start)) _ durations is in
      let whole : a.value ∷ [] ≡ durations = (let h = a.then in cc) in rw (← whole) refl
  first_is at clock last (start ∷ next ∷ starts) durations (x ∷ segments) map is of =
      let a = steps_of (ticks_behind clock.scale start (next_begun (begun_at at start) next)) _ durations is in
      let b = steps_of (ticks_from clock last (next_begun (begun_at at start) next) starts) _ durations a.then in
      let whole : a.value ∷ b.value ≡ durations = (let h = b.then in cc) in rw (← whole) refl

  runs_begin : (track : ℕ) (tracks : List (List Stretch)) (row : List SegmentTimes) (ticks : List TickRun) (runs : List LiveRun)
      → row_runs s place track origin row ≡ Ok ticks → periods.live_runs place tracks ticks ≡ Ok runs → All BeginsByOffset runs
  runs_begin track tracks [] ticks runs is live =
      (let none : [] ≡ ticks = cc in
      let h : periods.live_runs place tracks [] ≡ Ok runs = ap (periods.live_runs place tracks) none ∙ live in
      subst (All BeginsByOffset) (let empty : [] ≡ runs = cc in empty) (All-nil BeginsByOffset))
  runs_begin track [] (times ∷ row) ticks runs is live =
      let offset = offset_of (known_run s (get_or s.sections place 0) track) origin times in
      let a = steps_of (track_run s (spot_of place track) offset times) _ ticks is in
      let b = steps_of (row_runs s place (track + 1) origin row) _ ticks a.then in
      let whole : a.value ∷ b.value ≡ ticks = (let h = b.then in cc) in
      let h : periods.live_runs place [] (a.value ∷ b.value) ≡ Ok runs = ap (periods.live_runs place []) whole ∙ live in
      subst (All BeginsByOffset) (let empty : [] ≡ runs = cc in empty) (All-nil BeginsByOffset)
  runs_begin track (own ∷ tracks) (times ∷ row) ticks runs is live =
      let offset = offset_of (known_run s (get_or s.sections place 0) track) origin times in
      let a = steps_of (track_run s (spot_of place track) offset times) _ ticks is in
      let b = steps_of (row_runs s place (track + 1) origin row) _ ticks a.then in
      let whole : a.value ∷ b.value ≡ ticks = (let h = b.then in cc) in
      let lives : periods.live_runs place (own ∷ tracks) (a.value ∷ b.value) ≡ Ok runs =
      ap (periods.live_runs place (own ∷ tracks)) whole ∙ live in
      let c = steps_of (periods.live_run (stretch_at place own) a.value) _ runs lives in
      let d = steps_of (periods.live_runs place tracks b.value) _ runs c.then in
      let all : c.value ∷ d.value ≡ runs = (let h = d.then in cc) in
      let r = run_of s (spot_of place track) offset times a.value a.first in
      let l = live_of (stretch_at place own) a.value c.value c.first in
      let first : first_time c.value.segments ≡ first_of times = ap first_time l.segments
      ∙ ap (λ (run : TickRun). first_time (periods.segments_from run.first run.durations (stretch_at place own).segments)) (sym r.is)
      ∙ first_is (spot_of place track) (clock_with times.scale offset)
      (last_ticks (stretch_in s (spot_of place track)).segments times.scale) times.starts r.durations (stretch_at place own).segments c.value.initialization r.ticks l.map in
      let at : unwrap_or c.value.offset 0 ≡ offset =
      ap (λ (o : Option ℕ). unwrap_or o 0) (l.offset ∙ ap (λ (run : TickRun). Some run.offset) (sym r.is)) in
      let here : BeginsByOffset c.value = omega (arith, first, at, r.begins) in
      subst (All BeginsByOffset) all (All-cons BeginsByOffset c.value d.value here
      (runs_begin (track + 1) tracks row b.value d.value b.first d.first))

-- a section that begins
abbrev first_clock : Origin → SegmentTimes → ℕ × ℕ
first_clock origin times = (offset_in origin times.scale, times.scale)

clocks_begin : (origin : Origin) (track : ℕ) (row : List SegmentTimes) → clocks_from None origin track row ≡ map (first_clock origin) row
clocks_begin origin track [] = refl
clocks_begin origin track (times ∷ row) =
    ap (λ (xs : List (ℕ × ℕ)). first_clock origin times ∷ xs) (clocks_begin origin (track + 1) row)

module _ (folder : List ℕ) (files : Files) (place : ℕ) where
  pub begun_scaled : (track : ℕ) (tracks : List (List Stretch)) (row : List SegmentTimes)
      → row_times folder files None place track tracks ≡ Ok row → All IsScaled row
  begun_scaled track [] row is = subst (All IsScaled) (let none : [] ≡ row = cc in none) (All-nil IsScaled)
  begun_scaled track (own ∷ tracks) row is =
      let a = steps_of (track_times folder files None (stretch_at place own)) _ row is in
      let b = steps_of (row_times folder files None place (track + 1) tracks) _ row a.then in
      let whole : a.value ∷ b.value ≡ row = (let h = b.then in cc) in
      let t = times_of folder files None (stretch_at place own) a.value a.first in
      let m = steps_of (of_live (map_of (stretch_at place own).segments)) _ a.value.scale t.scale in
      let positive : 0 < a.value.scale = in_part folder files m.value a.value.scale
      (times_ok (scale_at folder files m.value) a.value.scale m.then) in
      subst (All IsScaled) whole (All-cons IsScaled a.value b.value positive (begun_scaled (track + 1) tracks b.value b.first))

  -- a section that is known keeps each track's timescale
  known_clocks : (known : LivePeriod) (origin : Origin) (track : ℕ) (tracks : List (List Stretch)) (row : List SegmentTimes)
      (rest : List LiveRun) → row_times folder files (Some known) place track tracks ≡ Ok row
      → ((i : ℕ) → slice_get known.runs (track + i) ≡ slice_get rest i) → length tracks ≡ length rest
      → clocks_from (Some known) origin track row ≡ map clock_of rest
  known_clocks known origin track [] row [] is at many =
      ap (clocks_from (Some known) origin track) (let none : [] ≡ row = cc in sym none)
  known_clocks known origin track [] row (run ∷ rest) is at many = absurd (omega (arith, many))
  known_clocks known origin track (own ∷ tracks) row [] is at many = absurd (omega (arith, many))
  known_clocks known origin track (own ∷ tracks) row (run ∷ rest) is at many =
      let a = steps_of (track_times folder files (run_at (Some known) track) (stretch_at place own)) _ row is in
      let b = steps_of (row_times folder files (Some known) place (track + 1) tracks) _ row a.then in
      let whole : a.value ∷ b.value ≡ row = (let h = b.then in cc) in
      let e : track ≡ track + 0 = omega arith in
      let here : run_at (Some known) track ≡ Some run = ap (slice_get known.runs) e ∙ at 0 in
      let t = times_of folder files (run_at (Some known) track) (stretch_at place own) a.value a.first in
      let h : scale_of folder files (Some run) (stretch_at place own) ≡ Ok a.value.scale =
      ap (λ (o : Option LiveRun). scale_of folder files o (stretch_at place own)) (sym here) ∙ t.scale in
      let scale : a.value.scale ≡ run.scale = (let same : run.scale ≡ a.value.scale = cc in sym same) in
      let offset : offset_of (run_at (Some known) track) origin a.value ≡ unwrap_or run.offset 0 =
      ap (λ (o : Option LiveRun). offset_of o origin a.value) here in
      let head : (offset_of (run_at (Some known) track) origin a.value, a.value.scale) ≡ clock_of run = rw (offset, scale) refl in
      let later = known_clocks known origin (track + 1) tracks b.value rest b.first
      (λ i. let f : track + 1 + i ≡ track + suc i = omega arith in ap (slice_get known.runs) f ∙ at (suc i)) (omega (arith, many)) in
      ap (clocks_from (Some known) origin track) (sym whole)
      ∙ ap (λ (x : ℕ × ℕ). x ∷ clocks_from (Some known) origin (track + 1) b.value) head
      ∙ ap (λ (xs : List (ℕ × ℕ)). clock_of run ∷ xs) later

-- ---- a snapshot

-- a Period in step, with a run for each track
record IsStepped (count : ℕ) (period : LivePeriod) : Type 0 where
  step : IsInStep period
  filled : length period.runs ≡ count

pub found_in : (P : LivePeriod → Type 0) (number : ℕ) (known : List LivePeriod) (period : LivePeriod) → All P known
    → period_in number known ≡ Some period → P period
found_in P number [] period all is = absurd (cc)
found_in P number (q ∷ known) period all is = by (eqb q.number number) refl (found_in P number known period (All-tail P q known all))
  where
    by : (b : Bool) → eqb q.number number ≡ b → (period_in number known ≡ Some period → P period) → P period
    by true b later =
        (let h : period_in number (q ∷ known) ≡ Some q = rw b refl in
        let same : q ≡ period = cc in subst P same (All-head P q known all))
    by false b later = (let h : period_in number (q ∷ known) ≡ period_in number known = rw b refl in later (sym h ∙ is))

module _ (one_time : OffsetsAreOneTime) (s : Snapshot) (files : Files) (known : All (IsStepped (length s.tracks)) s.periods) where
  row_together : (place : ℕ) (row : List SegmentTimes) (o : Option LivePeriod) → period_in (get_or s.sections place 0) s.periods ≡ o
      → section_times s files o place ≡ Ok row → AreTogether (clocks_from o (origin_of row) 0 row)
  row_together place row None is read =
      subst AreTogether (sym (clocks_begin (origin_of row) 0 row)) (to_pairs (first_clock (origin_of row)) row
      (one_time row (begun_scaled s.folder files place 0 s.tracks row read)))
  row_together place row (Some period) is read =
      let q = found_in (IsStepped (length s.tracks)) (get_or s.sections place 0) s.periods period known is in
      let filled = q.filled in
      subst AreTogether (sym (known_clocks s.folder files place period (origin_of row) 0 s.tracks row period.runs read
      (λ i. let e : 0 + i ≡ i = omega arith in ap (slice_get period.runs) e) (sym filled)))
      (to_pairs clock_of period.runs q.step.one_time)

  runs_stepped : (place : ℕ) (row : List SegmentTimes) (ticks : List TickRun) (period : LivePeriod)
      → section_times s files (period_in (get_or s.sections place 0) s.periods) place ≡ Ok row → section_runs s place row ≡ Ok ticks
      → periods.live_runs place s.tracks ticks ≡ Ok period.runs → IsStepped (length s.tracks) period
  runs_stepped place row ticks period read ticked live =
      let o = period_in (get_or s.sections place 0) s.periods in
      let many = times_many s.folder files o place 0 s.tracks row read in
      let clocks = clocks_are s place (origin_of row) 0 s.tracks row ticks period.runs ticked live (sym many) in
      record {
        step = record {
          one_time = pairs_of clock_of period.runs (subst AreTogether (sym clocks) (row_together place row o refl read));
          before = runs_begin s place (origin_of row) 0 s.tracks row ticks period.runs ticked live;
        };
        filled = sym (length-map period.runs clock_of) ∙ ap length clocks ∙ clocks_many o (origin_of row) 0 row ∙ many;
      }
    where
      clocks_many : (o : Option LivePeriod) (origin : Origin) (track : ℕ) (row : List SegmentTimes)
          → length (clocks_from o origin track row) ≡ length row
      clocks_many o origin track [] = refl
      clocks_many o origin track (times ∷ row) = ap suc (clocks_many o origin (track + 1) row)

module _ (one_time : OffsetsAreOneTime) (tracks : List MasterTrack) (folder : List ℕ) where
  abbrev AreStepped : Followed → Type 0
  AreStepped f = All (IsStepped (length f.tracks)) f.mpd.periods

  stepped : (former : Option Followed) (round : Round) (new : Followed) → timed_by tracks folder former round ≡ Ok new
      → All (IsStepped (length new.tracks)) (periods_of former) → AreStepped new
  stepped former round new accepted known =
      let here = sources tracks round.medias in
      let p = parts_of tracks folder former round new accepted in
      let s = snapshot folder former here round new p in
      let many : length new.tracks ≡ length s.tracks =
      ap (λ (ts : List FollowedTrack). length ts) p.tracks ∙ tracks_many (length p.kept) 0 p.kept p.times
      ∙ sym (all_many (formers_of former) 0 p.kept) in
      let known_here = subst (λ n. All (IsStepped n) (periods_of former)) many known in
      subst (λ n. All (IsStepped n) new.mpd.periods) (sym many)
      (All-weaker (HasRow s round.files) (IsStepped (length s.tracks))
      (λ period has. runs_stepped one_time s round.files known_here has.place has.row has.ticks period has.is.read has.is.ticked has.is.live)
      new.mpd.periods (rows_are folder former here round new p))

  -- with as many tracks as before
  pub record IsGone (f : Followed) : Type 0 where
    whole : IsWhole tracks f
    stepped : AreStepped f

  pub first_gone : (round : Round) (new : Followed) → IsRound tracks round → timed_by tracks folder None round ≡ Ok new → IsGone new
  first_gone round new given accepted = record {
    whole = whole_of tracks folder None round new accepted given;
    stepped = stepped None round new accepted (All-nil (IsStepped (length new.tracks)));
  }

  pub next_gone : (former : Followed) (round : Round) (new : Followed) → IsGone former → IsRound tracks round
      → timed_by tracks folder (Some former) round ≡ Ok new → IsGone new
  next_gone former round new was given accepted =
      let here = sources tracks round.medias in
      let as_many : length here ≡ length tracks = sources_length tracks round.medias given.one_each in
      let whole = whole_of tracks folder (Some former) round new accepted given in
      let flags = (parts_of tracks folder (Some former) round new accepted).flags in
      let same : length former.tracks ≡ length new.tracks = was.whole.count here as_many
      ∙ ap (λ (flags : List Bool). length (kept_by flags here)) (sym flags) ∙ sym (whole.count here as_many) in
      record {
        whole = whole;
        stepped = stepped (Some former) round new accepted (subst (λ n. All (IsStepped n) former.mpd.periods) same was.stepped);
      }

  pub gone_in_step : (f : Followed) → IsGone f → All IsInStep f.mpd.periods
  gone_in_step f gone i d within = (gone.stepped i d within).step

pub periods_are_in_step : OffsetsAreOneTime → PeriodsAreInStep
periods_are_in_step one_time tracks folder rounds new are =
    gone_in_step one_time tracks folder new (from_first tracks folder (IsRound tracks) (IsGone one_time tracks folder)
    (first_gone one_time tracks folder) (next_gone one_time tracks folder) rounds new are.whole are.left)
