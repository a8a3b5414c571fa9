-- What the first accepted snapshot lists is available.
use Rattle.hls_follow.specs.TimedPeriods as periods
use Rattle.std.proofs.Common.{◌≡◌, ℕ, ℤ, pos, ◌-ℤ◌, ◌≤ℤ◌, suc, ◌+◌, ◌-◌, ◌*◌, ◌^◌, ◌<◌, ◌≤◌, max, leb, Bool, true, false, List, [], ◌∷◌, take, drop}
use Rattle.std.proofs.Common.{length, get_or, slice_get, sum, neg_ℤ, int_lt, All, Option, Some, None, unwrap_or, Ok, Err, refl, sym, ◌∙◌, ap, subst, arith}
use Rattle.std.specs.Int.{div_ceil}
use Rattle.std.proofs.{Math.Nat.mul-le-mul_right, lemmas.Grind.div_ceil_times, lemmas.Int.ints, lemmas.List.Elements.{All-cons, All-head, All-nil, All-tail}}
use Rattle.std.proofs.lemmas.List.Sums.{sum_by-cons}
use Rattle.bridge_io.proofs.AndThen.{steps_of}
use Rattle.hls_media.specs.declared.media.MediaSegment.{MediaSegment}
use Rattle.hls_presentation.specs.Tracks.{sources}
use Rattle.dash_writer.specs.{declared.live.LiveMpd.LiveMpd, declared.live.LivePeriod.LivePeriod, declared.live.LiveRun.LiveRun}
use Rattle.dash_writer.specs.{declared.live.LiveSegment.LiveSegment, declared.timed.TickRun.TickRun}
use Rattle.fragment_times.specs.{declared.origin.Origin.Origin, declared.times.SegmentTimes.SegmentTimes, Origins.origin_of, Times.IsScaled}
use Rattle.layer_faults.specs.declared.live.LiveFault.TheVariants.{Limit}
use Rattle.hls_follow.specs.{OwnTimes.Snapshot, Rounds.{first_start, target_of, whole_millis}}
use Rattle.hls_follow.specs.{Periods.{end_in, end_of, extent_of, known_in, last_end, within_limit}, Stretches.{Stretch, stretch_at}}
use Rattle.hls_follow.specs.Ticks.{offset_of, row_runs, spot_of, track_run}
use Rattle.hls_follow.specs.TimedHistories.{EndsBy, FirstListsAreAvailable}
use Rattle.hls_follow.specs.TimedRounds.{listed_by}
use Rattle.hls_follow.proofs.{CellFacts.{live_of, run_of}, Cells.known_run, InStep.begun_scaled, OwnParts.{parts_of}}
use Rattle.hls_follow.proofs.{OwnRows.{rows_are}, OwnTracks.{listed_are, snapshot}, Rounding.millis_near}
use Rattle.hls_follow.proofs.Staying.{within_by}

-- ---- segments

ends_within : (time : ℕ) (durations : List ℕ) (segments : List MediaSegment)
    → All (λ (s : LiveSegment). s.time + s.duration ≤ time + sum durations) (periods.segments_from time durations segments)
ends_within time durations [] = All-nil (λ (s : LiveSegment). s.time + s.duration ≤ time + sum durations)
ends_within time [] (s ∷ segments) = All-nil (λ (s : LiveSegment). s.time + s.duration ≤ time + sum [])
ends_within time (d ∷ durations) (s ∷ segments) =
    let e : sum (d ∷ durations) ≡ d + sum durations = sum_by-cons (λ n. n) d durations in
    All-cons (λ (s : LiveSegment). s.time + s.duration ≤ time + sum (d ∷ durations))
    (record { address = s.address; range = s.range; time = time; duration = d }) (periods.segments_from (time + d) durations segments)
    (omega (arith, e)) (λ i c within. let later = ends_within (time + d) durations segments i c within in omega (arith, e, later))

-- ---- a section

module _ (s : Snapshot) (place : ℕ) (origin : Origin) where
  behind_longest : (former : ℕ) (row : List TickRun) → former ≤ periods.longest_behind former row
  behind_longest former [] = omega arith
  behind_longest former (run ∷ row) =
      let more = behind_longest (max former (periods.nanos_of run)) row in omega (arith, more)

  -- each run ends by the longest one
  runs_end : (former longest track : ℕ) (tracks : List (List Stretch)) (row : List SegmentTimes) (ticks : List TickRun) (runs : List LiveRun)
      → row_runs s place track origin row ≡ Ok ticks → periods.live_runs place tracks ticks ≡ Ok runs → All IsScaled row
      → periods.longest_behind former ticks ≤ longest
      → All (λ (run : LiveRun). All (EndsBy longest run) run.segments) runs
  runs_end former longest track tracks [] ticks runs is live scaled most =
      (let none : [] ≡ ticks = cc in
      let h : periods.live_runs place tracks [] ≡ Ok runs = ap (periods.live_runs place tracks) none ∙ live in
      subst (All (λ (run : LiveRun). All (EndsBy longest run) run.segments)) (let empty : [] ≡ runs = cc in empty)
      (All-nil (λ (run : LiveRun). All (EndsBy longest run) run.segments)))
  runs_end former longest track [] (times ∷ row) ticks runs is live scaled most =
      let a = steps_of (track_run s (spot_of place track) _ times) _ ticks is in
      let b = steps_of (row_runs s place (track + 1) origin row) _ ticks a.then in
      let whole : a.value ∷ b.value ≡ ticks = (let h = b.then in cc) in
      let h : periods.live_runs place [] (a.value ∷ b.value) ≡ Ok runs = ap (periods.live_runs place []) whole ∙ live in
      subst (All (λ (run : LiveRun). All (EndsBy longest run) run.segments)) (let empty : [] ≡ runs = cc in empty)
      (All-nil (λ (run : LiveRun). All (EndsBy longest run) run.segments))
  runs_end former longest track (own ∷ tracks) (times ∷ row) ticks runs is live scaled most =
      let offset = offset_of (known_run s (get_or s.sections place 0) track) origin times in
      let a = steps_of (track_run s (spot_of place track) offset times) _ ticks is in
      let b = steps_of (row_runs s place (track + 1) origin row) _ ticks a.then in
      let whole : a.value ∷ b.value ≡ ticks = (let h = b.then in cc) in
      let lives : periods.live_runs place (own ∷ tracks) (a.value ∷ b.value) ≡ Ok runs =
      ap (periods.live_runs place (own ∷ tracks)) whole ∙ live in
      let c = steps_of (periods.live_run (stretch_at place own) a.value) _ runs lives in
      let d = steps_of (periods.live_runs place tracks b.value) _ runs c.then in
      let all : c.value ∷ d.value ≡ runs = (let h = d.then in cc) in
      let r = run_of s (spot_of place track) offset times a.value a.first in
      let l = live_of (stretch_at place own) a.value c.value c.first in
      let most_here : periods.longest_behind former (a.value ∷ b.value) ≤ longest =
      subst (λ ts. periods.longest_behind former ts ≤ longest) (sym whole) most in
      let here = one_ends a.value c.value (stretch_at place own).segments longest l.segments l.scale l.offset
      (subst (λ (run : TickRun). 0 < run.scale) r.is (All-head IsScaled times row scaled))
      (let most_one = behind_longest (max former (periods.nanos_of a.value)) b.value in omega (arith, most_one, most_here)) in
      subst (All (λ (run : LiveRun). All (EndsBy longest run) run.segments)) all
      (All-cons (λ (run : LiveRun). All (EndsBy longest run) run.segments) c.value d.value here
      (runs_end (max former (periods.nanos_of a.value)) longest (track + 1) tracks row b.value d.value b.first d.first
      (All-tail IsScaled times row scaled) most_here))
    where
      bounded : (nanos scale longest : ℕ) → 0 < scale → div_ceil nanos scale ≤ longest → nanos ≤ longest * scale
      bounded nanos scale longest positive most =
          omega (arith, (div_ceil_times nanos scale positive).0, mul-le-mul_right scale most)

      at_most : (end offset last most : ℕ) → end - offset ≤ last → last * 10 ^ 9 ≤ most → (end - offset) * 10 ^ 9 ≤ most
      at_most end offset last most less over = omega (arith, less, over)

      one_ends : (ticks : TickRun) (run : LiveRun) (segments : List MediaSegment) (longest : ℕ)
          → run.segments ≡ periods.segments_from ticks.first ticks.durations segments → run.scale ≡ ticks.scale
          → run.offset ≡ Some ticks.offset → 0 < ticks.scale → periods.nanos_of ticks ≤ longest → All (EndsBy longest run) run.segments
      one_ends ticks run segments longest are scale offset positive most =
          let its_offset : unwrap_or run.offset 0 ≡ ticks.offset = ap (λ (o : Option ℕ). unwrap_or o 0) offset in
          let end = ticks.first + sum ticks.durations - ticks.offset in
          let over : end * 10 ^ 9 ≤ longest * run.scale = rw scale (bounded (end * 10 ^ 9) ticks.scale longest positive most) in
          subst (λ segments. All (EndsBy longest run) segments) (sym are)
          (λ i d within. let ends = ends_within ticks.first ticks.durations segments i d within in
          at_most _ _ end (longest * run.scale) (omega (arith, ends, its_offset)) over)

-- ---- Periods one after another

-- when the last one ends, behind what ends at a time
abbrev last_or : (former : ℕ) → List LivePeriod → ℕ
last_or former [] = former
last_or former (period ∷ listed) = last_or (end_of period) listed

last_is : (period : LivePeriod) (listed : List LivePeriod) → last_end (period ∷ listed) ≡ last_or (end_of period) listed
last_is period [] = refl
last_is period (next ∷ listed) =
    let e : length (period ∷ next ∷ listed) - 1 ≡ suc (length (next ∷ listed) - 1) = omega arith in
    ap (λ n. end_in (slice_get (period ∷ next ∷ listed) n)) e ∙ last_is next listed

abbrev EndsAt : (last : ℕ) → LivePeriod → Type 0
EndsAt last period = end_of period ≤ last

-- Periods that are all new
module _ (s : Snapshot) (none : s.periods ≡ []) where
  chain : (former place : ℕ) (sections : List ℕ) (runs : List TickRun) (listed : List LivePeriod)
      → periods.periods_from s former place sections runs ≡ Ok listed
      → (former ≤ last_or former listed) × All (EndsAt (last_or former listed)) listed
  chain former place [] runs listed is =
      (let empty : [] ≡ listed = cc in
      subst (λ ps. (former ≤ last_or former ps) × All (EndsAt (last_or former ps)) ps) empty (omega arith, All-nil (EndsAt former)))
  chain former place (number ∷ sections) runs listed is =
      let row = take (length s.tracks) runs in
      let rest = drop (length s.tracks) runs in
      let x = steps_of (periods.period_of s former number place row) _ listed is in
      let y = steps_of (periods.periods_from s (end_of x.value) (place + 1) sections rest) _ listed x.then in
      let whole : x.value ∷ y.value ≡ listed = (let h = y.then in cc) in
      let a = steps_of (extent_of (known_in number s.periods) former (periods.longest_of row)) _ x.value x.first in
      let b = steps_of (periods.runs_at s place row) _ x.value a.then in
      let same : record { number = number; start = a.value.start; longest = a.value.longest; runs = b.value } ≡ x.value =
      (let h = b.then in cc) in
      let new : within_limit former (periods.longest_of row) ≡ Ok a.value =
      ap (λ known. extent_of (known_in number known) former (periods.longest_of row)) (sym none) ∙ a.first in
      let start : x.value.start ≡ former = ap (λ (p : LivePeriod). p.start) (sym same)
      ∙ within_by former (periods.longest_of row) a.value (leb (10 ^ 19) (former + periods.longest_of row)) refl new in
      let later = chain (end_of x.value) (place + 1) sections rest y.value y.first in
      let last = last_or (end_of x.value) y.value in
      subst (λ ps. (former ≤ last_or former ps) × All (EndsAt (last_or former ps)) ps) whole
      (omega (arith, start, later.0), All-cons (EndsAt last) x.value y.value later.0 later.1)

all_end : (listed : List LivePeriod) → All (EndsAt (last_or 0 listed)) listed → All (EndsAt (last_end listed)) listed
all_end [] all = All-nil (EndsAt (last_end []))
all_end (period ∷ listed) all =
    subst (λ last. All (EndsAt last) (period ∷ listed)) (sym (last_is period listed)) all

-- ---- the first snapshot

starts_by_now : (now start : ℤ) (end : ℕ) → first_start now end ≡ Ok start → start ≤ℤ (now -ℤ pos end)
starts_by_now now start end is = by (int_lt (whole_millis (now -ℤ pos end)) (neg_ℤ (pos 12_212_553_600_000_000_000))) refl
  where
    by : (early : Bool) → int_lt (whole_millis (now -ℤ pos end)) (neg_ℤ (pos 12_212_553_600_000_000_000)) ≡ early
        → start ≤ℤ (now -ℤ pos end)
    by true early = absurd (let h : first_start now end ≡ Err Limit = rw early refl in cc)
    by false early =
        (let h : first_start now end ≡ Ok (whole_millis (now -ℤ pos end)) = rw early refl in
        let same : whole_millis (now -ℤ pos end) ≡ start = cc in
        subst (λ z. z ≤ℤ (now -ℤ pos end)) same (let near = millis_near (now -ℤ pos end) in omega (arith, ints, near.0)))

pub are_available : FirstListsAreAvailable
are_available tracks folder round new accepted =
    let here = sources tracks round.medias in
    let p = parts_of tracks folder None round new accepted in
    let s = snapshot folder None here round new p in
    let listed = listed_are folder None here round new p in
    let ends : All (EndsAt (last_end new.mpd.periods)) new.mpd.periods =
    subst (λ ps. All (EndsAt (last_end ps)) ps) (sym listed)
    (all_end p.listed (chain s refl (last_end []) 0 p.sections p.runs p.listed p.periods).1) in
    let rows = rows_are folder None here round new p in
    let begin : new.mpd.start ≤ℤ (round.now -ℤ pos (listed_by p.listed p.kept)) =
    subst (λ z. z ≤ℤ (round.now -ℤ pos (listed_by p.listed p.kept))) (ap (λ (m : LiveMpd). m.start) (sym p.mpd))
    (starts_by_now round.now p.start (listed_by p.listed p.kept) p.starts) in
    let target : new.mpd.target ≡ target_of p.kept = ap (λ (m : LiveMpd). m.target) p.mpd in
    let same : listed_by p.listed p.kept ≡ last_end new.mpd.periods + 2 * new.mpd.target * 10 ^ 9 =
    ap (λ t. last_end p.listed + 2 * t * 10 ^ 9) (sym target)
    ∙ ap (λ ps. last_end ps + 2 * new.mpd.target * 10 ^ 9) (sym listed) in
    record {
      elapsed = last_end new.mpd.periods;
      room = subst (λ n. new.mpd.start ≤ℤ (round.now -ℤ pos n)) same begin;
      begun = λ i d within. (let end = ends i d within in omega (arith, end));
      over = λ i d within.
          (let end = ends i d within in
          let has = rows i d within in
          let period = get_or new.mpd.periods i d in
          runs_end s has.place (origin_of has.row) 0 (last_end new.mpd.periods - period.start) 0 s.tracks has.row has.ticks period.runs
          has.is.ticked has.is.live (begun_scaled folder round.files has.place 0 s.tracks has.row has.is.read)
          (let long = has.is.long in omega (arith, end, long)));
    }
