-- The runs of snapshots with their files' times can be written and read.
use Rattle.hls_follow.specs.TimedPeriods as periods
use Rattle.layer_faults.specs.declared.times.FileFault.TheVariants as file
use Rattle.std.proofs.Common.{◌≡◌, ℕ, zero, suc, ◌+◌, ◌-◌, ◌*◌, ◌<◌, ◌≤◌, ◌^◌, Bool, true, false, leb, ltb, List, [], ◌∷◌, map, length, sum}
use Rattle.std.proofs.Common.{All, Option, Some, None, Result, Ok, Err, IfSome, slice_get, get_or, refl, sym, ◌∙◌, ap, subst, arith}
use Rattle.std.proofs.{lemmas.Bool.{leb-false, or_parts}, lemmas.List.Elements.{All-cons, All-head, All-nil, All-tail}}
use Rattle.std.proofs.lemmas.List.Sums.{sum_by-cons}
use Rattle.std.specs.{List.AllByRecursion}
use Rattle.bridge_io.specs.Outside.{Files}
use Rattle.bridge_io.proofs.AndThen.{steps_of}
use Rattle.url_parts.specs.declared.address.Part.{Part}
use Rattle.hls_media.specs.declared.media.MediaSegment.{MediaSegment}
use Rattle.dash_writer.specs.{Live.{first_time, part_of}, declared.live.LivePeriod.LivePeriod, declared.live.LiveRun.LiveRun}
use Rattle.dash_writer.specs.{declared.live.LiveSegment.LiveSegment, declared.timed.TickRun.TickRun}
use Rattle.fragment_times.specs.{declared.fault.SegmentSpot.SegmentSpot, declared.fault.TimesFault.TheVariants.Segment}
use Rattle.fragment_times.specs.{declared.lasting.Clock.Clock, declared.origin.Origin.Origin, declared.times.SegmentTimes.SegmentTimes}
use Rattle.fragment_times.specs.Durations.{begun_at, is_late, last_ticks_of, next_begun, ticks_behind, ticks_from, ticks_of}
use Rattle.fragment_times.specs.{Origins.first_of, Parts.scale_at}
use Rattle.hls_follow.specs.OwnTimes.{Snapshot, map_in, map_of, of_live, row_times, run_at, scale_of, track_times}
use Rattle.hls_follow.specs.{Stretches.{Stretch, stretch_at}, Ticks.{clock_with, last_ticks, offset_of, row_runs}}
use Rattle.hls_follow.specs.{Ticks.{spot_of, stretch_in, ticks_in, track_run}, TimedHistories.BeginsByOffset, Times.last_in}
use Rattle.hls_follow.proofs.{CellFacts.{live_of, run_of, times_of}, Cells.known_run, OwnListing.{behind_is, times_ok}}
use Rattle.laws_of_mpds.proofs.ReadPlain.{IsPlainSegment, map_own, range_readable}
use Rattle.laws_of_mpds.specs.{Contents.IsOwnPart, Told.IsShort}
use Rattle.laws_of_jobs.proofs.{Periods.IsReadRun, Scales.scale_is}

ok_same : {X E : Type 0} (a b : X) → ◌≡◌ {A = Result X E} (Ok a) (Ok b) → a ≡ b
ok_same a b is = cc

-- ---- durations

-- each one lasts, and the last one ends below 2^63
record AreShort (first : ℕ) (durations : List ℕ) : Type 0 where
  lasting : AllByRecursion (λ d. 0 < d) durations
  end : first + sum durations < 2 ^ 63

abbrev Taken : {A B : Type 0} → (A → B) → Type 0
Taken {A} {B} f = A

abbrev Begun : Type 0
Begun = Taken next_begun

last_is : (clock : Clock) (last : ℕ) (begun : Begun) (ticks : ℕ) → 0 < last → last_ticks_of clock last begun ≡ Ok ticks
    → (0 < ticks) × (begun.start + ticks < 2 ^ 63)
last_is clock last begun ticks some is = by (is_late clock (begun.start + last)) refl
  where
    by : (b : Bool) → is_late clock (begun.start + last) ≡ b → (0 < ticks) × (begun.start + ticks < 2 ^ 63)
    by true late = absurd (let h : last_ticks_of clock last begun ≡ Err (Segment begun.at file.Range) = rw late refl in cc)
    by false late =
        (let h : last_ticks_of clock last begun ≡ Ok last = rw late refl in
        let same : last ≡ ticks = cc in
        let early = leb-false (2 ^ 63) (begun.start + last) (or_parts (leb (2 ^ 63) (begun.start + last)) _ late).0 in
        (omega (arith, same, some), omega (arith, same, early)))

short_from : (clock : Clock) (last : ℕ) (begun : Begun) (starts durations : List ℕ) → 0 < last
    → ticks_from clock last begun starts ≡ Ok durations → AreShort begun.start durations
short_from clock last begun [] durations some is =
    let x = steps_of (last_ticks_of clock last begun) _ durations is in
    let whole : x.value ∷ [] ≡ durations = (let h = x.then in cc) in
    let one = last_is clock last begun x.value some x.first in
    let e : sum (x.value ∷ []) ≡ x.value + sum [] = sum_by-cons (λ n. n) x.value [] in
    let none : sum [] ≡ 0 = refl in
    subst (AreShort begun.start) whole (record { lasting = (one.0, tt); end = omega (arith, e, none, one.1) })
short_from clock last begun (start ∷ starts) durations some is =
    let x = steps_of (ticks_behind clock.scale begun.start (next_begun begun start)) _ durations is in
    let y = steps_of (ticks_from clock last (next_begun begun start) starts) _ durations x.then in
    let whole : x.value ∷ y.value ≡ durations = (let h = y.then in cc) in
    let later = short_from clock last (next_begun begun start) starts y.value some y.first in
    let next : begun.start + x.value ≡ start = behind_is clock.scale begun.start (next_begun begun start) x.value x.first in
    let e : sum (x.value ∷ y.value) ≡ x.value + sum y.value = sum_by-cons (λ n. n) x.value y.value in
    subst (AreShort begun.start) whole (record {
      lasting = (positive clock.scale begun.start (next_begun begun start) x.value x.first, later.lasting);
      end = omega (arith, e, next, later.end);
    })
  where
    positive : (scale former : ℕ) (begun : Begun) (ticks : ℕ) → ticks_behind scale former begun ≡ Ok ticks → 0 < ticks
    positive scale former begun ticks is = by (leb begun.start former) (ltb (1000000 * scale) (begun.start - former)) refl refl
      where
        by : (a b : Bool) → leb begun.start former ≡ a → ltb (1000000 * scale) (begun.start - former) ≡ b → 0 < ticks
        by true b one two = absurd (let h : ticks_behind scale former begun ≡ Err (Segment begun.at file.Order) = rw one refl in cc)
        by false true one two =
            absurd (let h : ticks_behind scale former begun ≡ Err (Segment begun.at file.Range) = rw (one, two) refl in cc)
        by false false one two =
            (let h : ticks_behind scale former begun ≡ Ok (begun.start - former) = rw (one, two) refl in
            let same : begun.start - former ≡ ticks = cc in
            let less = leb-false begun.start former one in
            omega (arith, same, less))

short_of : (at : SegmentSpot) (clock : Clock) (last : ℕ) (starts durations : List ℕ) → 0 < last
    → ticks_of at clock last starts ≡ Ok durations
    → AreShort (get_or starts 0 0) durations
short_of at clock last [] durations some is =
    subst (AreShort 0) (let none : [] ≡ durations = cc in none) (record { lasting = tt; end = omega arith })
short_of at clock last (start ∷ starts) durations some is = short_from clock last (begun_at at start) starts durations some is

-- ---- segments

module _ (P : ℕ → Type 0) where
  durations_all : (time : ℕ) (durations : List ℕ) (segments : List MediaSegment) → AllByRecursion P durations
      → AllByRecursion P (map (λ (s : LiveSegment). s.duration) (periods.segments_from time durations segments))
  durations_all time durations [] all = tt
  durations_all time [] (s ∷ segments) all = tt
  durations_all time (d ∷ durations) (s ∷ segments) all = (all.0, durations_all (time + d) durations segments all.1)

all_short : (first : ℕ) (durations : List ℕ) → first + sum durations < 2 ^ 63 → AllByRecursion IsShort durations
all_short first [] end = tt
all_short first (d ∷ durations) end =
    let e : sum (d ∷ durations) ≡ d + sum durations = sum_by-cons (λ n. n) d durations in
    (omega (arith, end, e), all_short (first + d) durations (omega (arith, end, e)))

own_files : (time : ℕ) (durations : List ℕ) (segments : List MediaSegment) → All IsPlainSegment segments
    → AllByRecursion IsOwnPart (map part_of (periods.segments_from time durations segments))
own_files time durations [] all = tt
own_files time [] (s ∷ segments) all = tt
own_files time (d ∷ durations) (s ∷ segments) all =
    let plain = All-head IsPlainSegment s segments all in (
      record { address = plain.addresses.own; readable = range_readable s.range plain.bounded.range },
      own_files (time + d) durations segments (All-tail IsPlainSegment s segments all),
    )

few_from : (time : ℕ) (durations : List ℕ) (segments : List MediaSegment) → AllByRecursion (λ d. 0 < d) durations
    → length (periods.segments_from time durations segments) ≤ sum durations
few_from time durations [] all = omega arith
few_from time [] (s ∷ segments) all = omega arith
few_from time (d ∷ durations) (s ∷ segments) all =
    let e : sum (d ∷ durations) ≡ d + sum durations = sum_by-cons (λ n. n) d durations in
    let more : length (periods.segments_from time (d ∷ durations) (s ∷ segments)) ≡ suc (length (periods.segments_from (time + d) durations
    segments)) = refl in
    omega (arith, all.0, e, more, few_from (time + d) durations segments all.1)

first_from : (time : ℕ) (durations : List ℕ) (segments : List MediaSegment)
    → first_time (periods.segments_from time durations segments) ≤ time
first_from time durations [] = omega arith
first_from time [] (s ∷ segments) = omega arith
first_from time (d ∷ durations) (s ∷ segments) = omega arith

own_map : (segments : List MediaSegment) (initialization : Part) → All IsPlainSegment segments → map_of segments ≡ Ok initialization
    → IsOwnPart initialization
own_map [] initialization all is = absurd (cc)
own_map (s ∷ segments) initialization all is =
    let plain = All-head IsPlainSegment s segments all in
    let same : s.map ≡ Some initialization = by s.map is in
    subst (λ (map : Option Part). IfSome map IsOwnPart) same (map_own s.map plain.bounded.map plain.addresses.initialization)
  where
    by : (o : Option Part) → map_in o ≡ Ok initialization → o ≡ Some initialization
    by (Some p) is = (let same : p ≡ initialization = cc in ap Some same)
    by None is = absurd (cc)

-- ---- a track in a section

-- the segments of a track in a section are those of playlists that were read
abbrev pub IsPlainStretch : Stretch → Type 0
IsPlainStretch st = All IsPlainSegment st.segments

abbrev pub ArePlain : List Stretch → Type 0
ArePlain own = All IsPlainStretch own

plain_at : (own : List Stretch) (place : ℕ) → ArePlain own → IsPlainStretch (stretch_at place own)
plain_at [] place all = All-nil IsPlainSegment
plain_at (st ∷ own) zero all = All-head IsPlainStretch st own all
plain_at (st ∷ own) (suc place) all = plain_at own place (All-tail IsPlainStretch st own all)

abbrev KnownRead : Option LiveRun → Type 0
KnownRead known = IfSome known IsReadRun

some_last : (segments : List MediaSegment) (scale : ℕ) → 0 < last_ticks segments scale
some_last segments scale = by (last_in segments)
  where
    by : (o : Option MediaSegment) → 0 < ticks_in o scale
    by None = omega arith
    by (Some s) = omega arith

-- at least one tick a second, in a number of at most 64 digits
record IsFitScale (scale : ℕ) : Type 0 where
  some : 0 < scale
  short : IsShort scale

scale_read : (folder : List ℕ) (files : Files) (known : Option LiveRun) (stretch : Stretch) (scale : ℕ) → KnownRead known
    → scale_of folder files known stretch ≡ Ok scale → IsFitScale scale
scale_read folder files None stretch scale known is =
    let m = steps_of (of_live (map_of stretch.segments)) _ scale is in
    let own = scale_is folder files m.value scale (times_ok (scale_at folder files m.value) scale m.then) in
    record { some = own.positive; short = omega (arith, own.small) }
scale_read folder files (Some run) stretch scale known is =
    (let same : run.scale ≡ scale = cc in
    subst IsFitScale same (record { some = known.readable.some; short = known.readable.scale }))

module _ (s : Snapshot) (files : Files) (at : SegmentSpot) (offset : ℕ) (known : Option LiveRun) (stretch : Stretch) (times : SegmentTimes)
    (ticks : TickRun) (run : LiveRun) where
  run_read : KnownRead known → IsPlainStretch stretch → track_times s.folder files known stretch ≡ Ok times
      → track_run s at offset times ≡ Ok ticks → periods.live_run stretch ticks ≡ Ok run → BeginsByOffset run → IsReadRun run
  run_read known_read plain timed ticked live begins =
      let t = times_of s.folder files known stretch times timed in
      let r = run_of s at offset times ticks ticked in
      let l = live_of stretch ticks run live in
      let last = last_ticks (stretch_in s at).segments times.scale in
      let short = short_of at (clock_with times.scale offset) last times.starts r.durations
      (some_last (stretch_in s at).segments times.scale) r.ticks in
      let scale = scale_read s.folder files known stretch times.scale known_read t.scale in
      let first = first_of times in
      let are : run.segments ≡ periods.segments_from first r.durations stretch.segments = l.segments
      ∙ ap (λ (x : TickRun). periods.segments_from x.first x.durations stretch.segments) (sym r.is) in
      let its_scale : times.scale ≡ run.scale = sym (l.scale ∙ ap (λ (x : TickRun). x.scale) (sym r.is)) in
      let its_offset : Some offset ≡ run.offset = sym (l.offset ∙ ap (λ (x : TickRun). Some x.offset) (sym r.is)) in
      let low : offset < 2 ^ 63 = omega (arith, r.begins, short.end) in
      let here : first < 2 ^ 63 = omega (arith, short.end) in
      let many : length (periods.segments_from first r.durations stretch.segments) ≤ sum r.durations =
      few_from first r.durations stretch.segments short.lasting in
      let begin = first_from first r.durations stretch.segments in
      record {
        readable = record {
          initialization = own_map stretch.segments run.initialization plain l.map;
          parts = subst (λ segments. AllByRecursion IsOwnPart (map part_of segments)) (sym are)
              (own_files first r.durations stretch.segments plain);
          some = subst (λ n. 0 < n) its_scale scale.some;
          scale = subst IsShort its_scale scale.short;
          offset = subst (λ (o : Option ℕ). IfSome o IsShort) its_offset (short_number offset low);
          durations = subst (λ segments. AllByRecursion IsShort (map (λ (s : LiveSegment). s.duration) segments)) (sym are)
              (durations_all IsShort first r.durations stretch.segments (all_short first r.durations short.end));
          first = subst (λ segments. IsShort (first_time segments)) (sym are) (omega (arith, begin, here));
          few = subst (λ segments. IsShort (length segments)) (sym are) (omega (arith, many, short.end));
        };
        begins = begins;
        lasting = subst (λ segments. AllByRecursion (λ d. 0 < d) (map (λ (s : LiveSegment). s.duration) segments)) (sym are)
            (durations_all (λ d. 0 < d) first r.durations stretch.segments short.lasting);
      }
    where
      short_number : (n : ℕ) → n < 2 ^ 63 → IsShort n
      short_number n less = omega (arith, less)

-- ---- the tracks in a section

module _ (s : Snapshot) (files : Files) (place : ℕ) (origin : Origin) (known : Option LivePeriod)
    (known_read : IfSome known (λ (q : LivePeriod). All IsReadRun q.runs)) where
  at_track : (o : Option LivePeriod) (track : ℕ) → IfSome o (λ (q : LivePeriod). All IsReadRun q.runs) → KnownRead (run_at o track)
  at_track None track read = tt
  at_track (Some q) track read = in_runs q.runs track read
    where
      in_runs : (runs : List LiveRun) (track : ℕ) → All IsReadRun runs → KnownRead (slice_get runs track)
      in_runs [] track all = tt
      in_runs (run ∷ runs) zero all = All-head IsReadRun run runs all
      in_runs (run ∷ runs) (suc track) all = in_runs runs track (All-tail IsReadRun run runs all)

  pub runs_read : (track : ℕ) (tracks : List (List Stretch)) (row : List SegmentTimes) (ticks : List TickRun) (runs : List LiveRun)
      → row_times s.folder files known place track tracks ≡ Ok row → row_runs s place track origin row ≡ Ok ticks
      → periods.live_runs place tracks ticks ≡ Ok runs → All ArePlain tracks → All BeginsByOffset runs
      → (length runs ≡ length tracks) × All IsReadRun runs
  runs_read track [] row ticks runs timed ticked live plain begin =
      (let no_row : [] ≡ row = ok_same _ _ timed in
      let h : row_runs s place track origin [] ≡ Ok ticks = ap (row_runs s place track origin) no_row ∙ ticked in
      let no_ticks : [] ≡ ticks = ok_same _ _ h in
      let l : periods.live_runs place [] [] ≡ Ok runs = ap (periods.live_runs place []) no_ticks ∙ live in
      let none : [] ≡ runs = ok_same _ _ l in (ap length (sym none), subst (All IsReadRun) none (All-nil IsReadRun)))
  runs_read track (own ∷ tracks) row ticks runs timed ticked live plain begin =
      let offset = offset_of (known_run s (get_or s.sections place 0) track) origin in
      let a = steps_of (track_times s.folder files (run_at known track) (stretch_at place own)) _ row timed in
      let b = steps_of (row_times s.folder files known place (track + 1) tracks) _ row a.then in
      let whole_row : a.value ∷ b.value ≡ row = ok_same _ _ b.then in
      let ticked_here : row_runs s place track origin (a.value ∷ b.value) ≡ Ok ticks =
      ap (row_runs s place track origin) whole_row ∙ ticked in
      let c = steps_of (track_run s (spot_of place track) (offset a.value) a.value) _ ticks ticked_here in
      let d = steps_of (row_runs s place (track + 1) origin b.value) _ ticks c.then in
      let whole_ticks : c.value ∷ d.value ≡ ticks = ok_same _ _ d.then in
      let live_here : periods.live_runs place (own ∷ tracks) (c.value ∷ d.value) ≡ Ok runs =
      ap (periods.live_runs place (own ∷ tracks)) whole_ticks ∙ live in
      let e = steps_of (periods.live_run (stretch_at place own) c.value) _ runs live_here in
      let f = steps_of (periods.live_runs place tracks d.value) _ runs e.then in
      let whole : e.value ∷ f.value ≡ runs = ok_same _ _ f.then in
      let begins = subst (All BeginsByOffset) (sym whole) begin in
      let one = run_read s files (spot_of place track) (offset a.value) (run_at known track) (stretch_at place own) a.value c.value e.value
      (at_track known track known_read) (plain_at own place (All-head ArePlain own tracks plain)) a.first c.first e.first
      (All-head BeginsByOffset e.value f.value begins) in
      let others = runs_read (track + 1) tracks b.value d.value f.value b.first d.first f.first (All-tail ArePlain own tracks plain)
      (All-tail BeginsByOffset e.value f.value begins) in (
        ap length (sym whole) ∙ ap suc others.0,
        subst (All IsReadRun) whole (All-cons IsReadRun e.value f.value one others.1),
      )
