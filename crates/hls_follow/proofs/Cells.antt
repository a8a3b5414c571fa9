-- A track of a snapshot, section by section: what is read, counted and listed of it.
use Rattle.hls_follow.specs.TimedPeriods as periods
use Rattle.std.proofs.Common.{◌≡◌, ℕ, zero, suc, ◌+◌, ◌^◌, ◌<◌, ◌≤◌, max, leb, Bool, true, false, List, [], ◌∷◌, ◌++◌, length, map, take, drop, get_or, slice_get, Option, Some, None}
use Rattle.std.proofs.Common.{All, Ok, Err, refl, sym, ◌∙◌, ap, subst, arith, unwrap_or}
use Rattle.layer_faults.specs.declared.live.LiveFault.TheVariants.{Limit}
use Rattle.std.proofs.{lemmas.Bool.leb-false, lemmas.List.Elements.{All-nil, All-cons}, Math.Seq.{drop-append_seam, take-append_seam}}
use Rattle.bridge_io.specs.{Outside.Files}
use Rattle.bridge_io.proofs.AndThen.{steps_of}
use Rattle.dash_writer.specs.{declared.live.LivePeriod.LivePeriod, declared.live.LiveRun.LiveRun, declared.timed.TickRun.TickRun}
use Rattle.fragment_times.specs.{declared.origin.Origin.Origin, declared.times.SegmentTimes.SegmentTimes, Origins.origin_of}
use Rattle.hls_follow.specs.declared.periods.Extent.{Extent}
use Rattle.hls_follow.specs.OwnTimes.{Snapshot, period_in, row_times, run_at, section_times, times_from, track_times}
use Rattle.hls_follow.specs.{Periods.{end_of, extent_of, known_in, within_limit}, Stretches.{Stretch, stretch_at}}
use Rattle.hls_follow.specs.Ticks.{offset_of, row_runs, runs_from, section_runs, spot_of, track_run}
use Rattle.hls_follow.specs.{TimedListed.{OwnPlaced, own_placed_as, own_placed_of}, TimedRounds.{times_over}}
use Rattle.hls_follow.proofs.Staying.{starts_by}

at_front : {X : Type 0} (xs ys : List X) (i : ℕ) (x : X) → slice_get xs i ≡ Some x → slice_get (xs ++ ys) i ≡ Some x
at_front [] ys i x is = absurd (cc)
at_front (y ∷ xs) ys zero x is = is
at_front (y ∷ xs) ys (suc i) x is = at_front xs ys i x is

-- ---- the tracks of a section

record HasTimes (folder : List ℕ) (files : Files) (known : Option LivePeriod) (place track p : ℕ) (own : List Stretch)
    (row : List SegmentTimes) : Type 0 where
  times : SegmentTimes
  at : slice_get row p ≡ Some times
  is : track_times folder files (run_at known (track + p)) (stretch_at place own) ≡ Ok times

times_at : (folder : List ℕ) (files : Files) (known : Option LivePeriod) (place track p : ℕ) (tracks : List (List Stretch)) (own : List Stretch)
    (row : List SegmentTimes) → row_times folder files known place track tracks ≡ Ok row → slice_get tracks p ≡ Some own
    → HasTimes folder files known place track p own row
times_at folder files known place track p [] own row is at = absurd (cc)
times_at folder files known place track p (first ∷ tracks) own row is at =
    let x = steps_of (track_times folder files (run_at known track) (stretch_at place first)) _ row is in
    let y = steps_of (row_times folder files known place (track + 1) tracks) _ row x.then in
    let whole : x.value ∷ y.value ≡ row = (let h = y.then in cc) in
    subst (HasTimes folder files known place track p own) whole (by p x.value y.value at x.first
    (λ p at. times_at folder files known place (track + 1) p tracks own y.value y.first at))
  where
    by : (p : ℕ) (times : SegmentTimes) (row : List SegmentTimes) → slice_get (first ∷ tracks) p ≡ Some own
        → track_times folder files (run_at known track) (stretch_at place first) ≡ Ok times
        → ((p : ℕ) → slice_get tracks p ≡ Some own → HasTimes folder files known place (track + 1) p own row)
        → HasTimes folder files known place track p own (times ∷ row)
    by zero times row at is later = record {
      times = times;
      at = refl;
      is = (let same : first ≡ own = cc in let e : track + 0 ≡ track = omega arith in rw (e, ← same) is);
    }
    by (suc p) times row at is later =
        (let h = later p at in let e : track + suc p ≡ track + 1 + p = omega arith in
        record { times = h.times; at = h.at; is = rw e h.is })

pub times_many : (folder : List ℕ) (files : Files) (known : Option LivePeriod) (place track : ℕ) (tracks : List (List Stretch))
    (row : List SegmentTimes) → row_times folder files known place track tracks ≡ Ok row → length row ≡ length tracks
times_many folder files known place track [] row is = ap length (let none : [] ≡ row = cc in sym none)
times_many folder files known place track (first ∷ tracks) row is =
    let x = steps_of (track_times folder files (run_at known track) (stretch_at place first)) _ row is in
    let y = steps_of (row_times folder files known place (track + 1) tracks) _ row x.then in
    let whole : x.value ∷ y.value ≡ row = (let h = y.then in cc) in
    ap length (sym whole) ∙ ap suc (times_many folder files known place (track + 1) tracks y.value y.first)

module _ (s : Snapshot) where
  -- what is known of a track in a section
  abbrev pub known_run : (number track : ℕ) → Option LiveRun
  known_run number track = run_at (period_in number s.periods) track

  record HasTicks (place track p : ℕ) (origin : Origin) (times : SegmentTimes) (row : List TickRun) : Type 0 where
    run : TickRun
    at : slice_get row p ≡ Some run
    is : track_run s (spot_of place (track + p)) (offset_of (known_run (get_or s.sections place 0) (track + p)) origin times) times ≡ Ok run

  ticks_at : (place track p : ℕ) (origin : Origin) (times : List SegmentTimes) (own : SegmentTimes) (row : List TickRun)
      → row_runs s place track origin times ≡ Ok row → slice_get times p ≡ Some own → HasTicks place track p origin own row
  ticks_at place track p origin [] own row is at = absurd (cc)
  ticks_at place track p origin (first ∷ times) own row is at =
      let known = known_run (get_or s.sections place 0) track in
      let x = steps_of (track_run s (spot_of place track) (offset_of known origin first) first) _ row is in
      let y = steps_of (row_runs s place (track + 1) origin times) _ row x.then in
      let whole : x.value ∷ y.value ≡ row = (let h = y.then in cc) in
      subst (HasTicks place track p origin own) whole (by p x.value y.value at x.first
      (λ p at. ticks_at place (track + 1) p origin times own y.value y.first at))
    where
      by : (p : ℕ) (run : TickRun) (row : List TickRun) → slice_get (first ∷ times) p ≡ Some own
          → track_run s (spot_of place track) (offset_of (known_run (get_or s.sections place 0) track) origin first) first ≡ Ok run
          → ((p : ℕ) → slice_get times p ≡ Some own → HasTicks place (track + 1) p origin own row)
          → HasTicks place track p origin own (run ∷ row)
      by zero run row at is later = record {
        run = run;
        at = refl;
        is = (let same : first ≡ own = cc in let e : track + 0 ≡ track = omega arith in rw (e, ← same) is);
      }
      by (suc p) run row at is later =
          (let h = later p at in let e : track + suc p ≡ track + 1 + p = omega arith in
          record { run = h.run; at = h.at; is = rw e h.is })

  ticks_many : (place track : ℕ) (origin : Origin) (times : List SegmentTimes) (row : List TickRun)
      → row_runs s place track origin times ≡ Ok row → length row ≡ length times
  ticks_many place track origin [] row is = ap length (let none : [] ≡ row = cc in sym none)
  ticks_many place track origin (first ∷ times) row is =
      let known = known_run (get_or s.sections place 0) track in
      let x = steps_of (track_run s (spot_of place track) (offset_of known origin first) first) _ row is in
      let y = steps_of (row_runs s place (track + 1) origin times) _ row x.then in
      let whole : x.value ∷ y.value ≡ row = (let h = y.then in cc) in
      ap length (sym whole) ∙ ap suc (ticks_many place (track + 1) origin times y.value y.first)

record HasLive (place p : ℕ) (own : List Stretch) (run : TickRun) (runs : List LiveRun) : Type 0 where
  live : LiveRun
  at : slice_get runs p ≡ Some live
  is : periods.live_run (stretch_at place own) run ≡ Ok live

live_at : (place p : ℕ) (tracks : List (List Stretch)) (row : List TickRun) (own : List Stretch) (run : TickRun) (runs : List LiveRun)
    → periods.live_runs place tracks row ≡ Ok runs → slice_get tracks p ≡ Some own → slice_get row p ≡ Some run
    → HasLive place p own run runs
live_at place p tracks [] own run runs is one two = absurd (cc)
live_at place p [] (r ∷ row) own run runs is one two = absurd (cc)
live_at place p (first ∷ tracks) (r ∷ row) own run runs is one two =
    let x = steps_of (periods.live_run (stretch_at place first) r) _ runs is in
    let y = steps_of (periods.live_runs place tracks row) _ runs x.then in
    let whole : x.value ∷ y.value ≡ runs = (let h = y.then in cc) in
    subst (HasLive place p own run) whole (by p x.value y.value one two x.first
    (λ p one two. live_at place p tracks row own run y.value y.first one two))
  where
    by : (p : ℕ) (live : LiveRun) (runs : List LiveRun) → slice_get (first ∷ tracks) p ≡ Some own → slice_get (r ∷ row) p ≡ Some run
        → periods.live_run (stretch_at place first) r ≡ Ok live
        → ((p : ℕ) → slice_get tracks p ≡ Some own → slice_get row p ≡ Some run → HasLive place p own run runs)
        → HasLive place p own run (live ∷ runs)
    by zero live runs one two is later = record {
      live = live;
      at = refl;
      is = (let same : first ≡ own = cc in let ticks : r ≡ run = cc in rw (← same, ← ticks) is);
    }
    by (suc p) live runs one two is later = (let h = later p one two in record { live = h.live; at = h.at; is = h.is })

-- ---- a track over all sections

-- a section of a track, with the times of all tracks there
pub record Cell : Type 0 where
  pub place : ℕ
  pub stretch : Stretch
  pub row : List SegmentTimes
  pub ticks : List TickRun
  pub times : SegmentTimes
  pub run : TickRun
  pub live : LiveRun
  pub period : LivePeriod

-- the times of a track over its sections
abbrev pub starts_of : List Cell → List ℕ
starts_of [] = []
starts_of (c ∷ cells) = c.times.starts ++ starts_of cells

-- its segments in the MPD
abbrev pub placed_by : List Cell → List OwnPlaced
placed_by [] = []
placed_by (c ∷ cells) = map (own_placed_as c.period c.live) c.live.segments ++ placed_by cells

-- the stretches of a track from a place on
abbrev pub AreAt : (own : List Stretch) (place : ℕ) (rest : List Stretch) → Type 0
AreAt own place rest = (i : ℕ) → slice_get own (place + i) ≡ slice_get rest i

next_at : (own rest : List Stretch) (first : Stretch) (place : ℕ) → AreAt own place (first ∷ rest) → AreAt own (place + 1) rest
next_at own rest first place are i =
    let e : place + 1 + i ≡ place + suc i = omega arith in
    ap (slice_get own) e ∙ are (suc i)

-- all tracks in a section
pub record IsRow (s : Snapshot) (files : Files) (place : ℕ) (row : List SegmentTimes) (ticks : List TickRun) (period : LivePeriod)
    : Type 0 where
  pub read : section_times s files (period_in (get_or s.sections place 0) s.periods) place ≡ Ok row
  pub ticked : section_runs s place row ≡ Ok ticks
  pub live : periods.live_runs place s.tracks ticks ≡ Ok period.runs
  pub early : period.start < 10 ^ 19
  pub long : periods.longest_of ticks ≤ period.longest

-- a Period begins within its limit
early_by : (start longest : ℕ) (extent : Extent) (late : Bool) → leb (10 ^ 19) (start + longest) ≡ late
    → within_limit start longest ≡ Ok extent → (extent.start < 10 ^ 19) × (extent.longest ≡ longest)
early_by start longest extent true late is = absurd (let h : within_limit start longest ≡ Err Limit = rw late refl in cc)
early_by start longest extent false late is =
    let h : within_limit start longest ≡ Ok (record { start = start; longest = longest }) = rw late refl in
    let same : record { start = start; longest = longest } ≡ extent = cc in
    let less = leb-false (10 ^ 19) (start + longest) late in
    subst (λ (e : Extent). (e.start < 10 ^ 19) × (e.longest ≡ longest)) same (omega (arith, less), refl)

early_of : (known : Option Extent) (former longest : ℕ) (extent : Extent) → extent_of known former longest ≡ Ok extent
    → (extent.start < 10 ^ 19) × (longest ≤ extent.longest)
early_of None former longest extent is = let e = early_by former longest extent _ refl is in (e.0, omega (arith, e.1))
early_of (Some known) former longest extent is =
    let e = early_by known.start (max known.longest longest) extent _ refl is in (e.0, omega (arith, e.1))

module _ (s : Snapshot) (files : Files) (p : ℕ) where
  -- a section that is listed again keeps its start
  abbrev pub Starts : LivePeriod → Type 0
  Starts period = (e : Extent) → known_in period.number s.periods ≡ Some e → period.start ≡ e.start

  pub record IsCell (c : Cell) : Type 0 where
    pub row : IsRow s files c.place c.row c.ticks c.period
    pub start : Starts c.period
    pub numbered : c.period.number ≡ get_or s.sections c.place 0
    pub times : track_times s.folder files (known_run s c.period.number p) c.stretch ≡ Ok c.times
    pub run : track_run s (spot_of c.place p) (offset_of (known_run s c.period.number p) (origin_of c.row) c.times) c.times ≡ Ok c.run
    pub live : periods.live_run c.stretch c.run ≡ Ok c.live

  cell_is : (c : Cell) (number : ℕ) (own : List Stretch) → c.period.number ≡ number → get_or s.sections c.place 0 ≡ number
      → stretch_at c.place own ≡ c.stretch
      → track_times s.folder files (run_at (period_in number s.periods) (0 + p)) (stretch_at c.place own) ≡ Ok c.times
      → track_run s (spot_of c.place (0 + p))
      (offset_of (known_run s (get_or s.sections c.place 0) (0 + p)) (origin_of c.row) c.times) c.times ≡ Ok c.run
      → periods.live_run (stretch_at c.place own) c.run ≡ Ok c.live → Starts c.period → IsRow s files c.place c.row c.ticks c.period → IsCell c
  cell_is c number own named here stretch times run live start row =
      let e : 0 + p ≡ p = omega arith in
      let number_is : number ≡ c.period.number = sym named in
      let section_is : get_or s.sections c.place 0 ≡ c.period.number = here ∙ number_is in
      record {
        row = row;
        start = start;
        numbered = sym section_is;
        times = subst (λ n. track_times s.folder files (known_run s n p) c.stretch ≡ Ok c.times) number_is
            (subst (λ st. track_times s.folder files (known_run s number p) st ≡ Ok c.times) stretch
            (subst (λ q. track_times s.folder files (known_run s number q) (stretch_at c.place own) ≡ Ok c.times) e times));
        run = subst (λ n. track_run s (spot_of c.place p) (offset_of (known_run s n p) (origin_of c.row) c.times) c.times ≡ Ok c.run)
            section_is (subst (λ q. track_run s (spot_of c.place q)
            (offset_of (known_run s (get_or s.sections c.place 0) q) (origin_of c.row) c.times) c.times ≡ Ok c.run) e run);
        live = subst (λ st. periods.live_run st c.run ≡ Ok c.live) stretch live;
      }

  pub record IsColumn (sections : List ℕ) (times : List SegmentTimes) (listed : List LivePeriod) (rest : List Stretch) : Type 0 where
    pub cells : List Cell
    pub each : All IsCell cells
    pub stretches : map (λ (c : Cell). c.stretch) cells ≡ rest
    pub numbers : map (λ (c : Cell). c.period.number) cells ≡ sections
    pub periods : map (λ (c : Cell). c.period) cells ≡ listed
    pub starts : times_over (length sections) (length s.tracks) p times ≡ starts_of cells
    pub placed : own_placed_of p listed ≡ placed_by cells

  -- the numbers of the sections from a place on
  abbrev AreNumbers : (place : ℕ) → List ℕ → Type 0
  AreNumbers place sections = (i : ℕ) → i < length sections → get_or s.sections (place + i) 0 ≡ get_or sections i 0

  pub column : (former place : ℕ) (sections : List ℕ) (times : List SegmentTimes) (runs : List TickRun) (listed : List LivePeriod)
      (own rest : List Stretch) → times_from s files place sections ≡ Ok times → runs_from s place sections times ≡ Ok runs
      → periods.periods_from s former place sections runs ≡ Ok listed → slice_get s.tracks p ≡ Some own → AreAt own place rest
      → length rest ≡ length sections → AreNumbers place sections → IsColumn sections times listed rest
  column former place [] times runs listed own [] read ticked are at same many numbers = record {
    cells = [];
    each = All-nil IsCell;
    stretches = refl;
    numbers = refl;
    periods = (let none : [] ≡ listed = cc in none);
    starts = refl;
    placed = ap (own_placed_of p) (let none : [] ≡ listed = cc in sym none);
  }
  column former place [] times runs listed own (first ∷ rest) read ticked are at same many numbers = absurd (omega (arith, many))
  column former place (number ∷ sections) times runs listed own [] read ticked are at same many numbers = absurd (omega (arith, many))
  column former place (number ∷ sections) times runs listed own (first ∷ rest) read ticked are at same many numbers =
      let known = period_in number s.periods in
      let n = length s.tracks in
      let a = steps_of (section_times s files known place) _ times read in
      let b = steps_of (times_from s files (place + 1) sections) _ times a.then in
      let whole_times : a.value ++ b.value ≡ times = (let h = b.then in cc) in
      let as_many : length a.value ≡ n = times_many s.folder files known place 0 s.tracks a.value a.first in
      let front : take n times ≡ a.value = ap (take n) (sym whole_times) ∙ take_front a.value b.value n as_many in
      let behind : drop n times ≡ b.value = ap (drop n) (sym whole_times) ∙ drop_front a.value b.value n as_many in
      let c = steps_of (section_runs s place (take n times)) _ runs ticked in
      let d = steps_of (runs_from s (place + 1) sections (drop n times)) _ runs c.then in
      let whole_runs : c.value ++ d.value ≡ runs = (let h = d.then in cc) in
      let ticks : section_runs s place a.value ≡ Ok c.value = ap (section_runs s place) (sym front) ∙ c.first in
      let as_many_ticks : length c.value ≡ n = ticks_many s place 0 (origin_of a.value) a.value c.value ticks ∙ as_many in
      let e = steps_of (periods.period_of s former number place (take n runs)) _ listed are in
      let f = steps_of (periods.periods_from s (end_of e.value) (place + 1) sections (drop n runs)) _ listed e.then in
      let whole : e.value ∷ f.value ≡ listed = (let h = f.then in cc) in
      let front_runs : take n runs ≡ c.value = ap (take n) (sym whole_runs) ∙ take_front c.value d.value n as_many_ticks in
      let behind_runs : drop n runs ≡ d.value = ap (drop n) (sym whole_runs) ∙ drop_front c.value d.value n as_many_ticks in
      let here : get_or s.sections place 0 ≡ number =
      (let e : place ≡ place + 0 = omega arith in ap (λ n. get_or s.sections n 0) e ∙ numbers 0 (omega arith)) in
      let is_period : periods.period_of s former number place c.value ≡ Ok e.value =
      ap (periods.period_of s former number place) (sym front_runs) ∙ e.first in
      let x = period_is former number place c.value e.value is_period in
      let t = times_at s.folder files known place 0 p s.tracks own a.value a.first at in
      let r = ticks_at s place 0 p (origin_of a.value) a.value t.times c.value ticks t.at in
      let l = live_at place p s.tracks c.value own r.run e.value.runs x.1 at r.at in
      let stretch : stretch_at place own ≡ first =
      (let e : place ≡ place + 0 = omega arith in ap (λ o. unwrap_or o (record { segments = []; known = [] }))
      (ap (slice_get own) e ∙ same 0)) in
      let from_zero : 0 + p ≡ p = omega arith in
      let cell : Cell = record {
        place = place;
        stretch = first;
        row = a.value;
        ticks = c.value;
        times = t.times;
        run = r.run;
        live = l.live;
        period = e.value;
      } in
      let is_row : IsRow s files place a.value c.value e.value = record {
        read = subst (λ n. section_times s files (period_in n s.periods) place ≡ Ok a.value) (sym here) a.first;
        ticked = ticks;
        live = x.1;
        early = x.3.0;
        long = x.3.1;
      } in
      let is_cell = cell_is cell number own x.0 here stretch t.is r.is l.is x.2 is_row in
      let later = column (end_of e.value) (place + 1) sections b.value d.value f.value own rest b.first
      (ap (runs_from s (place + 1) sections) (sym behind) ∙ d.first)
      (ap (periods.periods_from s (end_of e.value) (place + 1) sections) (sym behind_runs) ∙ f.first) at
      (next_at own rest first place same) (omega (arith, many))
      (λ i within. let e : place + 1 + i ≡ place + suc i = omega arith in ap (λ n. get_or s.sections n 0) e ∙ numbers (suc i) (omega (arith, within))) in
      record {
        cells = cell ∷ later.cells;
        each = All-cons IsCell cell later.cells is_cell later.each;
        stretches = ap (λ (rest : List Stretch). first ∷ rest) later.stretches;
        numbers = rw (x.0, later.numbers) refl;
        periods = ap (λ (ps : List LivePeriod). e.value ∷ ps) later.periods ∙ whole;
        starts = own_starts a.value b.value times t.times (length sections) (starts_of later.cells) whole_times t.at behind later.starts;
        placed = ap (own_placed_of p) (sym whole) ∙ rw (l.at, later.placed) refl;
      }
    where
      take_front : {X : Type 0} (xs ys : List X) (n : ℕ) → length xs ≡ n → take n (xs ++ ys) ≡ xs
      take_front xs ys n many = rw (← many) (take-append_seam xs ys)

      drop_front : {X : Type 0} (xs ys : List X) (n : ℕ) → length xs ≡ n → drop n (xs ++ ys) ≡ ys
      drop_front xs ys n many = rw (← many) (drop-append_seam xs ys)

      period_is : (former number place : ℕ) (row : List TickRun) (period : LivePeriod) → periods.period_of s former number place row ≡ Ok period
          → (period.number ≡ number) × (periods.live_runs place s.tracks row ≡ Ok period.runs) × Starts period
          × ((period.start < 10 ^ 19) × (periods.longest_of row ≤ period.longest))
      period_is former number place row period is =
          let x = steps_of (extent_of (known_in number s.periods) former (periods.longest_of row)) _ period is in
          let y = steps_of (periods.runs_at s place row) _ period x.then in
          let same : record { number = number; start = x.value.start; longest = x.value.longest; runs = y.value } ≡ period =
          (let h = y.then in cc) in
          subst (λ (q : LivePeriod). (q.number ≡ number) × (periods.live_runs place s.tracks row ≡ Ok q.runs) × Starts q
          × ((q.start < 10 ^ 19) × (periods.longest_of row ≤ q.longest))) same (
            refl,
            y.first,
            λ e listed. starts_by (known_in number s.periods) former (periods.longest_of row) x.value e x.first listed,
            early_of (known_in number s.periods) former (periods.longest_of row) x.value x.first,
          )

      own_starts : (row later times : List SegmentTimes) (own : SegmentTimes) (count : ℕ) (starts : List ℕ) → row ++ later ≡ times
          → slice_get row p ≡ Some own → drop (length s.tracks) times ≡ later → times_over count (length s.tracks) p later ≡ starts
          → times_over (suc count) (length s.tracks) p times ≡ own.starts ++ starts
      own_starts row later times own count starts whole at behind rest =
          let here : slice_get times p ≡ Some own = ap (λ (ts : List SegmentTimes). slice_get ts p) (sym whole) ∙ at_front row later p own at in
          rw (here, behind, rest) refl
