-- The Periods of playlists that are read can be written and read.
use Rattle.std.proofs.Common.{◌≡◌, ℕ, suc, ◌+◌, ◌<◌, ◌≤◌, ◌^◌, max, unwrap_or, Bool, true, false, leb, List, [], ◌∷◌, map, length, All}
use Rattle.std.proofs.Common.{Option, Some, None}
use Rattle.std.proofs.{Common.{Ok, IfOk, IfSome, refl, sym, ◌∙◌, ap, subst, arith}, lemmas.Bool.Decides.nat_tests, lemmas.List.length-map}
use Rattle.std.proofs.lemmas.List.Elements.{All-head, All-tail, All-nil, All-cons, All-weaker}
use Rattle.std.specs.List.{AllByRecursion}
use Rattle.bridge_io.proofs.AndThen.{steps_of}
use Rattle.url_parts.specs.declared.address.Part.{Part}
use Rattle.dash_writer.specs.{Live.{first_time, part_of}, declared.live.LivePeriod.LivePeriod, declared.live.LiveRun.LiveRun}
use Rattle.dash_writer.specs.declared.live.LiveSegment.{LiveSegment}
use Rattle.hls_follow.specs.Groups.{group_at, row_at, row_end}
use Rattle.hls_follow.specs.{Periods.{end_of, extent_of, initialization_in, known_in, live_segments, nominal_run}}
use Rattle.hls_follow.specs.Periods.{period_of, periods_from, run_of, runs_of, within_limit}
use Rattle.hls_follow.proofs.Listing.{listed_map}
use Rattle.laws_of_mpds.proofs.ReadPlain.{map_own, range_readable}
use Rattle.laws_of_mpds.specs.{Contents.IsOwnPart, Live.{IsReadablePeriod, IsReadableRun, durations_in}, Told.IsShort}
use Rattle.laws_of_jobs.proofs.Segments.{IsReadRow, IsReadSegment, TimedSegment, section_read}

-- ---- what a track has in a section

as_many : (group : List TimedSegment) → length (live_segments group) ≡ length group
as_many [] = refl
as_many (t ∷ group) = ap suc (as_many group)

own_files : (group : List TimedSegment) → All IsReadSegment group → AllByRecursion IsOwnPart (map part_of (live_segments group))
own_files [] all = tt
own_files (t ∷ group) all =
    let plain = (All-head IsReadSegment t group all).plain in (
      record { address = plain.addresses.own; readable = range_readable t.segment.range plain.bounded.range },
      own_files group (All-tail IsReadSegment t group all),
    )

short_durations : (group : List TimedSegment) → All IsReadSegment group
    → AllByRecursion IsShort (map (λ (segment : LiveSegment). segment.duration) (live_segments group))
short_durations [] all = tt
short_durations (t ∷ group) all =
    let bounded = (All-head IsReadSegment t group all).plain.bounded.duration in
    (omega (arith, bounded), short_durations group (All-tail IsReadSegment t group all))

all_last : (group : List TimedSegment) → All IsReadSegment group
    → AllByRecursion (λ d. 0 < d) (map (λ (segment : LiveSegment). segment.duration) (live_segments group))
all_last [] all = tt
all_last (t ∷ group) all =
    ((All-head IsReadSegment t group all).lasting, all_last group (All-tail IsReadSegment t group all))

-- a run that can be read, which begins at its offset or later, and of which each segment lasts
pub record IsReadRun (run : LiveRun) : Type 0 where
  pub readable : IsReadableRun run
  pub begins : unwrap_or run.offset 0 ≤ first_time run.segments
  pub lasting : AllByRecursion (λ d. 0 < d) (durations_in run)

run_read : (group : List TimedSegment) (run : LiveRun) → IsReadRow 100_000 group → run_of group ≡ Ok run → IsReadRun run
run_read [] run read is = absurd (cc)
run_read (t ∷ group) run read is =
    let x = steps_of (initialization_in t.segment.map) _ run is in
    let same : nominal_run x.value (t ∷ group) ≡ run = (let h = x.then in cc) in
    let first = All-head IsReadSegment t group read.all in
    let own = map_own t.segment.map first.plain.bounded.map first.plain.addresses.initialization in
    subst IsReadRun same (record {
      readable = record {
        initialization = subst (λ (part : Option Part). IfSome part IsOwnPart) (listed_map x.value t.segment.map x.first) own;
        parts = own_files (t ∷ group) read.all;
        some = omega arith;
        scale = omega arith;
        offset = tt;
        durations = short_durations (t ∷ group) read.all;
        first = omega (arith, first.early);
        few = omega (arith, read.few, as_many (t ∷ group));
      };
      begins = omega arith;
      lasting = all_last (t ∷ group) read.all;
    })

-- each track has something there
runs_read : (row : List (List TimedSegment)) (runs : List LiveRun) → All (IsReadRow 100_000) row → runs_of row ≡ Ok runs
    → (length runs ≡ length row) × All IsReadRun runs
runs_read [] runs read is =
    (let none : [] ≡ runs = cc in (ap length (sym none), subst (All IsReadRun) none (All-nil IsReadRun)))
runs_read (group ∷ row) runs read is =
    let x = steps_of (run_of group) _ runs is in
    let y = steps_of (runs_of row) _ runs x.then in
    let whole : x.value ∷ y.value ≡ runs = (let h = y.then in cc) in
    let others = runs_read row y.value (All-tail (IsReadRow 100_000) group row read) y.first in (
      ap length (sym whole) ∙ ap suc others.0,
      subst (All IsReadRun) whole (All-cons IsReadRun x.value y.value
          (run_read group x.value (All-head (IsReadRow 100_000) group row read) x.first) others.1),
    )

-- ---- Periods

within : (start longest : ℕ) (late : Bool) → leb (10 ^ 19) (start + longest) ≡ late
    → IfOk (within_limit start longest) (λ extent. extent.start < 10 ^ 19)
within start longest true late = rw late tt
within start longest false late =
    let less : start < 10 ^ 19 = grind (arith, nat_tests) in
    rw late less

early : (number : ℕ) (known : List LivePeriod) (former longest : ℕ)
    → IfOk (extent_of (known_in number known) former longest) (λ extent. extent.start < 10 ^ 19)
early number known former longest =
    elim (known_in number known) as (λ k. IfOk (extent_of k former longest) (λ extent. extent.start < 10 ^ 19)) [
      | Some k ↦ within k.start (max k.longest longest) _ refl
      | None ↦ within former longest _ refl
    ]

-- so many tracks have something there
pub record IsReadPeriod (count : ℕ) (period : LivePeriod) : Type 0 where
  pub start : period.start < 10 ^ 19
  pub runs : All IsReadRun period.runs
  pub filled : length period.runs ≡ count

pub readable_period : (count : ℕ) (period : LivePeriod) → IsReadPeriod count period → IsReadablePeriod period
readable_period count period is =
    record { start = is.start; runs = All-weaker IsReadRun IsReadableRun (λ run read. read.readable) period.runs is.runs }

period_read : (known : List LivePeriod) (former number : ℕ) (row : List (List TimedSegment)) (period : LivePeriod)
    → All (IsReadRow 100_000) row → period_of known former number row ≡ Ok period → IsReadPeriod (length row) period
period_read known former number row period read is =
    let x = steps_of (extent_of (known_in number known) former (row_end row)) _ period is in
    let y = steps_of (runs_of row) _ period x.then in
    let same : record { number = number; start = x.value.start; longest = x.value.longest; runs = y.value }
    ≡ period = (let h = y.then in cc) in
    let runs = runs_read row y.value read y.first in
    let start : x.value.start < 10 ^ 19 = subst (λ extent. IfOk extent (λ e. e.start < 10 ^ 19)) x.first
    (early number known former (row_end row)) in
    subst (IsReadPeriod (length row)) same (record {
      start = start;
      runs = runs.1;
      filled = runs.0;
    })

pub periods_read : (known : List LivePeriod) (tracks : List (List (List TimedSegment))) (former place : ℕ) (sections : List ℕ)
    (listed : List LivePeriod) → All (All (IsReadRow 100_000)) tracks → periods_from known tracks former place sections ≡ Ok listed
    → All (IsReadPeriod (length tracks)) listed
periods_read known tracks former place [] listed read is =
    subst (All (IsReadPeriod (length tracks))) (let none : [] ≡ listed = cc in none) (All-nil (IsReadPeriod (length tracks)))
periods_read known tracks former place (number ∷ sections) listed read is =
    let row = row_at tracks place in
    let x = steps_of (period_of known former number row) _ listed is in
    let y = steps_of (periods_from known tracks (end_of x.value) (place + 1) sections) _ listed x.then in
    let whole : x.value ∷ y.value ≡ listed = (let h = y.then in cc) in
    let here = period_read known former number row x.value (section_read tracks place read) x.first in
    subst (All (IsReadPeriod (length tracks))) whole (All-cons (IsReadPeriod (length tracks)) x.value y.value
    (subst (λ (n : ℕ). IsReadPeriod n x.value) (length-map tracks (group_at place)) here)
    (periods_read known tracks (end_of x.value) (place + 1) sections y.value read y.first))
