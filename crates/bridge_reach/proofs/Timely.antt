-- The MPD that `dash-times` writes begins its segments as their own files state.
use Rattle.std.proofs.Common.{◌≡◌, ◌<◌, ◌*◌, ℕ, Bool, List, length, drop, take, get_or, All, Option, Some, None, Result, Ok, Err, refl}
use Rattle.std.proofs.{Common.{sym, ap, ◌∙◌}, lemmas.List.Elements.{All-drop, All-take}}
use Rattle.bridge_io.proofs.AndThen.{steps_of}
use Rattle.bridge_io.specs.Outside.{Files}
use Rattle.segment_forms.specs.declared.form.Form.{Form, TheVariants.{Plain, Players}}
use Rattle.dash_writer.specs.declared.timed.TickRun.{TickRun}
use Rattle.fragment_times.specs.{declared.period_start.PeriodStart.TheVariants.{Own, Shared}, declared.times.SegmentTimes.SegmentTimes}
use Rattle.fragment_times.specs.{Durations.durations_of, Origins.origin_of, PeriodStarts.{start_in, start_of, times_in}}
use Rattle.fragment_times.specs.Times.{FillPlaces, IsScaled, times_of}
use Rattle.fragment_times.proofs.{Origins.{offsets_are_before, offsets_are_one_time}, Scaled.times_are_scaled}
use Rattle.presentation.specs.Presented.{Presented}
use Rattle.presentation.proofs.Filling.{ok_under}
use Rattle.bridge_playlists.specs.{declared.place.StorePlace.StorePlace, Places.store_place_of, Playlists.presented_at}
use Rattle.bridge_report.specs.{Outcomes.{Outcome, Writes}, Reading.Named}
use Rattle.bridge_steps.specs.Endings.{outcome_written, placed}
use Rattle.bridge_reach.specs.DashTimes.{dash_times_at, dash_times_outcome, files_of, line_of, run_of, runs_at, runs_of, section_runs}
use Rattle.bridge_reach.specs.{DashTimes.{timed_at, with_runs}, FileTimes.{durations_at, times_at}}
use Rattle.bridge_reach.specs.Promises.{AreStarted, HaveOneOffset, IsInStep, IsTimed, WrittenAreFileTimes, runs_in}
use Rattle.bridge_reach.proofs.{Counted.{are_sections, ticked_at}, Runs.{AreSections, all_runs, run_at, section_at}}
use Rattle.bridge_reach.proofs.Stated.{are_filled, stated_at}

-- ---- what was read where something is written

record IsPlaced {P : Type 0} (at : P → Option Outcome) (place : Option P) (outcome : Outcome) : Type 0 where
  found : P
  is : place ≡ Some found
  ends : at found ≡ Some outcome

placed_at : {P : Type 0} (at : P → Option Outcome) (place : Option P) (files : List (List ℕ × List ℕ)) (line : List ℕ) (reads : Bool)
    → placed at place ≡ Some (Writes files line reads) → IsPlaced at place (Writes files line reads)
placed_at at None files line reads is = absurd (cc)
placed_at at (Some found) files line reads is = record { found = found; is = refl; ends = is }

record IsMade {Y : Type 0} (files : Y → List (List ℕ × List ℕ)) (read : Result Y Named) (written : List (List ℕ × List ℕ)) : Type 0 where
  value : Y
  is : read ≡ Ok value
  text : written ≡ files value

made : {Y : Type 0} (files : Y → List (List ℕ × List ℕ)) (say : Y → List ℕ) (read : Result Y Named) (written : List (List ℕ × List ℕ))
    (line : List ℕ) (reads : Bool) → Some (outcome_written files say read) ≡ Some (Writes written line reads) → IsMade files read written
made files say (Err named) written line reads is = absurd (cc)
made files say (Ok y) written line reads is =
    record { value = y; is = refl; text = (let same : files y ≡ written = cc in sym same) }

-- ---- the times of the files

pub record AreRuns (form : Form) (place : StorePlace) (files : Files) (p : Presented) (runs : List TickRun) : Type 0 where
  pub times : List SegmentTimes
  pub stated : times_of place.folder files p ≡ Ok times
  pub rows : List (List ℕ)
  pub lasting : durations_of form p times ≡ Ok rows
  pub are : runs_of form p times rows ≡ runs

pub are_runs : (form : Form) (place : StorePlace) (files : Files) (p : Presented) (runs : List TickRun)
    → runs_at form place files p ≡ Ok runs → AreRuns form place files p runs
unfolding runs_at
are_runs form place files p runs is =
    let times = steps_of (times_at place files p) _ runs is in
    let rows = steps_of (durations_at form place p times.value) (λ ticks. Ok (runs_of form p times.value ticks)) runs times.then in
    record {
      times = times.value;
      stated = ok_under _ (times_of place.folder files p) times.value times.first;
      rows = rows.value;
      lasting = ok_under _ (durations_of form p times.value) rows.value rows.first;
      are = (let e = rows.then in cc);
    }

-- ---- when its Periods start

started_by : (form : Form) (times : List SegmentTimes) (rows : List (List ℕ)) → All IsScaled times
    → AreStarted form (section_runs (start_of form times) times rows)
started_by Plain times rows scaled = all_runs Own (λ (run : TickRun). run.offset ≡ run.first) times rows (λ k d within row. refl)
started_by Players times rows scaled =
    let origin = origin_of times in let runs = section_runs (Shared origin) times rows in
    all_runs (Shared origin) (IsInStep runs) times rows (λ k d within row. record {
      begins = offsets_are_before times scaled k d within;
      same = all_runs (Shared origin) (HaveOneOffset (run_of (Shared origin) (get_or times k d) row)) times rows
          (λ j e also other. offsets_are_one_time times scaled k d within j e also);
    })

-- ---- what is written

module _ (form : Form) (folder : List ℕ) (files : Files) (p : Presented) (times : List SegmentTimes) (rows : List (List ℕ))
    (stated : times_of folder files p ≡ Ok times) (lasting : durations_of form p times ≡ Ok rows) where
  filled : FillPlaces p (length times)
  filled = are_filled folder files p times stated

  whole : AreSections form (length p.tracks) (length p.sections) times rows
  whole = are_sections form p times rows filled lasting

  pub in_section : (s t : ℕ) → s < length p.sections → t < length p.tracks → IsTimed folder files p (runs_of form p times rows) s t
  in_section s t in_sections in_tracks content has =
      let own = stated_at folder files p times stated s t content in_sections in_tracks has in
      let ticked = ticked_at form p times rows filled lasting s t in_sections in_tracks in
      let same : own.own ≡ ticked.own = (let here = own.there in let there = ticked.there in cc) in
      let run = run_of (start_in form p times s) ticked.own ticked.row in
      let there = run_at form (length p.tracks) (length p.sections) times rows whole s t in_sections in_tracks ticked.own ticked.row
      ticked.there ticked.here in (
        run,
        there,
        record {
          scale = own.scale ∙ ap (λ (o : SegmentTimes). Ok o.scale) same;
          starts = own.starts ∙ ap (λ (o : SegmentTimes). Ok o.starts) same ∙ ap Ok (sym ticked.led.begins);
        },
      )

  pub are_started : (s : ℕ) → s < length p.sections → AreStarted form (runs_in p (runs_of form p times rows) s)
  are_started s within =
      let tracks = length p.tracks in
      let scaled = All-take IsScaled tracks (drop (s * tracks) times) (All-drop IsScaled (s * tracks) times
      (times_are_scaled folder files p times stated)) in
      rw (section_at form tracks (length p.sections) times rows whole s within)
      (started_by form (times_in p times s) (take tracks (drop (s * tracks) rows)) scaled)

pub written_timed : WrittenAreFileTimes
unfolding dash_times_outcome timed_at
written_timed job files written line reads is =
    let at = placed_at (dash_times_at job (Some files)) (store_place_of job.base job.master) written line reads is in
    let by = made (files_of job) line_of (timed_at job.form at.found files) written line reads at.ends in
    let read = steps_of (presented_at at.found files) (with_runs job.form at.found files) by.value by.is in
    let runs = steps_of (runs_at job.form at.found files read.value) (λ runs. Ok (read.value, runs)) by.value read.then in
    let whole : (read.value, runs.value) ≡ by.value = (let e = runs.then in cc) in
    let are = are_runs job.form at.found files read.value runs.value runs.first in
    record {
      place = at.found;
      at = at.is;
      presentation = read.value;
      read = read.first;
      runs = runs.value;
      text = by.text ∙ ap (files_of job) (sym whole);
      timed = λ s t in_sections in_tracks. rw (← are.are) (in_section job.form at.found.folder files read.value are.times are.rows
          are.stated are.lasting s t in_sections in_tracks);
      started = λ s in_sections. rw (← are.are) (are_started job.form at.found.folder files read.value are.times are.rows are.stated
          are.lasting s in_sections);
    }
