-- From playlists to an MPD with the decode times of the media files (ISO/IEC 23009-1, 5.3.9).
use Rattle.std.specs.Prelude.{ℕ, zero, suc, List, [], ◌∷◌, ◌++◌, codes, drop, length, take, Option, option_map, Result, Ok}
use Rattle.bridge_io.specs.{Answer.and_then, Outside.Files}
use Rattle.bridge_jobs.specs.Laws.{in_folder}
use Rattle.dash_writer.specs.{declared.timed.TickRun.TickRun, Timed.timed_text}
use Rattle.fragment_times.specs.{declared.period_start.PeriodStart.PeriodStart, declared.times.SegmentTimes.SegmentTimes}
use Rattle.fragment_times.specs.{Origins.first_of, PeriodStarts.{offset_by, start_of}}
use Rattle.segment_forms.specs.declared.form.Form.{Form}
use Rattle.presentation.specs.Presented.{Presented}
use Rattle.bridge_jobs.specs.declared.jobs.MasterJob.{MasterJob}
use Rattle.bridge_report.specs.{Outcomes.Outcome, Reading.Named}
use Rattle.bridge_playlists.specs.{declared.place.StorePlace.StorePlace, Places.store_place_of, Playlists.presented_at}
use Rattle.bridge_steps.specs.{Done.done_line, Endings.{outcome_written, placed}}
use Rattle.bridge_reach.specs.{FileTimes.{durations_at, times_at}}

-- ---- media times

-- the first segment begins at its file's decode time; a track without segments begins at 0
abbrev pub run_of : PeriodStart → SegmentTimes → (ticks : List ℕ) → TickRun
run_of start times ticks =
    record { scale = times.scale; offset = offset_by start times; first = first_of times; durations = ticks }

-- the tracks of a section that starts then
abbrev pub section_runs : PeriodStart → List SegmentTimes → (ticks : List (List ℕ)) → List TickRun
section_runs start [] rows = []
section_runs start (times ∷ others) [] = []
section_runs start (times ∷ others) (ticks ∷ rows) = run_of start times ticks ∷ section_runs start others rows

-- `count` sections of `tracks` tracks each
abbrev pub runs_from : Form → (tracks count : ℕ) → List SegmentTimes → (ticks : List (List ℕ)) → List TickRun
runs_from form tracks zero times rows = []
runs_from form tracks (suc n) times rows = section_runs (start_of form (take tracks times)) (take tracks times) (take tracks rows)
    ++ runs_from form tracks n (drop tracks times) (drop tracks rows)

abbrev pub runs_of : Form → Presented → List SegmentTimes → (ticks : List (List ℕ)) → List TickRun
runs_of form p times rows = runs_from form (length p.tracks) (length p.sections) times rows

unfoldable pub runs_at : Form → StorePlace → Files → Presented → Result (List TickRun) Named
runs_at form place files p =
    and_then (times_at place files p) (λ times.
    and_then (durations_at form place p times) (λ ticks. Ok (runs_of form p times ticks)))

-- ---- what is read

-- a presentation with the media times of its segments
abbrev pub Timed : Type 0
Timed = Presented × List TickRun

abbrev pub with_runs : Form → StorePlace → Files → Presented → Result Timed Named
with_runs form place files p = and_then (runs_at form place files p) (λ runs. Ok (p, runs))

-- all playlists first, and then the media files
unfoldable pub timed_at : Form → StorePlace → Files → Result Timed Named
timed_at form place files = and_then (presented_at place files) (with_runs form place files)

-- ---- the command

-- the MPD: its name and its text
abbrev pub mpd_file : MasterJob → Timed → List ℕ × List ℕ
mpd_file job timed = (in_folder job.out (codes "manifest.mpd"), timed_text job.form timed.0 timed.1)

abbrev pub files_of : MasterJob → Timed → List (List ℕ × List ℕ)
files_of job timed = mpd_file job timed ∷ []

abbrev pub line_of : Timed → List ℕ
line_of timed = done_line timed.0

abbrev pub outcome_of : MasterJob → Result Timed Named → Outcome
outcome_of job read = outcome_written (files_of job) line_of read

-- the master playlist is at this location
abbrev pub dash_times_at : MasterJob → Option Files → StorePlace → Option Outcome
dash_times_at job files place = option_map (λ files. outcome_of job (timed_at job.form place files)) files

unfoldable pub dash_times_outcome : MasterJob → Option Files → Option Outcome
dash_times_outcome job files = placed (dash_times_at job files) (store_place_of job.base job.master)
