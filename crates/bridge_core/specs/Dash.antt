-- From playlists to an MPD.
use Rattle.std.specs.Prelude.{ℕ, List, [], ◌∷◌, codes, Option, option_map, Result}
use Rattle.bridge_io.specs.Outside.{Files}
use Rattle.bridge_jobs.specs.Laws.{in_folder}
use Rattle.dash_writer.specs.Manifest.{manifest_text}
use Rattle.presentation.specs.Presented.{Presented}
use Rattle.bridge_jobs.specs.declared.jobs.MasterJob.{MasterJob}
use Rattle.bridge_report.specs.{Outcomes.Outcome, Reading.Named}
use Rattle.bridge_playlists.specs.{declared.place.StorePlace.StorePlace, Places.store_place_of, Playlists.presented_at}
use Rattle.bridge_steps.specs.{Done.done_line, Endings.{outcome_written, placed}}

-- the MPD: its name and its text
abbrev pub mpd_file : MasterJob → Presented → List ℕ × List ℕ
mpd_file job p = (in_folder job.out (codes "manifest.mpd"), manifest_text job.form p)

abbrev pub files_of : MasterJob → Presented → List (List ℕ × List ℕ)
files_of job p = mpd_file job p ∷ []

abbrev pub outcome_of : MasterJob → Result Presented Named → Outcome
outcome_of job read = outcome_written (files_of job) done_line read

-- the master playlist is at this location
abbrev pub dash_at : MasterJob → Option Files → StorePlace → Option Outcome
dash_at job files place = option_map (λ files. outcome_of job (presented_at place files)) files

unfoldable pub dash_outcome : MasterJob → Option Files → Option Outcome
dash_outcome job files = placed (dash_at job files) (store_place_of job.base job.master)
