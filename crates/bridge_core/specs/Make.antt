-- From a generated MPD to playlists.
use Rattle.bridge_courses.specs.declared.status.Verdict.TheVariants as verdict
use Rattle.std.specs.Prelude.{ℕ, ◌^◌, ◌&&◌, nat_lt, false, List, ◌∷◌, ◌++◌, length, codes, if◌then◌else◌, Option, Some, None, Result, Ok}
use Rattle.std.specs.Prelude.{Err}
use Rattle.bridge_jobs.specs.Laws.{in_folder}
use Rattle.hls_writer.specs.Lines.{seconds_bytes}
use Rattle.presentation.specs.{Presented.{Presented, listed_at}, Verifying.length_of}
use Rattle.bridge_jobs.specs.declared.jobs.MakeJob.{MakeJob}
use Rattle.bridge_report.specs.{Outcomes.{Outcome, Ends, Writes}, Reading.Named, Refusals.refusal_line}
use Rattle.bridge_report.specs.declared.refusal.Refusal.TheVariants.{NotStatic}
use Rattle.bridge_playlists.specs.{declared.place.StorePlace.StorePlace, Places.store_place_of}
use Rattle.bridge_steps.specs.{Endings.placed, Manifests.mpd_in, Playlists.playlists}
use Rattle.bridge_core.specs.Source.{source_text}

-- ---- the report

-- the duration of a track in the first section, given the units per second, and 0 where there is no such track
abbrev pub length_at : (unit : ℕ) → Presented → (track : ℕ) → ℕ
length_at unit p track = if nat_lt track (length p.tracks) && nat_lt 0 (length p.sections) then length_of unit (listed_at p 0 track) else 0

unfoldable pub lengths_line : (digits video audio : ℕ) → List ℕ
lengths_line digits video audio =
    codes "made tracks=6 segments=120000 video=" ++ seconds_bytes digits video
    ++ codes " audio=" ++ seconds_bytes digits audio ++ codes "\n"

-- the length of the first video track, and of the first audio track
abbrev pub made_line : (digits : ℕ) → Presented → List ℕ
made_line digits p = lengths_line digits (length_at (10 ^ digits) p 0) (length_at (10 ^ digits) p 4)

-- ---- the files

abbrev pub source_name : List ℕ
source_name = codes "source.mpd"

-- the MPD: its name and its text
abbrev pub source_file : (out : List ℕ) (seed : ℕ) → List ℕ × List ℕ
source_file out seed = (in_folder out source_name, source_text seed)

-- the MPD first, and then its playlists, plain ones with absolute URLs
abbrev pub made_files : MakeJob → Presented → List (List ℕ × List ℕ)
made_files job p = source_file job.out job.seed ∷ playlists (record { folder = job.out; base = None }) None job.digits p

-- ---- how the command ends

abbrev pub outcome_of : MakeJob → Result Presented Named → Outcome
outcome_of job (Ok p) = Writes (made_files job p) (made_line job.digits p) false
outcome_of job (Err named) = Ends verdict.Refused (refusal_line named.0 named.1) false false

-- the presentation of the MPD as if it were at this location
abbrev pub made_presentation : MakeJob → StorePlace → Result Presented Named
made_presentation job place = mpd_in (Some NotStatic) (10 ^ job.digits) None place (source_text job.seed)

abbrev pub source_place : Option StorePlace
source_place = store_place_of (codes "https://make.example/") source_name

abbrev pub make_at : MakeJob → StorePlace → Option Outcome
make_at job place = Some (outcome_of job (made_presentation job place))

-- No file is read.
unfoldable pub make_outcome : MakeJob → Option Outcome
make_outcome job = placed (make_at job) source_place
