-- `hls-index`: from an MPD whose media files have a `sidx`, and these files, to playlists (ISO/IEC 23009-1, 5.3.9.2).
use Rattle.index_parts.specs.declared.fault.IndexFault.TheVariants as fault
use Rattle.bridge_report.specs.declared.index_refusal.IndexRefusal.TheVariants as index
use Rattle.bridge_report.specs.declared.refusal.Refusal.TheVariants as refusal
use Rattle.std.specs.Prelude.{◌^◌, ℕ, List, Option, option_map, Result, Ok}
use Rattle.bridge_io.specs.{Answer.{and_then, told_as}, Outside.Files}
use Rattle.index_parts.specs.{declared.fault.IndexFault.IndexFault, Presented.indexed_of}
use Rattle.mpd_levels.specs.declared.indexed.IndexRow.{IndexRow}
use Rattle.mpd_rules.specs.{Rules.indexed_mpd_of, Typed.TypedMpd}
use Rattle.mpd_tree.specs.Meaning.{reading_of}
use Rattle.presentation.specs.{declared.fault.PresentationFault.TheVariants.Memory, Presented.Presented}
use Rattle.bridge_jobs.specs.declared.jobs.IndexJob.{IndexJob}
use Rattle.bridge_playlists.specs.{declared.place.StorePlace.StorePlace, Places.store_place_of}
use Rattle.bridge_report.specs.{declared.refusal.Refusal.Refusal, Outcomes.Outcome, Reading.{Named, content_of, of_file}}
use Rattle.bridge_steps.specs.{Done.done_line, Endings.{outcome_written, placed}, Manifests.checked}
use Rattle.bridge_steps.specs.{Players.players_in, Playlists.{OutputPlace, output_of, playlists}}
use Rattle.mpd_hints.specs.declared.starts.Sap.TheVariants.{Subsegments}
use Rattle.segment_forms.specs.declared.form.Form.{Form}
use Rattle.track_hints.specs.declared.hints.Hints.{Hints}

-- ---- the values of the MPD

unfoldable pub values_of : (bytes : List ℕ) → Result (TypedMpd (Option IndexRow)) Refusal
values_of bytes = and_then (told_as refusal.Text (reading_of bytes)) (λ root. told_as refusal.Rules (indexed_mpd_of root))

abbrev pub values_in : StorePlace → (bytes : List ℕ) → Result (TypedMpd (Option IndexRow)) Named
values_in place bytes = of_file place.file (values_of bytes)

-- ---- the presentation

-- An error names the MPD or a media file. I/O errors and out of memory have no error code.
abbrev pub named_by : (mpd : List ℕ) → IndexFault → Named
named_by mpd (fault.Presentation told) = (mpd, refusal.Presentation told)
named_by mpd fault.OutsideBase = (mpd, refusal.Index index.OutsideBase)
named_by mpd fault.TooLong = (mpd, refusal.Index index.TooLong)
named_by mpd (fault.File file told) = (file, refusal.Index (index.File told))
named_by mpd fault.Fault = (mpd, refusal.Presentation Memory)
named_by mpd fault.Memory = (mpd, refusal.Presentation Memory)

abbrev pub presented_by : StorePlace → Files → TypedMpd (Option IndexRow) → Result Presented Named
presented_by place files mpd = told_as (named_by place.file) (indexed_of place.url place.folder files mpd)

-- of the bytes of an MPD at a location, and the files of the store
unfoldable pub presented_in : StorePlace → Files → (bytes : List ℕ) → Result Presented Named
presented_in place files bytes = and_then (values_in place bytes) (presented_by place files)

-- each of whose segments has a URL
abbrev pub checked_in : (unit : ℕ) → StorePlace → Presented → Result Presented Named
checked_in unit place p = of_file place.file (checked unit p)

unfoldable pub ready_in : (unit : ℕ) → StorePlace → Files → (bytes : List ℕ) → Result Presented Named
ready_in unit place files bytes = and_then (presented_in place files bytes) (checked_in unit place)

-- and what the MPD says for players, if that is asked for
abbrev pub with_players : (players : Option Hints) → Presented → Result (Presented × Option Hints) Named
with_players players p = Ok (p, players)

unfoldable pub told_in : Form → (unit : ℕ) → StorePlace → Files → (bytes : List ℕ) → Result (Presented × Option Hints) Named
told_in form unit place files bytes = and_then (ready_in unit place files bytes) (with_players (players_in form Subsegments bytes))

-- the same for the file at the location
unfoldable pub told_at : Form → (unit : ℕ) → StorePlace → Files → Result (Presented × Option Hints) Named
told_at form unit place files = and_then (content_of place.file files) (told_in form unit place files)

-- ---- the command

abbrev pub presented : IndexJob → StorePlace → Files → Result (Presented × Option Hints) Named
presented job place files = told_at job.form (10 ^ job.digits) place files

-- where the playlists are written
abbrev pub output_of_job : IndexJob → OutputPlace
output_of_job job = output_of job.addresses job.base job.out

abbrev pub files_of : OutputPlace → (digits : ℕ) → Presented × Option Hints → List (List ℕ × List ℕ)
files_of output digits told = playlists output told.1 digits told.0

abbrev pub line_of : Presented × Option Hints → List ℕ
line_of told = done_line told.0

abbrev pub outcome_of : IndexJob → Result (Presented × Option Hints) Named → Outcome
outcome_of job read = outcome_written (files_of (output_of_job job) job.digits) line_of read

-- the MPD is at this location
abbrev pub index_at : IndexJob → Option Files → StorePlace → Option Outcome
index_at job files place = option_map (λ files. outcome_of job (presented job place files)) files

unfoldable pub index_outcome : IndexJob → Option Files → Option Outcome
index_outcome job files = placed (index_at job files) (store_place_of job.base job.mpd)
