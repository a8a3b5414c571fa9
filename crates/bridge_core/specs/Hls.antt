-- From an MPD to playlists.
use Rattle.bridge_report.specs.declared.refusal.Refusal.TheVariants as refusal
use Rattle.bridge_core.specs.declared.hls.Translation.TheVariants as held
use Rattle.bridge_core.specs.declared.hls.Translation.{Translation as Held}
use Rattle.std.specs.Prelude.{ℕ, ℤ, ◌^◌, List, if◌then◌else◌, Option, Some, None, option_map, Result, Ok, Err}
use Rattle.bridge_io.specs.{Answer.{and_then, told_as}, Outside.Files}
use Rattle.presentation.specs.{Presented.Presented, declared.fault.PresentationFault.TheVariants.NeedsNow}
use Rattle.live_meaning.specs.{Refusals.begun_of, Updates.{Terms, Values}}
use Rattle.mpd_hints.specs.declared.starts.Sap.TheVariants.{Segments}
use Rattle.track_hints.specs.declared.hints.Hints.{Hints}
use Rattle.bridge_jobs.specs.declared.jobs.HlsJob.{HlsJob}
use Rattle.bridge_report.specs.{declared.refusal.Refusal.Refusal, Outcomes.Outcome, Reading.{Named, content_of, of_file}}
use Rattle.bridge_playlists.specs.{declared.place.StorePlace.StorePlace, Places.store_place_of}
use Rattle.bridge_steps.specs.Done.{done_line}
use Rattle.bridge_steps.specs.Endings.{outcome_written, placed}
use Rattle.bridge_live.specs.{LiveMpds.{channel_files, channel_with, told_of}, declared.channel.Channel.Channel}
use Rattle.bridge_steps.specs.{Manifests.{ready_of, values_of}, Players.players_in, Playlists.{OutputPlace, output_of, playlists}}

-- What is written: for a static MPD its presentation, with a number of decimals and what the MPD says for players, if that is
-- asked for; for a live one the channel after it as a first update frame.
pub data Translation : Type 0 where
  Static : (digits : ℕ) (players : Option Hints) → Presented → Translation
  Live : Channel → Translation

abbrev pub translated : Held → Translation
translated (held.Static ready) = Static ready.digits ready.players ready.presentation
translated (held.Live channel) = Live channel

-- ---- what is written for an MPD, or its first error

abbrev pub terms_at : HlsJob → (url : List ℕ) → Terms
terms_at job url = record { url = url; digits = job.digits }

unfoldable pub static_translation : HlsJob → (url : List ℕ) → (players : Option Hints) → Values → Result Translation Refusal
static_translation job url players mpd =
    and_then (ready_of (10 ^ job.digits) url job.instant mpd) (λ p. Ok (Static job.digits players p))

unfoldable pub live_translation : HlsJob → (url : List ℕ) → (players : Option Hints) → (now : Option ℤ) → Values
    → Result Translation Refusal
live_translation job url players None mpd = Err (refusal.Presentation NeedsNow)
live_translation job url players (Some now) mpd =
    and_then (told_as told_of (begun_of (terms_at job url) mpd now)) (λ s. Ok (Live (channel_with players s)))

abbrev pub translation_by : HlsJob → (url : List ℕ) → (players : Option Hints) → Values → Result Translation Refusal
translation_by job url players mpd =
    if mpd.facts.live then live_translation job url players job.instant mpd else static_translation job url players mpd

unfoldable pub translation_of : HlsJob → (url bytes : List ℕ) → Result Translation Refusal
translation_of job url bytes = and_then (values_of bytes) (translation_by job url (players_in job.form Segments bytes))

-- the MPD is the file at this location
unfoldable pub translation_at : HlsJob → StorePlace → Files → Result Translation Named
translation_at job place files =
    and_then (content_of place.file files) (λ bytes. of_file place.file (translation_of job place.url bytes))

-- ---- files and the line of the report

abbrev pub files_of : OutputPlace → Translation → List (List ℕ × List ℕ)
files_of output (Static digits players p) = playlists output players digits p
files_of output (Live channel) = channel_files output channel

-- where they are written
abbrev pub output_of_job : HlsJob → OutputPlace
output_of_job job = output_of job.addresses job.base job.out

-- the reported presentation: for a live MPD what it lists at the time
abbrev pub presented_in : Translation → Presented
presented_in (Static digits players p) = p
presented_in (Live channel) = channel.session.common.opened

abbrev pub line_of : Translation → List ℕ
line_of translation = done_line (presented_in translation)

abbrev pub outcome_of : HlsJob → Result Translation Named → Outcome
outcome_of job read = outcome_written (files_of (output_of_job job)) line_of read

-- the MPD is at this location
abbrev pub hls_at : HlsJob → Option Files → StorePlace → Option Outcome
hls_at job files place = option_map (λ files. outcome_of job (translation_at job place files)) files

unfoldable pub hls_outcome : HlsJob → Option Files → Option Outcome
hls_outcome job files = placed (hls_at job files) (store_place_of job.base job.mpd)
