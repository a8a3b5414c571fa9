-- Every difference of an MPD and a master playlist with its media playlists.
use Rattle.bridge_courses.specs.declared.status.Verdict.TheVariants as verdict
use Rattle.bridge_report.specs.declared.refusal.Refusal.TheVariants as refusal
use Rattle.std.specs.Prelude.{ℕ, ℤ, ◌^◌, ◌==◌, List, ◌++◌, if◌then◌else◌, Option, Some, None, option_map, Result, Ok}
use Rattle.bridge_io.specs.{Answer.and_then, Outside.Files}
use Rattle.differences.specs.{Deviating.told, declared.deviation.Deviations.Deviations}
use Rattle.presentation.specs.{Meanings.meaning_of, Presented.Presented}
use Rattle.bridge_jobs.specs.declared.jobs.CompareJob.{CompareJob}
use Rattle.bridge_courses.specs.declared.status.Verdict.{Verdict}
use Rattle.bridge_report.specs.{Outcomes.{Outcome, outcome_told}, Reading.Named, declared.refusal.Refusal.Refusal}
use Rattle.bridge_playlists.specs.{declared.place.StorePlace.StorePlace, Playlists.{presented_at, presented_so_far}}
use Rattle.bridge_steps.specs.{Endings.placed, Manifests.mpd_at}
use Rattle.bridge_compare.specs.{Check.{places_of, same_line}, Lines.{all_lines, count_line}}

-- ---- the report

abbrev pub verdict_of : (count : ℕ) → Verdict
verdict_of count = if count == 0 then verdict.Done else verdict.Differ

abbrev pub last_line : (count : ℕ) → Presented → List ℕ
last_line count mpd = if count == 0 then same_line mpd else count_line count

-- the differences, the greatest one of time for each track, and how many there are
abbrev pub text_of : Deviations → Presented → List ℕ
text_of found mpd = all_lines found ++ last_line found.count mpd

abbrev pub told_of : Deviations → Presented → Verdict × List ℕ
told_of found mpd = (verdict_of found.count, text_of found mpd)

abbrev pub compared : CompareJob → (unit : ℕ) → (mpd playlists : Presented) → Verdict × List ℕ
compared job unit mpd playlists = told_of (told job.most job.within unit (meaning_of mpd) (meaning_of playlists)) mpd

-- ---- how the command ends

-- a live MPD is rejected where no time is given
abbrev pub live_refusal : Option ℤ → Option Refusal
live_refusal None = Some refusal.NotStatic
live_refusal (Some now) = None

-- playlists may be live where a time is given
abbrev pub listed_at : Option ℤ → StorePlace → Files → Result Presented Named
listed_at None master files = presented_at master files
listed_at (Some now) master files = presented_so_far master files

-- the MPD first, and then the playlists
unfoldable pub judged : CompareJob → (mpd master : StorePlace) → Files → Result (Verdict × List ℕ) Named
judged job mpd master files =
    and_then (mpd_at (live_refusal job.instant) (10 ^ job.check.digits) job.instant mpd files) (λ p.
    and_then (listed_at job.instant master files) (λ playlists. Ok (compared job (10 ^ job.check.digits) p playlists)))

abbrev pub compare_at : CompareJob → Option Files → StorePlace × StorePlace → Option Outcome
compare_at job files places = option_map (λ files. outcome_told (judged job places.0 places.1 files)) files

unfoldable pub compare_outcome : CompareJob → Option Files → Option Outcome
compare_outcome job files = placed (compare_at job files) (places_of job.check)
