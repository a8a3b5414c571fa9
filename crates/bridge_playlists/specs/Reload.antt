-- Whether a media playlist is a valid update of an older one.
use Rattle.bridge_courses.specs.declared.status.Verdict.TheVariants as verdict
use Rattle.reload_law.specs.declared.unlawful.Unlawful.TheVariants as rule
use Rattle.std.specs.Prelude.{ℕ, ◌-◌, max, min, List, ◌++◌, codes, decimal, length, Option, Some, None, option_map, Result, Ok, Err}
use Rattle.std.specs.Option.{option_and_then}
use Rattle.bridge_io.specs.{Answer.and_then, Outside.Files}
use Rattle.bridge_jobs.specs.declared.jobs.ReloadJob.{ReloadJob}
use Rattle.bridge_courses.specs.declared.status.Verdict.{Verdict}
use Rattle.hls_media.specs.declared.media.Media.{Media}
use Rattle.reload_law.specs.{Rules.{end_of, lawful}, declared.unlawful.Unlawful.Unlawful}
use Rattle.bridge_report.specs.{Bases.file_url, Outcomes.{Outcome, base_refused, outcome_told}, Reading.{Named, media_at}}
use Rattle.bridge_playlists.specs.{declared.reload.Urls.Urls}

-- ---- the report

-- how many sequence numbers both playlists have
abbrev pub kept_count : Media → Media → ℕ
kept_count old new = min (end_of old) (end_of new) - max old.sequence new.sequence

unfoldable pub counts_line : (kept added removed : ℕ) → List ℕ
counts_line kept added removed = codes "lawful kept=" ++ decimal kept ++ codes " added=" ++ decimal added ++ codes " removed="
    ++ decimal removed ++ codes "\n"

-- the sequence numbers that both have, those of only the new one, and those of only the old one
abbrev pub lawful_line : Media → Media → List ℕ
lawful_line old new = let kept = kept_count old new in counts_line kept (length new.segments - kept) (length old.segments - kept)

-- the rule's number and name, and its sequence number
unfoldable pub unlawful_line : Unlawful → List ℕ
unlawful_line rule.Target = codes "unlawful 1 Target\n"
unlawful_line rule.Sequence = codes "unlawful 2 Sequence\n"
unlawful_line (rule.Segment number) = codes "unlawful 3 Segment at " ++ decimal number ++ codes "\n"
unlawful_line (rule.Discontinuity number) = codes "unlawful 4 Discontinuity at " ++ decimal number ++ codes "\n"
unlawful_line rule.Shrunk = codes "unlawful 5 Shrunk\n"
unlawful_line rule.AfterEnd = codes "unlawful 6 AfterEnd\n"
unlawful_line rule.ThreeTargets = codes "unlawful 7 ThreeTargets\n"

-- ---- how the command ends

abbrev pub told_by : Media → Media → Result (Unit {0}) Unlawful → Verdict × List ℕ
told_by old new (Ok tt) = (verdict.Done, lawful_line old new)
told_by old new (Err rule) = (verdict.Differ, unlawful_line rule)

abbrev pub judgement : Media → Media → Verdict × List ℕ
judgement old new = told_by old new (lawful old new)

-- the old playlist is read completely before the new one
unfoldable pub judged : ReloadJob → Urls → Files → Result (Verdict × List ℕ) Named
judged job urls files =
    and_then (media_at job.old urls.old files) (λ old.
    and_then (media_at job.new urls.new files) (λ new. Ok (judgement old new)))

abbrev pub urls_with : (old new : List ℕ) → Urls
urls_with old new = record { old = old; new = new }

unfoldable pub urls_of : ReloadJob → Option Urls
urls_of job = option_and_then (λ old. option_map (urls_with old) (file_url job.base job.new)) (file_url job.base job.old)

-- the playlists are at these URLs
abbrev pub outcome_at : ReloadJob → Urls → Files → Outcome
outcome_at job urls files = outcome_told (judged job urls files)

abbrev pub reload_under : ReloadJob → Option Urls → Option Files → Option Outcome
reload_under job None files = Some base_refused
reload_under job (Some urls) files = option_map (outcome_at job urls) files

unfoldable pub reload_outcome : ReloadJob → Option Files → Option Outcome
reload_outcome job files = reload_under job (urls_of job) files
