-- Whether the times of an MPD are the decode times of its media files.
use Rattle.bridge_courses.specs.declared.status.Verdict.TheVariants as verdict
use Rattle.bridge_report.specs.declared.refusal.Refusal.TheVariants as refusal
use Rattle.std.specs.Prelude.{ℕ, ◌^◌, List, ◌++◌, length, codes, decimal, Option, Some, None, option_map, Result, Ok}
use Rattle.bridge_io.specs.{Answer.and_then, Outside.Files}
use Rattle.fragment_times.specs.{declared.fault.SegmentSpot.SegmentSpot, Agreeing.first_apart}
use Rattle.presentation.specs.{Counting.count_of_all, Presented.Presented}
use Rattle.bridge_jobs.specs.declared.jobs.AgreeJob.{AgreeJob}
use Rattle.bridge_courses.specs.declared.status.Verdict.{Verdict}
use Rattle.bridge_report.specs.{Outcomes.{Outcome, outcome_told}, Reading.Named}
use Rattle.bridge_playlists.specs.{declared.place.StorePlace.StorePlace, Places.store_place_of}
use Rattle.bridge_steps.specs.{Endings.placed, Manifests.mpd_at}
use Rattle.bridge_reach.specs.FileTimes.{times_at}

-- ---- the report

unfoldable pub apart_text : (section track segment : ℕ) → List ℕ
apart_text section track segment =
    codes "disagree section " ++ decimal section ++ codes " track " ++ decimal track ++ codes " segment " ++ decimal segment ++ codes "\n"

unfoldable pub agree_text : (tracks sections segments : ℕ) → List ℕ
agree_text tracks sections segments =
    codes "agree tracks=" ++ decimal tracks ++ codes " sections=" ++ decimal sections ++ codes " segments=" ++ decimal segments
    ++ codes "\n"

abbrev pub agree_line : Presented → List ℕ
agree_line p = agree_text (length p.tracks) (length p.sections) (count_of_all p)

-- the report on an MPD's presentation, given its first segment with a different time
abbrev pub verdict_of : Presented → Option SegmentSpot → Verdict × List ℕ
verdict_of p None = (verdict.Done, agree_line p)
verdict_of p (Some spot) = (verdict.Differ, apart_text spot.section spot.track spot.segment)

-- ---- how the command ends

-- the MPD first; a live one is rejected after its rules; the decimals of printed durations don't matter here
abbrev pub mpd_read : StorePlace → Files → Result Presented Named
mpd_read place files = mpd_at (Some refusal.NotStatic) (10 ^ 6) None place files

-- and then its media files
unfoldable pub judged : StorePlace → Files → Result (Verdict × List ℕ) Named
judged place files =
    and_then (mpd_read place files) (λ p. and_then (times_at place files p) (λ times. Ok (verdict_of p (first_apart p times))))

abbrev pub agree_at : Option Files → StorePlace → Option Outcome
agree_at files place = option_map (λ files. outcome_told (judged place files)) files

unfoldable pub agree_outcome : AgreeJob → Option Files → Option Outcome
agree_outcome job files = placed (agree_at files) (store_place_of job.base job.mpd)
