-- Whether an MPD and a master playlist with its media playlists agree.
use Rattle.meaning.specs.declared.difference.Aspect.TheVariants as aspect
use Rattle.bridge_courses.specs.declared.status.Verdict.TheVariants as verdict
use Rattle.bridge_report.specs.declared.refusal.Refusal.TheVariants as refusal
use Rattle.std.specs.Prelude.{ℕ, ◌^◌, List, ◌++◌, length, codes, decimal, Option, Some, None, option_map, Result, Ok}
use Rattle.std.specs.Option.{option_and_then}
use Rattle.bridge_io.specs.{Answer.and_then, Outside.Files}
use Rattle.meaning.specs.{Differences.first_difference, declared.difference.Aspect.Aspect, declared.difference.Difference.Difference}
use Rattle.presentation.specs.{Counting.count_of_all, Meanings.meaning_of, Presented.Presented}
use Rattle.bridge_jobs.specs.declared.jobs.CheckJob.{CheckJob}
use Rattle.bridge_courses.specs.declared.status.Verdict.{Verdict}
use Rattle.bridge_report.specs.{Outcomes.{Outcome, outcome_told}, Reading.Named}
use Rattle.bridge_playlists.specs.{declared.place.StorePlace.StorePlace, Places.store_place_of, Playlists.presented_at}
use Rattle.bridge_steps.specs.{Endings.placed, Manifests.mpd_at}

-- ---- the report

abbrev pub aspect_word : Aspect → List ℕ
aspect_word aspect.Sections = codes "sections"
aspect_word aspect.Tracks = codes "tracks"
aspect_word aspect.Track = codes "track"
aspect_word aspect.Initialization = codes "init"
aspect_word aspect.Address = codes "address"
aspect_word aspect.Range = codes "range"
aspect_word aspect.Time = codes "time"
aspect_word aspect.Count = codes "count"

unfoldable pub differ_text : (what : List ℕ) (section track segment : ℕ) → List ℕ
differ_text what section track segment =
    codes "differ " ++ what ++ codes " section " ++ decimal section ++ codes " track " ++ decimal track
    ++ codes " segment " ++ decimal segment ++ codes "\n"

abbrev pub differ_line : Difference → List ℕ
differ_line d = differ_text (aspect_word d.what) d.section d.track d.segment

unfoldable pub same_text : (tracks sections segments : ℕ) → List ℕ
same_text tracks sections segments =
    codes "same tracks=" ++ decimal tracks ++ codes " sections=" ++ decimal sections ++ codes " segments=" ++ decimal segments ++ codes "\n"

abbrev pub same_line : Presented → List ℕ
same_line p = same_text (length p.tracks) (length p.sections) (count_of_all p)

-- the report on an MPD's presentation, given the first difference
abbrev pub verdict_of : Presented → Option Difference → Verdict × List ℕ
verdict_of mpd None = (verdict.Done, same_line mpd)
verdict_of mpd (Some d) = (verdict.Differ, differ_line d)

-- ---- how the command ends

-- the locations of the command's MPD and master playlist
abbrev pub both_with : (mpd master : StorePlace) → StorePlace × StorePlace
both_with mpd master = (mpd, master)

unfoldable pub places_of : CheckJob → Option (StorePlace × StorePlace)
places_of job = option_and_then (λ mpd. option_map (both_with mpd) (store_place_of job.base job.master)) (store_place_of job.base job.mpd)

abbrev pub compared : (unit : ℕ) → (mpd playlists : Presented) → Verdict × List ℕ
compared unit mpd playlists = verdict_of mpd (first_difference unit (meaning_of mpd) (meaning_of playlists))

-- the MPD first; a live one is rejected after its rules; and then the playlists
unfoldable pub judged : CheckJob → (mpd master : StorePlace) → Files → Result (Verdict × List ℕ) Named
judged job mpd master files =
    and_then (mpd_at (Some refusal.NotStatic) (10 ^ job.digits) None mpd files) (λ p.
    and_then (presented_at master files) (λ playlists. Ok (compared (10 ^ job.digits) p playlists)))

abbrev pub check_at : CheckJob → Option Files → StorePlace × StorePlace → Option Outcome
check_at job files places = option_map (λ files. outcome_told (judged job places.0 places.1 files)) files

unfoldable pub check_outcome : CheckJob → Option Files → Option Outcome
check_outcome job files = placed (check_at job files) (places_of job)
