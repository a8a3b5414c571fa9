-- Listing the tracks and sections of an MPD or of a master playlist.
use Rattle.bridge_courses.specs.declared.status.Verdict.TheVariants as verdict
use Rattle.std.specs.Prelude.{ℕ, ◌^◌, ◌==◌, ◌&&◌, ◌||◌, nat_le, Bool, false, List, [], ◌∷◌, length, codes, drop, slice_index, if◌then◌else◌}
use Rattle.std.specs.Prelude.{Option, None, option_map, Result, Ok}
use Rattle.bridge_io.specs.{Answer.and_then, Outside.Files}
use Rattle.presentation.specs.Presented.{Presented}
use Rattle.bridge_jobs.specs.declared.jobs.ShowJob.{ShowJob}
use Rattle.bridge_courses.specs.declared.status.Verdict.{Verdict}
use Rattle.bridge_report.specs.{Outcomes.{Outcome, outcome_told}, Reading.{Named, content_of}}
use Rattle.bridge_playlists.specs.{declared.place.StorePlace.StorePlace, Places.store_place_of, Playlists.presented_in}
use Rattle.bridge_steps.specs.{Endings.placed, Listing.shown, Manifests.mpd_in}

-- ---- which manifest it is

-- white space (XML 1.0, 2.3)
abbrev pub is_white : ℕ → Bool
is_white byte = byte == 32 || byte == 9 || byte == 10 || byte == 13

-- the first byte after white space is `<`
abbrev pub begins_with_tag : List ℕ → Bool
begins_with_tag [] = false
begins_with_tag (byte ∷ bytes) = if is_white byte then begins_with_tag bytes else byte == 60

-- there is a leading byte order mark
abbrev pub has_mark : List ℕ → Bool
has_mark bytes = nat_le 3 (length bytes) && (slice_index bytes 0 == 239 && (slice_index bytes 1 == 187 && slice_index bytes 2 == 191))

abbrev pub without_mark : List ℕ → List ℕ
without_mark bytes = if has_mark bytes then drop 3 bytes else bytes

abbrev pub is_mpd : List ℕ → Bool
is_mpd bytes = begins_with_tag (without_mark bytes)

-- ---- how the command ends

abbrev pub told : ShowJob → (word : List ℕ) → Presented → Result (Verdict × List ℕ) Named
told job word p = Ok (verdict.Done, shown word job.digits p)

-- an MPD, live or not
abbrev pub mpd_told : ShowJob → StorePlace → (bytes : List ℕ) → Result (Verdict × List ℕ) Named
mpd_told job place bytes = and_then (mpd_in None (10 ^ job.digits) job.instant place bytes) (told job (codes "mpd"))

abbrev pub master_told : ShowJob → StorePlace → Files → (bytes : List ℕ) → Result (Verdict × List ℕ) Named
master_told job place files bytes = and_then (presented_in place files bytes) (told job (codes "hls"))

unfoldable pub shown_at : ShowJob → StorePlace → Files → Result (Verdict × List ℕ) Named
shown_at job place files =
    and_then (content_of place.file files) (λ bytes. if is_mpd bytes then mpd_told job place bytes else master_told job place files bytes)

-- the file is at this location
abbrev pub show_at : ShowJob → Option Files → StorePlace → Option Outcome
show_at job files place = option_map (λ files. outcome_told (shown_at job place files)) files

unfoldable pub show_outcome : ShowJob → Option Files → Option Outcome
show_outcome job files = placed (show_at job files) (store_place_of job.base job.file)
