-- Both forms of the MPDs of playlists mean the same.
use Rattle.std.specs.Prelude.{◌≡◌, ℕ, ℤ, List, map, All, Option, Some, Ok}
use Rattle.bridge_io.specs.Outside.{Files}
use Rattle.hls_master.specs.{declared.track.MasterTrack.MasterTrack, Masters.master_of, SeenTracks.track_seen}
use Rattle.hls_media.specs.{Laws.IsBounded, declared.media.Media.Media}
use Rattle.hls_presentation.specs.Presenting.{hls_presented_of}
use Rattle.hls_follow.specs.{declared.state.Followed.Followed, Histories.Playlists}
use Rattle.presentation.specs.Presented.{Presented}
use Rattle.mpd_presentation.specs.Meanings.{dash_meaning}
use Rattle.fragment_times.specs.declared.times.SegmentTimes.{SegmentTimes}
use Rattle.segment_forms.specs.declared.form.Form.{Form, TheVariants.{Plain, Players}}
use Rattle.dash_writer.specs.{declared.live.LiveMpd.LiveMpd, declared.timed.TickRun.TickRun, Live.live_text, Manifest.manifest_text}
use Rattle.dash_writer.specs.Timed.{timed_text}
use Rattle.bridge_jobs.specs.declared.jobs.MasterJob.{MasterJob}
use Rattle.bridge_courses.specs.Courses.{Course}
use Rattle.bridge_reach.specs.{DashTimes.runs_of, RoundLaws.left_by}
use Rattle.laws_of_mpds.specs.Written.{HaveAddresses}
use Rattle.laws_of_jobs.specs.{Followed.AreFollowed, RoundRuns.IsFollowingRounds, Timed.HaveTimes}

-- ---- at any URL and time

-- of a presentation
abbrev pub AreAlike : Presented → Type 0
AreAlike p = (url : List ℕ) (now : Option ℤ)
    → dash_meaning (manifest_text Players p) url now ≡ dash_meaning (manifest_text Plain p) url now

-- of one with the decode times of its files
abbrev pub TimesAreAlike : Presented → List TickRun → Type 0
TimesAreAlike p runs = (url : List ℕ) (now : Option ℤ)
    → dash_meaning (timed_text Players p runs) url now ≡ dash_meaning (timed_text Plain p runs) url now

-- of a live one
abbrev pub LiveAreAlike : LiveMpd → Type 0
LiveAreAlike mpd = (url : List ℕ) (now : Option ℤ)
    → dash_meaning (live_text Players mpd) url now ≡ dash_meaning (live_text Plain mpd) url now

-- ---- of playlists that were read

-- a master playlist that was read, and playlists with the bounds of those that were read
abbrev pub ReadAreAlike : Type 0
ReadAreAlike = (master url : List ℕ) (tracks : List MasterTrack) (medias : List Media) (p : Presented)
    → master_of master url ≡ Ok (map track_seen tracks) → All IsBounded medias → All HaveAddresses medias
    → hls_presented_of tracks medias ≡ Ok p → AreAlike p

-- with the decode times of their media files, by the durations of either form
abbrev pub ReadTimesAreAlike : Type 0
ReadTimesAreAlike = (form : Form) (master url : List ℕ) (tracks : List MasterTrack) (medias : List Media) (folder : List ℕ)
    (files : Files) (p : Presented) (times : List SegmentTimes) (rows : List (List ℕ))
    → HaveTimes form master url tracks medias folder files p times rows → TimesAreAlike p (runs_of form p times rows)

-- after accepted snapshots
abbrev pub FollowedAreAlike : Type 0
FollowedAreAlike = (master url : List ℕ) (tracks : List MasterTrack) (rounds : List Playlists) (new : Followed)
    → AreFollowed master url tracks rounds new → LiveAreAlike new.mpd

-- after the first n snapshots of a run of `follow-hls`, where one of them was accepted
abbrev pub FollowedRunsAreAlike : Type 0
FollowedRunsAreAlike =
    (words : List (List ℕ)) (job : MasterJob) (files : Files) (tracks : List MasterTrack) (input : List ℕ) (course : Course) (n : ℕ)
    (followed : Followed) → IsFollowingRounds words job files tracks input course
    → (left_by job tracks input n).follow.followed ≡ Some followed → LiveAreAlike followed.mpd
