-- What the MPD of a run of `follow-hls-times` is read as.
use Rattle.std.specs.{Prelude.{◌≡◌, ℕ, List, map, All, None, Some, Ok, option_map}, Result.result_ok}
use Rattle.iso_time.specs.Instant.{IsReadable}
use Rattle.mpd_tree.specs.Meaning.{reading_of}
use Rattle.mpd_rules.specs.Rules.{dash_values}
use Rattle.hls_master.specs.{declared.track.MasterTrack.MasterTrack, Masters.master_of, SeenTracks.track_seen}
use Rattle.segment_forms.specs.declared.form.Form.{Form}
use Rattle.dash_writer.specs.{Live.live_text, declared.live.LivePeriod.LivePeriod}
use Rattle.hls_follow.specs.{declared.state.Followed.Followed, TimedHistories.{AreAccepted, Round}}
use Rattle.bridge_courses.specs.Courses.{Course}
use Rattle.bridge_reach.specs.TimedRoundLaws.{Run, left_by}
use Rattle.laws_of_mpds.specs.{Live.{live_shown}, Shown.shown_of, Written.HaveAddresses}
use Rattle.laws_of_jobs.specs.{Forms.LiveAreAlike, LiveLists.ListMeans, TimedFollowing.IsFollowingTimes}

-- A snapshot with a timestamp that can be read, whose playlists have URLs as those that were read.
pub record IsReadSnapshot (round : Round) : Type 0 where
  pub instant : IsReadable round.now
  pub addresses : All HaveAddresses round.medias

-- A master playlist was read, and snapshots were accepted one after another, from the first one.
pub record AreTimed (master url : List ℕ) (tracks : List MasterTrack) (folder : List ℕ) (rounds : List Round) (new : Followed)
    : Type 0 where
  pub read : master_of master url ≡ Ok (map track_seen tracks)
  pub accepted : AreAccepted tracks folder None rounds new
  pub each : All IsReadSnapshot rounds

-- ---- an MPD in a form

-- The text is read back with the values of the MPD, whatever is available at a time, and what it says of each run means the run's segments.
pub record IsRead (form : Form) (followed : Followed) : Type 0 where
  pub shown : option_map (λ tree. shown_of (dash_values tree)) (result_ok (reading_of (live_text form followed.mpd)))
      ≡ Some (live_shown form followed.mpd)
  pub mean : All (λ (period : LivePeriod). All (ListMeans form) period.runs) followed.mpd.periods

-- after the first n snapshots of a run, where one of them was accepted
abbrev pub TimedRunsAreRead : Type 0
TimedRunsAreRead = (words : List (List ℕ)) (run : Run) (course : Course) (n : ℕ) (followed : Followed) (form : Form)
    → IsFollowingTimes words run course → (left_by run n).0.follow.followed ≡ Some followed → IsRead form followed

-- in either form it means the same
abbrev pub TimedRunsAreAlike : Type 0
TimedRunsAreAlike = (words : List (List ℕ)) (run : Run) (course : Course) (n : ℕ) (followed : Followed)
    → IsFollowingTimes words run course → (left_by run n).0.follow.followed ≡ Some followed → LiveAreAlike followed.mpd
