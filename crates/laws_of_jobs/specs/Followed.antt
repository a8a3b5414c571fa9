-- What the MPD after snapshots of playlists is read as.
use Rattle.std.specs.{Prelude.{◌≡◌, ℕ, List, map, All, Some, None, option_map, Ok}, Result.result_ok}
use Rattle.iso_time.specs.Instant.{IsReadable}
use Rattle.mpd_tree.specs.Meaning.{reading_of}
use Rattle.mpd_rules.specs.Rules.{dash_values}
use Rattle.hls_master.specs.{declared.track.MasterTrack.MasterTrack, Masters.master_of, SeenTracks.track_seen}
use Rattle.segment_forms.specs.declared.form.Form.{Form}
use Rattle.dash_writer.specs.Live.{live_text}
use Rattle.hls_follow.specs.{declared.state.Followed.Followed, Histories.{AreAccepted, Playlists}}
use Rattle.laws_of_mpds.specs.{Live.{IsReadableMpd, live_shown}, Shown.shown_of, Written.HaveAddresses}

-- A snapshot with a timestamp that can be read, whose playlists have URLs as those that were read.
pub record IsReadRound (round : Playlists) : Type 0 where
  pub instant : IsReadable round.0
  pub addresses : All HaveAddresses round.1

-- A master playlist was read, and snapshots were accepted one after another, from the first one.
pub record AreFollowed (master url : List ℕ) (tracks : List MasterTrack) (rounds : List Playlists) (new : Followed) : Type 0 where
  pub read : master_of master url ≡ Ok (map track_seen tracks)
  pub accepted : AreAccepted tracks None rounds new
  pub each : All IsReadRound rounds

abbrev pub FollowedCanBeRead : Type 0
FollowedCanBeRead = (master url : List ℕ) (tracks : List MasterTrack) (rounds : List Playlists) (new : Followed)
    → AreFollowed master url tracks rounds new → IsReadableMpd new.mpd

-- The text is read back with the values of the MPD, whatever is available at a time.
abbrev pub FollowedAreRead : Type 0
FollowedAreRead = (form : Form) (master url : List ℕ) (tracks : List MasterTrack) (rounds : List Playlists) (new : Followed)
    → AreFollowed master url tracks rounds new
    → option_map (λ tree. shown_of (dash_values tree)) (result_ok (reading_of (live_text form new.mpd))) ≡ Some (live_shown form new.mpd)
