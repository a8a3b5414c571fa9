-- What an MPD is read as that is written for playlists with the decode times of their media files.
use Rattle.std.specs.{Prelude.{◌≡◌, ℕ, ℤ, List, map, All, Option, Some, option_map, Ok}, Result.result_ok}
use Rattle.bridge_io.specs.Outside.{Files}
use Rattle.mpd_tree.specs.Meaning.{reading_of}
use Rattle.mpd_rules.specs.Rules.{dash_values}
use Rattle.hls_master.specs.{declared.track.MasterTrack.MasterTrack, Masters.master_of, SeenTracks.track_seen}
use Rattle.hls_media.specs.{Laws.IsBounded, declared.media.Media.Media}
use Rattle.hls_presentation.specs.Presenting.{hls_presented_of}
use Rattle.presentation.specs.{Meanings.meaning_of, Presented.Presented}
use Rattle.mpd_presentation.specs.Meanings.{dash_meaning}
use Rattle.segment_forms.specs.declared.form.Form.{Form}
use Rattle.fragment_times.specs.{Durations.durations_of, Times.times_of, declared.times.SegmentTimes.SegmentTimes}
use Rattle.dash_writer.specs.Timed.{timed_text}
use Rattle.bridge_reach.specs.DashTimes.{runs_of}
use Rattle.laws_of_mpds.specs.{Shown.shown_of, Timed.{IsTimed, timed_as, timed_shown}, Written.HaveAddresses}

-- A master playlist and media playlists like those that were read have a presentation, and their media files, whose folder
-- has a URL, have decode times, of which an MPD can be made in a form.
pub record HaveTimes (form : Form) (master url : List ℕ) (tracks : List MasterTrack) (medias : List Media) (folder : List ℕ)
    (files : Files) (p : Presented) (times : List SegmentTimes) (rows : List (List ℕ)) : Type 0 where
  pub read : master_of master url ≡ Ok (map track_seen tracks)
  pub bounded : All IsBounded medias
  pub addresses : All HaveAddresses medias
  pub presented : hls_presented_of tracks medias ≡ Ok p
  pub stated : times_of folder files p ≡ Ok times
  pub lasting : durations_of form p times ≡ Ok rows

abbrev pub TimedCanBeRead : Type 0
TimedCanBeRead = (form : Form) (master url : List ℕ) (tracks : List MasterTrack) (medias : List Media) (folder : List ℕ)
    (files : Files) (p : Presented) (times : List SegmentTimes) (rows : List (List ℕ))
    → HaveTimes form master url tracks medias folder files p times rows
    → IsTimed p (runs_of form p times rows)

-- at any URL and time
abbrev pub TimedMeanTheirTimes : Type 0
TimedMeanTheirTimes = (form : Form) (master url : List ℕ) (tracks : List MasterTrack) (medias : List Media) (folder : List ℕ)
    (files : Files) (p : Presented) (times : List SegmentTimes) (rows : List (List ℕ)) (at : List ℕ) (now : Option ℤ)
    → HaveTimes form master url tracks medias folder files p times rows
    → dash_meaning (timed_text form p (runs_of form p times rows)) at now ≡ Some (meaning_of (timed_as p (runs_of form p times rows)))

abbrev pub TimedAreRead : Type 0
TimedAreRead = (form : Form) (master url : List ℕ) (tracks : List MasterTrack) (medias : List Media) (folder : List ℕ)
    (files : Files) (p : Presented) (times : List SegmentTimes) (rows : List (List ℕ))
    → HaveTimes form master url tracks medias folder files p times rows
    → option_map (λ tree. shown_of (dash_values tree)) (result_ok (reading_of (timed_text form p (runs_of form p times rows))))
    ≡ Some (timed_shown form p (runs_of form p times rows))
