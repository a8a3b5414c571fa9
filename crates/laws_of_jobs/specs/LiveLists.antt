-- What the segments of the MPD of a run of `follow-hls` mean.
use Rattle.std.specs.Prelude.{◌≡◌, ℕ, ◌+◌, ◌-◌, List, [], ◌∷◌, map, All, slice_get, Option, Some, None, unwrap_or}
use Rattle.bridge_io.specs.Outside.{Files}
use Rattle.exact_time.specs.Time.{Time, in_units}
use Rattle.meaning.specs.Meanings.{Entry, Segment}
use Rattle.timeline.specs.declared.entry.End.{End}
use Rattle.mpd_rules.specs.declared.rows.Description.{Description}
use Rattle.presentation.specs.{Meanings.entry_of, Presented.whole_window}
use Rattle.mpd_presentation.specs.Meanings.{content_meant}
use Rattle.hls_master.specs.declared.track.MasterTrack.{MasterTrack}
use Rattle.segment_forms.specs.declared.form.Form.{Form}
use Rattle.dash_writer.specs.{Live.part_of, declared.live.LivePeriod.LivePeriod, declared.live.LiveRun.LiveRun}
use Rattle.dash_writer.specs.declared.live.LiveSegment.{LiveSegment}
use Rattle.hls_follow.specs.{Listed.ListsTrack, declared.state.Followed.Followed, declared.state.FollowedTrack.FollowedTrack}
use Rattle.laws_of_mpds.specs.Live.{live_told}
use Rattle.bridge_jobs.specs.declared.jobs.MasterJob.{MasterJob}
use Rattle.bridge_courses.specs.Courses.{Course}
use Rattle.bridge_reach.specs.RoundLaws.{left_by}
use Rattle.laws_of_jobs.specs.RoundRuns.{IsFollowingRounds}

-- ---- a list

-- a media time of a run relative to its Period's start
abbrev pub time_in : LiveRun → ℕ → Time
time_in run time = in_units run.scale (time - unwrap_or run.offset 0)

-- a listed segment, relative to its Period's start
abbrev pub segment_of : LiveRun → LiveSegment → Segment
segment_of run s = record { part = part_of s; start = time_in run s.time; end = time_in run (s.time + s.duration) }

abbrev pub entry_with : LiveRun → List LiveSegment → Option Entry
entry_with run [] = None
entry_with run (s ∷ segments) = Some (record { initialization = run.initialization; segments = map (segment_of run) (s ∷ segments) })

-- What an MPD in a form says of a run means its segments, each with its file, its time and its duration, at any URL of the MPD and any
-- end of the Period, without filtering by a time (ISO/IEC 23009-1, 5.3.9). The MPD has no BaseURL.
abbrev pub ListMeans : Form → LiveRun → Type 0
ListMeans form run = (url : List ℕ) (end : End) (d : Description) → d.bases ≡ []
    → entry_of whole_window (content_meant url end d (live_told form run)) ≡ entry_with run run.segments

-- ---- a run

-- What the MPD, in a form, says of its runs means their segments, and those of each kept track are the segments of its last playlist,
-- in order, with their init segments, URLs, byte ranges, durations and times.
pub record ListsAreOfPlaylists (form : Form) (followed : Followed) : Type 0 where
  pub mean : All (λ (period : LivePeriod). All (ListMeans form) period.runs) followed.mpd.periods
  pub listed : (place : ℕ) (track : FollowedTrack) → slice_get followed.tracks place ≡ Some track
      → ListsTrack followed place track

abbrev pub LastPlaylistsAreMeant : Type 0
LastPlaylistsAreMeant =
    (words : List (List ℕ)) (job : MasterJob) (files : Files) (tracks : List MasterTrack) (input : List ℕ) (course : Course) (n : ℕ)
    (followed : Followed) → IsFollowingRounds words job files tracks input course
    → (left_by job tracks input n).follow.followed ≡ Some followed → ListsAreOfPlaylists job.form followed
