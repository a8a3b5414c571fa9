-- What the MPD of a run of `dash-times` means.
use Rattle.bridge_courses.specs.declared.status.Status.TheVariants as status
use Rattle.std.specs.Prelude.{◌≡◌, ℕ, ◌-◌, ◌*◌, ◌<◌, ◌≤◌, ℤ, List, length, map, codes, get_or, All, Any, IfSome, Option, Some, Ok}
use Rattle.std.specs.Int.{◌∣◌}
use Rattle.bridge_io.specs.Outside.{Files}
use Rattle.exact_time.specs.Time.{in_units}
use Rattle.meaning.specs.{Meanings.{Entry, Meaning, Segment, Track}, Same.Pairwise}
use Rattle.hls_meaning.specs.Meanings.{hls_meaning}
use Rattle.mpd_presentation.specs.Meanings.{dash_meaning}
use Rattle.segment_forms.specs.declared.form.Form.{Form, TheVariants.{Plain, Players}}
use Rattle.presentation.specs.Presented.{Presented}
use Rattle.dash_writer.specs.{declared.timed.TickRun.TickRun, Timed.timed_text}
use Rattle.fragment_times.specs.{Parts.scale_at, Times.all_starts}
use Rattle.bridge_jobs.specs.{Laws.in_folder, declared.jobs.MasterJob.MasterJob}
use Rattle.bridge_courses.specs.{Courses.{Course, World}, Executions.IsExecution}
use Rattle.bridge_playlists.specs.{declared.place.StorePlace.StorePlace, Places.store_place_of}
use Rattle.bridge_reach.specs.Promises.{runs_in}
use Rattle.bridge_core.specs.{Courses.course_of, TimesPromises.AsksForTimes}
use Rattle.laws_of_mpds.specs.Timed.{AreJoined, EachEntry, SameButTimes}

-- ---- a track in a section

-- The start of a section, in the ticks of a track: in the plain form it's the decode time of the track's first file, and for
-- players it isn't after that.
abbrev pub IsStart : Form → (offset first : ℕ) → Type 0
IsStart Plain offset first = offset ≡ first
IsStart Players offset first = offset ≤ first

-- Each segment of a track in a section begins at the decode time of its own file minus the media time of the section's start, in
-- the timescale of the init segment (ISO/IEC 14496-12, 8.4.2 and 8.8.12; ISO/IEC 23009-1, 5.3.9.2), and ends when the next one
-- begins.
pub record HasFileTimes (form : Form) (folder : List ℕ) (files : Files) (entry : Entry) : Type 0 where
  pub scale : ℕ
  pub media : scale_at folder files entry.initialization ≡ Ok scale
  pub decode : List ℕ
  pub stated : all_starts folder files (map (λ (x : Segment). x.part) entry.segments) ≡ Ok decode
  pub offset : ℕ
  pub begins : IsStart form offset (get_or decode 0 0)
  pub starts : map (λ (x : Segment). x.start) entry.segments ≡ map (λ n. in_units scale (n - offset)) decode
  pub joined : AreJoined entry.segments

-- ---- the tracks of a section

-- For players a section starts at one media time for all its tracks: their offsets, over their timescales, are equal.
abbrev pub IsOneStart : Form → (offset scale other_offset other_scale : ℕ) → Type 0
IsOneStart Plain offset scale other_offset other_scale = Unit {0}
IsOneStart Players offset scale other_offset other_scale = offset * other_scale ≡ other_offset * scale

-- So for players its tracks stand in step: any two of its segments begin as far apart as the decode times of their files.
pub record AreInStep (form : Form) (folder : List ℕ) (files : Files) (one other : Entry) : Type 0 where
  pub first : HasFileTimes form folder files one
  pub second : HasFileTimes form folder files other
  pub start : IsOneStart form first.offset first.scale second.offset second.scale

abbrev pub IfBoth : (Entry → Entry → Type 0) → Option Entry → Option Entry → Type 0
IfBoth Of one other = IfSome one (λ x. IfSome other (λ y. Of x y))

-- what holds for each two tracks in each section in which both have content
abbrev pub EachTwo : (Entry → Entry → Type 0) → Meaning → Type 0
EachTwo Of m = All (λ (one : Track). All (λ (other : Track). Pairwise (IfBoth Of) one.entries other.entries) m.tracks) m.tracks

-- for players, less than a unit before the first of its segments, for each unit that divides the timescales of all tracks
abbrev pub IsNear : List TickRun → Type 0
IsNear runs = 0 < length runs → (n : ℕ) → All (λ (run : TickRun). n ∣ run.scale) runs
    → Any (λ (run : TickRun). (run.first - run.offset) * n < run.scale) runs

abbrev pub StartsNear : Form → List TickRun → Type 0
StartsNear Plain runs = Unit {0}
StartsNear Players runs = IsNear runs

-- ---- a run

-- The command's master playlist and its media playlists have a meaning (RFC 8216, 4.3), the written MPD has a meaning at
-- any URL and time (ISO/IEC 23009-1, 5.3), it is the same except for times, and the times are those of the files, in the command's
-- form.
pub record TimedMeansTheSame (job : MasterJob) (before after : Files) : Type 0 where
  pub place : StorePlace
  pub at : store_place_of job.base job.master ≡ Some place
  pub playlists : Meaning
  pub means : hls_meaning before place.folder place.url ≡ Some playlists
  pub text : List ℕ
  pub written : after (in_folder job.out (codes "manifest.mpd")) ≡ Some text
  pub mpd : Meaning
  pub told : (url : List ℕ) (now : Option ℤ) → dash_meaning text url now ≡ Some mpd
  pub same : SameButTimes playlists mpd
  pub times : EachEntry (HasFileTimes job.form place.folder before) mpd
  pub in_step : EachTwo (AreInStep job.form place.folder before) mpd
  pub presentation : Presented
  pub runs : List TickRun
  pub is : text ≡ timed_text job.form presentation runs
  pub near : (s : ℕ) → s < length presentation.sections → StartsNear job.form (runs_in presentation runs s)

-- Where such a run succeeds, this holds for the MPD that it wrote.
abbrev pub WrittenHasPlaylistsAndTimes : Type 0
WrittenHasPlaylistsAndTimes = (words : List (List ℕ)) (job : MasterJob) (input : Option (List ℕ)) (course : Course)
    (before after : World) (first last : Files)
    → AsksForTimes words job → before.files ≡ Some first → after.files ≡ Some last
    → course_of words (Some first) input ≡ Some course → IsExecution course status.Done before after → TimedMeansTheSame job first last
