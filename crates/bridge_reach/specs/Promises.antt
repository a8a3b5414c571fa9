-- What `dash-times` guarantees for the MPD that it writes, and `agree` for what it reports (ISO/IEC 14496-12, 8.4.2 and
-- 8.8.12).
use Rattle.bridge_courses.specs.declared.status.Verdict.TheVariants as verdict
use Rattle.std.specs.Prelude.{◌≡◌, ◌⊎◌, ◌<◌, ◌≤◌, ℕ, ◌+◌, ◌*◌, Bool, true, false, List, [], ◌∷◌, length, drop, take, slice_get, Some, Ok}
use Rattle.std.specs.{Option.ForSome, Prelude.All}
use Rattle.bridge_io.specs.Outside.{Files}
use Rattle.url_parts.specs.declared.address.Part.{Part}
use Rattle.timeline.specs.{Expansions.Timing, Listed.offset_of}
use Rattle.segment_forms.specs.declared.form.Form.{Form, TheVariants.{Plain, Players}}
use Rattle.dash_writer.specs.declared.timed.TickRun.{TickRun}
use Rattle.fragment_times.specs.{declared.fault.SegmentSpot.SegmentSpot, Agreeing.is_same, Parts.{scale_at, start_at}, Times.all_starts}
use Rattle.fragment_times.specs.Times.{parts_of}
use Rattle.presentation.specs.{declared.parts.Content.Content, Meanings.part_meant, Presented.{Presented, content_at, listed_at}}
use Rattle.bridge_jobs.specs.declared.jobs.{AgreeJob.AgreeJob, MasterJob.MasterJob}
use Rattle.bridge_playlists.specs.{declared.place.StorePlace.StorePlace, Places.store_place_of, Playlists.presented_at}
use Rattle.bridge_report.specs.Outcomes.{Ends, Writes}
use Rattle.bridge_reach.specs.{Agree.{agree_outcome, apart_text}}
use Rattle.bridge_reach.specs.{Agree.mpd_read, DashTimes.{dash_times_outcome, files_of}}

-- ---- `dash-times`

-- the starts of consecutive segments with these durations, the first of which begins at `first`
abbrev pub starts_from : (first : ℕ) → (durations : List ℕ) → List ℕ
starts_from first [] = []
starts_from first (ticks ∷ later) = first ∷ starts_from (first + ticks) later

-- A run has the timescale of the init segment, and its segments begin at the decode times of their own files.
pub record AreFileTimes (folder : List ℕ) (files : Files) (initialization : Part) (segments : List Part) (run : TickRun) : Type 0 where
  pub scale : scale_at folder files initialization ≡ Ok run.scale
  pub starts : all_starts folder files segments ≡ Ok (starts_from run.first run.durations)

-- the content of a track in a section has these times
abbrev pub IsTimed : (folder : List ℕ) → Files → Presented → List TickRun → (s t : ℕ) → Type 0
IsTimed folder files p runs s t = ForSome (content_at p s t) (λ content. (run : TickRun) × (slice_get runs (s * length p.tracks + t)
    ≡ Some run)
    × AreFileTimes folder files content.initialization (parts_of content.runs (listed_at p s t)) run)

-- the presentation time offsets of two tracks, over their timescales, are one time
abbrev pub HaveOneOffset : TickRun → TickRun → Type 0
HaveOneOffset one other = one.offset * other.scale ≡ other.offset * one.scale

-- a track's Period doesn't start after its first segment, and starts at one time with those of the other tracks
pub record IsInStep (runs : List TickRun) (run : TickRun) : Type 0 where
  pub begins : run.offset ≤ run.first
  pub same : All (HaveOneOffset run) runs

-- a Period with these tracks: in the plain form it starts for each track with its own first segment, and for players at one time
abbrev pub AreStarted : Form → List TickRun → Type 0
AreStarted Plain runs = All (λ (run : TickRun). run.offset ≡ run.first) runs
AreStarted Players runs = All (IsInStep runs) runs

-- the tracks of a section
abbrev pub runs_in : Presented → List TickRun → (s : ℕ) → List TickRun
runs_in p runs s = take (length p.tracks) (drop (s * length p.tracks) runs)

-- the written MPD has the decode times of its segments' files
pub record IsWrittenTimed (job : MasterJob) (files : Files) (written : List (List ℕ × List ℕ)) : Type 0 where
  pub place : StorePlace
  pub at : store_place_of job.base job.master ≡ Some place
  pub presentation : Presented
  pub read : presented_at place files ≡ Ok presentation
  pub runs : List TickRun
  pub text : written ≡ files_of job (presentation, runs)
  pub timed : (s t : ℕ) → s < length presentation.sections → t < length presentation.tracks
      → IsTimed place.folder files presentation runs s t
  pub started : (s : ℕ) → s < length presentation.sections → AreStarted job.form (runs_in presentation runs s)

abbrev pub WrittenAreFileTimes : Type 0
WrittenAreFileTimes = (job : MasterJob) (files : Files) (written : List (List ℕ × List ℕ)) (line : List ℕ) (reads : Bool)
    → dash_times_outcome job (Some files) ≡ Some (Writes written line reads) → IsWrittenTimed job files written

-- ---- `agree`

-- Whether a listed segment's start plus `@presentationTimeOffset` is its file's decode time over the timescale of its
-- track's media, as fractions.
pub record IsCompared (same : Bool) (folder : List ℕ) (files : Files) (p : Presented) (s t k : ℕ) : Type 0 where
  pub content : Content
  pub has : content_at p s t ≡ Some content
  pub times : Timing
  pub listed : slice_get (listed_at p s t) k ≡ Some times
  pub scale : ℕ
  pub media : scale_at folder files content.initialization ≡ Ok scale
  pub decode : ℕ
  pub stated : start_at folder files (part_meant content.runs times) ≡ Ok decode
  pub is : is_same (offset_of content.runs) scale times.start decode ≡ same

-- by section, track and index
abbrev pub IsBefore : (s t k : ℕ) → SegmentSpot → Type 0
IsBefore s t k spot = (s < spot.section) ⊎ ((s ≡ spot.section) × ((t < spot.track) ⊎ ((t ≡ spot.track) × (k < spot.segment))))

-- the MPD of a command, with a property of its listed segments
pub record IsRead (job : AgreeJob) (files : Files) (Of : (folder : List ℕ) → Presented → Type 0) : Type 0 where
  pub place : StorePlace
  pub at : store_place_of job.base job.mpd ≡ Some place
  pub presentation : Presented
  pub read : mpd_read place files ≡ Ok presentation
  pub of : Of place.folder presentation

-- each one is the same
abbrev pub AllAgree : Files → (folder : List ℕ) → Presented → Type 0
AllAgree files folder p = (s t k : ℕ) → s < length p.sections → t < length p.tracks → k < length (listed_at p s t)
    → IsCompared true folder files p s t k

-- the reported one is the first that isn't
pub record IsFirstApart (files : Files) (line : List ℕ) (folder : List ℕ) (p : Presented) : Type 0 where
  pub spot : SegmentSpot
  pub told : line ≡ apart_text spot.section spot.track spot.segment
  pub section : spot.section < length p.sections
  pub track : spot.track < length p.tracks
  pub apart : IsCompared false folder files p spot.section spot.track spot.segment
  pub first : (s t k : ℕ) → IsBefore s t k spot → s < length p.sections → t < length p.tracks → k < length (listed_at p s t)
      → IsCompared true folder files p s t k

abbrev pub DoneAgrees : Type 0
DoneAgrees = (job : AgreeJob) (files : Files) (line : List ℕ) (reads counts : Bool)
    → agree_outcome job (Some files) ≡ Some (Ends verdict.Done line reads counts) → IsRead job files (AllAgree files)

abbrev pub DifferIsApart : Type 0
DifferIsApart = (job : AgreeJob) (files : Files) (line : List ℕ) (reads counts : Bool)
    → agree_outcome job (Some files) ≡ Some (Ends verdict.Differ line reads counts) → IsRead job files (IsFirstApart files line)
