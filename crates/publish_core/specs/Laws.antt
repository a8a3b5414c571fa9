-- What publications have in common.
use Rattle.bridge_courses.specs.declared.status.Status.TheVariants as status
use Rattle.publish_core.specs.declared.refusal.Refused.TheVariants as refused
use Rattle.std.specs.Prelude.{◌≡◌, ◌⊎◌, ℕ, ◌<◌, ◌^◌, ◌&&◌, Bool, true, false, List, [], ◌∷◌, ◌++◌, codes, map, slice_get, All, Option, Some}
use Rattle.std.specs.Prelude.{Ok, Err, Result, if◌then◌else◌, unwrap_or}
use Rattle.clap.specs.Words.{Text}
use Rattle.bridge_io.specs.declared.outside.Store.{Ghosts as Store}
use Rattle.bridge_io.specs.{Fault.Rose, Outside.{Appends, Files}}
use Rattle.bridge_courses.specs.declared.status.Status.{Status}
use Rattle.followed_text.specs.{Followed.text_of, declared.followed.FollowedText.FollowedText}
use Rattle.publish_law.specs.declared.track.{Change.Change, Track.Track}
use Rattle.laws_of_publishing.specs.Laws.{Accepted, Replaced}
use Rattle.publish_core.specs.Decisions.{all_ended, decision_of, first_list, is_there, list_after, master_if, paired}
use Rattle.publish_core.specs.{Names.{master_file, name_in, pending_file}, Placed.all_placed}
use Rattle.publish_core.specs.{Refusals.{Named, line_of}, Runs.{Decides, IsPlaced, IsRun, Refuses}}
use Rattle.publish_core.specs.{Sides.{content_of, list_at, side_at}, Words.job_of}
use Rattle.publish_core.specs.declared.{decision.{Decision.Decision, NewFile.NewFile}, job.PublishJob.PublishJob}
use Rattle.publish_core.specs.declared.side.{Side.Side, SideTrack.SideTrack}

-- ---- what is written

-- What is decided where something is served: of the playlists of both folders, as their files have them.
pub record Decided : Type 0 where
  pub job : PublishJob
  pub files : Files
  pub new : Side
  pub served : Side
  pub decision : Decision
  pub new_is : side_at job.new files (name_in job.new master_file) ≡ Ok new
  pub there : is_there files (name_in job.served master_file) ≡ true
  pub served_is : side_at job.served files (name_in job.served master_file) ≡ Ok served
  pub is : decision_of job files ≡ Ok decision

-- a file is that of a track's served playlist, with the text of the list that takes its place
pub record WritesList (a : Accepted) (served : List SideTrack) (file : NewFile) : Type 0 where
  pub replaced : Replaced a
  pub track : SideTrack
  pub at : slice_get served replaced.place ≡ Some track
  pub name : file.name ≡ track.name
  pub text : file.text ≡ text_of replaced.list

-- The playlists of both folders are such as the laws of lists speak of. What is written are texts of lists that take the served
-- ones' places, and then the new master where its text is another one.
pub record WritesLists (p : Decided) : Type 0 where
  pub accepted : Accepted
  pub options : accepted.options ≡ p.job.options
  pub tracks : accepted.tracks ≡ paired p.new.tracks p.served.tracks
  pub lists : List NewFile
  pub files : p.decision.files ≡ lists ++ master_if p.new p.served
  pub each : All (WritesList accepted p.served.tracks) lists

abbrev pub PublicationsWriteLists : Type 0
PublicationsWriteLists = (p : Decided) → WritesLists p

-- ---- what is written is read again

-- the file of a name is read as a list, whatever its URL
abbrev pub IsReadAs : Files → (name : List ℕ) → FollowedText → Type 0
IsReadAs files name list = (url : List ℕ) → list_at name url files ≡ Ok list

-- After all files took their places, the file of each served track is read as the list that the track's became, and the served master
-- is the new one.
pub record IsServed (p : Decided) (pending : List ℕ) : Type 0 where
  pub accepted : Accepted
  pub options : accepted.options ≡ p.job.options
  pub tracks : accepted.tracks ≡ paired p.new.tracks p.served.tracks
  pub lists : (place : ℕ) (served : SideTrack) (track : Track) (change : Change) → slice_get p.served.tracks place ≡ Some served
      → slice_get accepted.tracks place ≡ Some track → slice_get accepted.publication.changes place ≡ Some change
      → IsReadAs (all_placed pending p.decision.files p.files) served.name (list_after track change)
  pub master : content_of p.served.file (all_placed pending p.decision.files p.files) ≡ Ok p.new.text

abbrev pub PublicationsAreServed : Type 0
PublicationsAreServed = (p : Decided) (pending : List ℕ) → name_in p.job.served pending_file ≡ Some pending → IsServed p pending

-- ---- the served folder is read again

-- the served tracks with the lists that are served then
abbrev pub served_after : List SideTrack → List Change → List SideTrack
served_after [] changes = []
served_after (track ∷ tracks) [] = track ∷ tracks
served_after (track ∷ tracks) (change ∷ changes) =
    record track { list = unwrap_or change.list track.list } ∷ served_after tracks changes

-- the served playlists then, with the new master
abbrev pub side_after : (new served : Side) → List Change → Side
side_after new served changes = record { file = served.file; text = new.text; tracks = served_after served.tracks changes }

-- After all files took their places, the served folder is read: it has the new master, and the served tracks with the lists that their
-- own became.
pub record IsServedFolder (p : Decided) (pending : List ℕ) : Type 0 where
  pub accepted : Accepted
  pub options : accepted.options ≡ p.job.options
  pub tracks : accepted.tracks ≡ paired p.new.tracks p.served.tracks
  pub side : side_at p.job.served (all_placed pending p.decision.files p.files) (name_in p.job.served master_file)
      ≡ Ok (side_after p.new p.served accepted.publication.changes)

abbrev pub ServedFoldersAreRead : Type 0
ServedFoldersAreRead = (p : Decided) (pending : List ℕ) → name_in p.job.served pending_file ≡ Some pending → IsServedFolder p pending

-- ---- the first publication

-- What is decided where nothing is served.
pub record DecidedFirst : Type 0 where
  pub job : PublishJob
  pub files : Files
  pub new : Side
  pub decision : Decision
  pub new_is : side_at job.new files (name_in job.new master_file) ≡ Ok new
  pub none_there : is_there files (name_in job.served master_file) ≡ false
  pub is : decision_of job files ≡ Ok decision

-- a new track as it is served first
abbrev pub first_track : PublishJob → (ended : Bool) → SideTrack → SideTrack
first_track job ended track = record track { name = job.served ++ codes "/" ++ track.file; list = first_list job ended track.list }

-- the new playlists as they are served first
abbrev pub first_side : PublishJob → Side → Side
first_side job new = record {
  file = job.served ++ codes "/" ++ master_file;
  text = new.text;
  tracks = map (first_track job (job.options.end && all_ended new.tracks)) new.tracks;
}

-- After all files of a first publication took their places, the served folder is read: it has the new master, and the new tracks with
-- the lists that are served first.
abbrev pub FirstFoldersAreRead : Type 0
FirstFoldersAreRead = (p : DecidedFirst) (pending : List ℕ) → p.job.target < 2 ^ 31 → name_in p.job.served pending_file ≡ Some pending
    → side_at p.job.served (all_placed pending p.decision.files p.files) (name_in p.job.served master_file)
    ≡ Ok (first_side p.job p.new)

-- ---- the same publication again

-- The folders of a job that words give differ, and its target duration is one that a playlist may have.
pub record IsProper (job : PublishJob) : Type 0 where
  pub apart : job.new ≡ job.served → ⊥
  pub target : job.target < 2 ^ 31

abbrev pub JobsAreProper : Type 0
JobsAreProper = (words : List Text) (job : PublishJob) → job_of words ≡ Some job → IsProper job

-- what is decided where nothing is new: no file is written, unless all served lists are ended, and the publication is refused
abbrev pub nothing_new : (new : Side) → (served : List SideTrack) → Result Decision Named
nothing_new new served = if all_ended served then Err (new.file, refused.Ended)
    else Ok (record { files = []; line = codes "unchanged\n" })

-- After all files took their places, the same job finds nothing new.
pub record IsUnchanged (p : Decided) (pending : List ℕ) : Type 0 where
  pub accepted : Accepted
  pub options : accepted.options ≡ p.job.options
  pub tracks : accepted.tracks ≡ paired p.new.tracks p.served.tracks
  pub again : decision_of p.job (all_placed pending p.decision.files p.files)
      ≡ nothing_new p.new (served_after p.served.tracks accepted.publication.changes)

abbrev pub PublicationsAgainAreUnchanged : Type 0
PublicationsAgainAreUnchanged = (p : Decided) (pending : List ℕ) → IsProper p.job → name_in p.job.served pending_file ≡ Some pending
    → IsUnchanged p pending

abbrev pub FirstAgainIsUnchanged : Type 0
FirstAgainIsUnchanged = (p : DecidedFirst) (pending : List ℕ) → IsProper p.job → name_in p.job.served pending_file ≡ Some pending
    → decision_of p.job (all_placed pending p.decision.files p.files) ≡ nothing_new p.new (first_side p.job p.new).tracks

-- ---- how it ends

-- no count of faults rose
pub record IsCalm {F : Type 0} (store : Store F) (before after : F) (faults faults' : ℕ) : Type 0 where
  pub reads : Rose (store.read_faults before) (store.read_faults after) → ⊥
  pub writes : Rose (store.write_faults before) (store.write_faults after) → ⊥
  pub report : Rose faults faults' → ⊥

-- A run of a job in which no count rose is done with all its files, or refused without any, as it is decided of the files that were
-- there; or out of memory.
abbrev pub EndsCalmly : PublishJob → Status → (before after : Option Files) → Type 0
EndsCalmly job end before after = ((end ≡ status.Done) × Decides job before (IsPlaced job before after))
    ⊎ (((end ≡ status.Refused) × (Refuses job before (λ n. Unit {0}) × (after ≡ before))) ⊎ (end ≡ status.Memory))

abbrev pub CalmRunsAreDecided : {F : Type 0} → Store F → Type 0
CalmRunsAreDecided {F} store = (job : PublishJob) (end : Status) (before after : F) (faults faults' : ℕ)
    (report report' : Option (List ℕ)) → IsRun store (Some job) end before after faults faults' report report'
    → IsCalm store before after faults faults' → EndsCalmly job end (store.files before) (store.files after)

-- ---- the same run again

-- A run of a job, and how it ended.
pub record JobRun {F : Type 0} (store : Store F) (job : PublishJob) : Type 0 where
  pub end : Status
  pub before : F
  pub after : F
  pub faults_before : ℕ
  pub faults_after : ℕ
  pub report_before : Option (List ℕ)
  pub report_after : Option (List ℕ)
  pub is : IsRun store (Some job) end before after faults_before faults_after report_before report_after

-- Two runs of a job: the first one is done, and the second one begins with the files that the first one left. In the second one no
-- count of faults rose.
pub record RunTwice {F : Type 0} (store : Store F) (job : PublishJob) : Type 0 where
  pub first : JobRun store job
  pub files : Files
  pub modelled : store.files first.before ≡ Some files
  pub done : first.end ≡ status.Done
  pub again : JobRun store job
  pub begins : store.files again.before ≡ store.files first.after
  pub calm : IsCalm store again.before again.after again.faults_before again.faults_after

-- How a run ends that finds nothing new, and the line that it reports: done and unchanged, or, where all served lists are ended, the
-- refusal of the new master.
abbrev pub EndsUnchanged : PublishJob → (ended : Bool) → Status → (before after : Option (List ℕ)) → Type 0
EndsUnchanged job false end before after = (end ≡ status.Done) × Appends (codes "unchanged\n") before after
EndsUnchanged job true end before after =
    (end ≡ status.Refused) × Appends (line_of (job.new ++ codes "/" ++ master_file, refused.Ended)) before after

-- No file is changed. The served folder is read of these files, and the run ends as where nothing is new, or out of memory.
pub record FindsNothingNew {F : Type 0} {store : Store F} {job : PublishJob} (run : JobRun store job) : Type 0 where
  pub files : Files
  pub before : store.files run.before ≡ Some files
  pub after : store.files run.after ≡ Some files
  pub served : Side
  pub served_is : side_at job.served files (name_in job.served master_file) ≡ Ok served
  pub ends : EndsUnchanged job (all_ended served.tracks) run.end run.report_before run.report_after ⊎ (run.end ≡ status.Memory)

-- Where a run is done, the same words again find nothing new.
abbrev pub RunsAgainChangeNothing : {F : Type 0} → Store F → Type 0
RunsAgainChangeNothing {F} store =
    (words : List Text) (job : PublishJob) → job_of words ≡ Some job → (runs : RunTwice store job) → FindsNothingNew runs.again
