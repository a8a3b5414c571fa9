-- The files of a followed MPD, frame by frame.
use Rattle.std.specs.Prelude.{◌≡◌, ◌⊎◌, ℕ, ◌≤◌, suc, true, false, List, [], ◌∷◌, ◌++◌, length, slice_get, Some, None}
use Rattle.bridge_io.specs.{InOrder.put_all, Outside.{Files, Changes}}
use Rattle.bridge_jobs.specs.declared.frame.Frame.{Frame}
use Rattle.bridge_jobs.specs.declared.jobs.{Addresses.TheVariants.Absolute, FollowJob.FollowJob, ReloadJob.ReloadJob}
use Rattle.bridge_courses.specs.Courses.{Course, files_to}
use Rattle.hls_writer.specs.Attributes.{playlist_name}
use Rattle.bridge_courses.specs.declared.status.Verdict.TheVariants.{Done}
use Rattle.bridge_report.specs.{Bases.file_url, Outcomes.{Ends}, Reading.manifest_limit}
use Rattle.live_meaning.specs.{Laws.media_of, States.State, Playlists.{FollowedPlaylist, playlist_of}}
use Rattle.laws_of_reloads.specs.{First.HoldState, Laws.{IsWithinLimits, Reloads}}
use Rattle.bridge_playlists.specs.{Reload.{lawful_line, reload_outcome}, declared.place.StorePlace.StorePlace}
use Rattle.bridge_steps.specs.Playlists.{spelling_in}
use Rattle.bridge_core.specs.Follow.{output_of_job, terms_at}
use Rattle.bridge_live.specs.LiveMpds.{frame_refusal}
use Rattle.laws_of_jobs.specs.Histories.{IsFollowing, frames_in, history_to, said_to, state_to}

-- ---- after some frames

-- the prefix of the files' names
abbrev pub prefix_of : FollowJob → List ℕ
prefix_of job = job.out ++ 47 ∷ []

-- a URL that a track's playlist can be read from: its own, or any one where the URLs in it are absolute
abbrev pub IsReadFrom : FollowJob → (t : ℕ) (url : List ℕ) → Type 0
IsReadFrom job t url = (job.addresses ≡ Absolute) ⊎ (url ≡ job.base ++ (prefix_of job ++ playlist_name t))

-- None of the first n frames is accepted; or the files are those of the state after the whole accepted history, with a master by what
-- the first accepted MPD says for players, where that is asked for.
abbrev pub HoldsHistory : FollowJob → StorePlace → (n : ℕ) (input : List ℕ) → Files → Type 0
HoldsHistory job place n input files =
    (history_to (terms_at job place) n input ≡ [])
    ⊎ ((s : State) × (state_to (terms_at job place) n input ≡ Some s)
    × HoldState files (prefix_of job) (spelling_in (output_of_job job)) (said_to job place n input) s)

-- After the files of any number of frames each track's file is the playlist of the whole accepted history.
abbrev pub FollowedFilesAreOfTheHistory : Type 0
FollowedFilesAreOfTheHistory =
    (words : List (List ℕ)) (job : FollowJob) (place : StorePlace) (input : List ℕ) (course : Course) (n : ℕ) (first last : Files)
    → IsFollowing words job place input course
    → Changes (put_all (files_to n course)) (Some first) (Some last) → HoldsHistory job place n input last

-- ---- playlist updates

-- a file's new text is read as a valid update of the playlist that its previous text is read as
pub record FileReloads (name url : List ℕ) (before after : Files) : Type 0 where
  pub old : List ℕ
  pub new : List ℕ
  pub was : before name ≡ Some old
  pub is : after name ≡ Some new
  pub reloads : Reloads old new url

-- at least one of the first n frames was accepted, and so is the one after them
pub record IsAnother (job : FollowJob) (place : StorePlace) (n : ℕ) (input : List ℕ) (s : State) : Type 0 where
  pub leaves : state_to (terms_at job place) n input ≡ Some s
  pub frame : Frame
  pub next : slice_get (frames_in input) n ≡ Some frame
  pub accepted : frame_refusal (terms_at job place) (Some s) frame ≡ None

-- From the second accepted frame on, each track's file is a valid update of the one before, at its URL, and where URLs are absolute
-- at each one.
abbrev pub FollowedFilesReload : Type 0
FollowedFilesReload =
    (words : List (List ℕ)) (job : FollowJob) (place : StorePlace) (input : List ℕ) (course : Course) (n : ℕ) (first before after : Files)
    (s : State) (t : ℕ) (playlist : FollowedPlaylist) (from : List ℕ)
    → IsFollowing words job place input course → IsReadFrom job t from → IsAnother job place n input s → playlist_of s t ≡ Some playlist
    → Changes (put_all (files_to n course)) (Some first) (Some before)
    → Changes (put_all (files_to (suc n) course)) (Some first) (Some after)
    → FileReloads (prefix_of job ++ playlist_name t) from before after

-- a file that has this text, no longer than a manifest may be, at this URL below a base
pub record IsManifest (base name url text : List ℕ) (files : Files) : Type 0 where
  pub located : file_url base name ≡ Some url
  pub there : files name ≡ Some text
  pub short : length text ≤ manifest_limit

-- Of a track's file before and after another accepted frame `reload` reports a valid update, with all segments of both, where the
-- numbers of both playlists are such as a reader takes.
abbrev pub FollowedFilesAreLawful : Type 0
FollowedFilesAreLawful =
    (words : List (List ℕ)) (job : FollowJob) (place : StorePlace) (input : List ℕ) (course : Course) (n : ℕ) (first before after : Files)
    (s next : State) (t : ℕ) (playlist renewed : FollowedPlaylist) (reload : ReloadJob) (old_url new_url old new : List ℕ) (files : Files)
    → IsFollowing words job place input course → IsReadFrom job t old_url → IsReadFrom job t new_url
    → IsAnother job place n input s → state_to (terms_at job place) (suc n) input ≡ Some next
    → playlist_of s t ≡ Some playlist → playlist_of next t ≡ Some renewed → IsWithinLimits playlist → IsWithinLimits renewed
    → Changes (put_all (files_to n course)) (Some first) (Some before)
    → Changes (put_all (files_to (suc n) course)) (Some first) (Some after)
    → before (prefix_of job ++ playlist_name t) ≡ Some old → after (prefix_of job ++ playlist_name t) ≡ Some new
    → IsManifest reload.base reload.old old_url old files → IsManifest reload.base reload.new new_url new files
    → reload_outcome reload (Some files) ≡ Some (Ends Done (lawful_line (media_of playlist) (media_of renewed)) true false)
