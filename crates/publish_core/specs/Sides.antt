-- The playlists of a folder, as its files have them.
use Rattle.bridge_report.specs.declared.refusal.Refusal.TheVariants as refusal
use Rattle.followed_text.specs.declared.fault.FollowedFault.TheVariants as followed
use Rattle.hls_media.specs.declared.fault.MediaFault.TheVariants as media
use Rattle.publish_core.specs.declared.refusal.Refused.TheVariants as refused
use Rattle.publish_core.specs.declared.refusal.Stop.TheVariants as stop
use Rattle.bridge_io.specs.declared.outside.Store.{Ghosts as Store}
use Rattle.std.specs.Prelude.{◌≡◌, ℕ, ◌&&◌, not, nat_lt, Bool, true, false, List, [], ◌∷◌, ◌++◌, codes, bytes_eq, length}
use Rattle.std.specs.Prelude.{if◌then◌else◌, Option}
use Rattle.std.specs.{Prelude.{Some, None, Result, Ok, Err, IsErrOf}, List.{All, list_any, sum_by}, Option.{ForSome, option_eq}}
use Rattle.bridge_io.specs.{Answer.{Gives, and_then, told_as}, Fault.HasCause, Outside.Files}
use Rattle.meaning.specs.Differences.{is_same_kind}
use Rattle.url_parts.specs.Addresses.{local_name_of}
use Rattle.hls_master.specs.declared.track.MasterTrack.{MasterTrack}
use Rattle.hls_media.specs.declared.fault.MediaFault.{MediaFault}
use Rattle.followed_text.specs.{Followed.followed_of, declared.fault.FollowedFault.FollowedFault}
use Rattle.followed_text.specs.{declared.followed.FollowedText.FollowedText}
use Rattle.hls_writer.specs.declared.items.MediaItem.{MediaItem}
use Rattle.iso_time.specs.Instant.{IsWritable}
use Rattle.bridge_report.specs.{Bases.{file_url, folder_url}, Reading.Named as NamedRefusal, Reading.content_of as whole_content}
use Rattle.bridge_playlists.specs.Playlists.{tracks_of}
use Rattle.publish_core.specs.{Names.{is_track_file, name_in}, Refusals.{Named, stopped}}
use Rattle.publish_core.specs.declared.refusal.{Refused.Refused, Stop.Stop}
use Rattle.publish_core.specs.declared.side.{Side.Side, SideTrack.SideTrack}

-- ---- what is read

-- What is read of a store's files: where they are modelled, what is given for them; a fault comes only where the count of failed reads
-- rose; and nothing is written.
pub record ReadsAs {F X Y : Type 0} (store : Store F) (old new : F) (shown : X → Y) (given : Files → Result Y Named)
    (result : Result X Stop) : Type 0 where
  pub read : ForSome (store.files old) (λ files. Gives shown stopped result (given files))
  pub cause : HasCause stop.ReadFault (store.read_faults old) (store.read_faults new) result
  pub files : store.files new ≡ store.files old
  pub writes : store.write_faults new ≡ store.write_faults old

abbrev pub of_file : {X : Type 0} → (file : List ℕ) → Result X Refused → Result X Named
of_file file read = told_as (λ refused. (file, refused)) read

abbrev pub read_refused : NamedRefusal → Named
read_refused named = (named.0, refused.Read named.1)

-- the whole content of a file
abbrev pub content_of : (file : List ℕ) → Files → Result (List ℕ) Named
content_of file files = told_as read_refused (whole_content file files)

-- no read failed
abbrev pub IsNoReadFault : {X : Type 0} → Result X Stop → Type 0
IsNoReadFault read = IsErrOf read stop.ReadFault → ⊥

-- ---- the master

-- the base URL of the store's root; no written text has it
abbrev pub base : List ℕ
base = codes "https://publish.example/"

abbrev pub master_under : (file bytes url : List ℕ) → Result (List MasterTrack) Named
master_under file bytes url = of_file file (told_as (λ f. refused.Read (refusal.Master f)) (tracks_of bytes url))

abbrev pub master_by : (file bytes : List ℕ) → Option (List ℕ) → Result (List MasterTrack) Named
master_by file bytes None = Err (file, refused.Read refusal.Base)
master_by file bytes (Some url) = master_under file bytes url

-- the tracks of the master that a file's bytes are
unfoldable pub master_in : (file bytes : List ℕ) → Result (List MasterTrack) Named
master_in file bytes = master_by file bytes (file_url base file)

-- ---- the tracks' files

-- the file of an address in a folder, if it lies there
abbrev pub FileName : Type 0
FileName = Option (List ℕ)

abbrev pub is_named : (name : List ℕ) → FileName → Bool
is_named name None = false
is_named name (Some other) = bytes_eq other name

-- a track's file is one of the folder, and no other track's
abbrev pub is_own_file : List FileName → FileName → Bool
is_own_file names None = true
is_own_file names (Some name) = is_track_file name && not (list_any (is_named name) names)

-- those of some tracks, after others
abbrev pub names_from : (file url : List ℕ) → List FileName → List MasterTrack → Result (List FileName) Named
names_from file url names [] = Ok names
names_from file url names (track ∷ tracks) = if is_own_file names (local_name_of url track.address)
    then names_from file url (names ++ local_name_of url track.address ∷ []) tracks else Err (file, refused.Form)

abbrev pub names_by : (file : List ℕ) → List MasterTrack → Option (List ℕ) → Result (List FileName) Named
names_by file tracks None = Err (file, refused.Read refusal.Base)
names_by file tracks (Some url) = names_from file url [] tracks

-- the URL of a folder under another
abbrev pub url_under : (base folder : List ℕ) → Option (List ℕ)
url_under base folder = folder_url (base ++ folder ++ codes "/")

unfoldable pub names_in : (folder file : List ℕ) → List MasterTrack → Result (List FileName) Named
names_in folder file tracks = names_by file tracks (url_under base folder)

-- ---- the tracks

-- out of memory says nothing about the file
abbrev pub refused_by : FollowedFault → Refused
refused_by (followed.Media fault) = refused.Read (refusal.Media fault)
refused_by followed.Form = refused.Form
refused_by followed.Memory = refused.Form

-- a file that is no media playlist is rejected, unless memory ran out
abbrev pub IsMediaRefused : (name : List ℕ) → MediaFault → Named → Type 0
IsMediaRefused name fault told = (told ≡ (name, refused.Read (refusal.Media fault))) × (fault ≡ media.Memory → ⊥)

abbrev pub list_in : (name url bytes : List ℕ) → Result FollowedText Named
list_in name url bytes = of_file name (told_as refused_by (followed_of bytes url))

unfoldable pub list_at : (name url : List ℕ) → Files → Result FollowedText Named
list_at name url files = and_then (content_of name files) (list_in name url)

abbrev pub track_with : MasterTrack → (own name : List ℕ) → FollowedText → SideTrack
track_with track own name list =
    record { kind = track.kind; language = track.language; file = own; name = name; list = list }

abbrev pub track_named : (file own : List ℕ) → Files → MasterTrack → Option (List ℕ) → Result SideTrack Named
track_named file own files track None = Err (file, refused.Form)
track_named file own files track (Some name) =
    and_then (list_at name track.address files) (λ list. Ok (track_with track own name list))

-- the track of an address with its file
abbrev pub track_at : (folder file : List ℕ) → Files → MasterTrack → FileName → Result SideTrack Named
track_at folder file files track None = Err (file, refused.Read refusal.OutsideBase)
track_at folder file files track (Some own) = track_named file own files track (name_in folder own)

abbrev pub segment_limit : ℕ
segment_limit = 500000

abbrev pub segments_of : List SideTrack → ℕ
segments_of tracks = sum_by (λ (track : SideTrack). length track.list.items) tracks

-- all playlists together have no more segments than this
abbrev pub within_limit : (file : List ℕ) → List SideTrack → Result (List SideTrack) Named
within_limit file tracks = if nat_lt segment_limit (segments_of tracks) then Err (file, refused.Read refusal.TooManySegments) else Ok tracks

-- one more track
unfoldable pub tracks_with : (folder file : List ℕ) → Files → List SideTrack → MasterTrack → FileName → Result (List SideTrack) Named
tracks_with folder file files lists track name = and_then (track_at folder file files track name)
    (λ list. within_limit file (lists ++ list ∷ []))

-- those of some tracks with their files, after others
abbrev pub tracks_from : (folder file : List ℕ) → Files → List SideTrack → List MasterTrack → List FileName → Result (List SideTrack) Named
tracks_from folder file files lists [] names = Ok lists
tracks_from folder file files lists (track ∷ tracks) [] = Ok lists
tracks_from folder file files lists (track ∷ tracks) (name ∷ names) =
    and_then (tracks_with folder file files lists track name) (λ next. tracks_from folder file files next tracks names)

-- dates can be written again
abbrev pub IsWritableList : FollowedText → Type 0
IsWritableList list = All (λ (item : MediaItem). IsWritable item.date) list.items

abbrev pub AreWritable : List SideTrack → Type 0
AreWritable tracks = All (λ (track : SideTrack). IsWritableList track.list) tracks

-- ---- the side

abbrev pub side_with : (file text : List ℕ) → List SideTrack → Side
side_with file text tracks = record { file = file; text = text; tracks = tracks }

abbrev pub side_by : (folder file : List ℕ) → Files → (text : List ℕ) → Result Side Named
side_by folder file files text = and_then (master_in file text) (λ master. and_then (names_in folder file master)
    (λ names. and_then (tracks_from folder file files [] master names) (λ tracks. Ok (side_with file text tracks))))

-- the playlists whose master is this file
unfoldable pub side_of : (folder file : List ℕ) → Files → Result Side Named
side_of folder file files = and_then (content_of file files) (side_by folder file files)

-- the side of a folder that has room for its master
abbrev pub side_at : (folder : List ℕ) → Files → Option (List ℕ) → Result Side Named
side_at folder files None = Err (folder, refused.Form)
side_at folder files (Some file) = side_of folder file files

-- ---- the same tracks

-- in kind, language and file
abbrev pub is_same_track : (new served : SideTrack) → Bool
is_same_track a b = is_same_kind a.kind b.kind && option_eq bytes_eq a.language b.language && bytes_eq a.file b.file

-- in number and order too
abbrev pub are_same_tracks : (new served : List SideTrack) → Bool
are_same_tracks [] [] = true
are_same_tracks [] (b ∷ bs) = false
are_same_tracks (a ∷ more) [] = false
are_same_tracks (a ∷ more) (b ∷ bs) = is_same_track a b && are_same_tracks more bs
