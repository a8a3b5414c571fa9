-- What is written of a job, and the line of the report.
use Rattle.publish_law.specs.declared.fault.PublishFault.TheVariants as fault
use Rattle.publish_core.specs.declared.refusal.Refused.TheVariants as refused
use Rattle.std.specs.Prelude.{ℕ, ◌+◌, ◌^◌, ◌&&◌, max, nat_le, nat_lt, Bool, false, List, [], ◌∷◌, ◌++◌, bytes_eq, length}
use Rattle.std.specs.Prelude.{if◌then◌else◌}
use Rattle.std.specs.Prelude.{Option, Some, None, is_some, unwrap_or, Result, Ok, Err}
use Rattle.std.specs.{Prelude.codes, List.{list_all, slice_get, sum_by}}
use Rattle.bridge_io.specs.{Answer.and_then, Outside.Files}
use Rattle.hls_writer.specs.declared.items.{MediaHead.MediaHead, MediaItem.MediaItem}
use Rattle.followed_text.specs.{Followed.text_of, declared.followed.FollowedText.FollowedText}
use Rattle.publish_law.specs.declared.{fault.PublishFault.PublishFault, plan.Publication.Publication, track.{Change.Change, Track.Track}}
use Rattle.publish_law.specs.{Lists.{saturated, track_of}, Plans.published}
use Rattle.publish_core.specs.{Names.{master_file, name_in}, Refusals.Named, Reports.{counts_line, first_line}}
use Rattle.publish_core.specs.Sides.{are_same_tracks, segment_limit}
use Rattle.publish_core.specs.Sides.{segments_of, side_at}
use Rattle.publish_core.specs.Taken.{is_taken}
use Rattle.publish_core.specs.declared.{decision.{Decision.Decision, NewFile.NewFile}, job.PublishJob.PublishJob}
use Rattle.publish_core.specs.declared.{next.FileNames.FileNames, report.Counts.Counts, side.{Side.Side, SideTrack.SideTrack}}

-- ---- files

-- the name of a file in the served folder; a master whose files have no room there isn't taken
abbrev pub name_or_form : (master : List ℕ) → Option (List ℕ) → Result (List ℕ) Named
name_or_form master None = Err (master, refused.Form)
name_or_form master (Some name) = Ok name

abbrev pub served_name : PublishJob → (master file : List ℕ) → Result (List ℕ) Named
served_name job master file = name_or_form master (name_in job.served file)

abbrev pub new_file : (name text : List ℕ) → NewFile
new_file name text = record { name = name; text = text }

-- the list of a head and items
abbrev pub list_of : MediaHead → List MediaItem → FollowedText
list_of head items = record { head = head; items = items }

abbrev pub is_small : MediaItem → Bool
is_small item = nat_lt item.section (2 ^ 63)

-- a playlist is read again: it has no more segments, bytes and no greater numbers
abbrev pub is_within_limits : FollowedText → (bytes : ℕ) → Bool
is_within_limits list bytes = nat_le (length list.items) 100000 && nat_le bytes 8388608 && nat_lt list.head.sequence (2 ^ 63)
    && list_all is_small list.items

-- the text of a playlist, unless it is above the limits: then the track's new file is refused
abbrev pub text_within : (name : List ℕ) → FollowedText → Result (List ℕ) Named
text_within name list = if is_within_limits list (length (text_of list)) then Ok (text_of list) else Err (name, refused.Limit)

-- ---- the first publication

abbrev pub all_ended : List SideTrack → Bool
all_ended tracks = list_all (λ (track : SideTrack). track.list.head.ended) tracks

-- the new list, with the greater one of its target duration and the job's
abbrev pub first_head : PublishJob → (ended : Bool) → MediaHead → MediaHead
first_head job ended head = record head { target = max head.target job.target; ended = ended }

abbrev pub first_list : PublishJob → (ended : Bool) → FollowedText → FollowedText
first_list job ended list = list_of (first_head job ended list.head) list.items

unfoldable pub first_file : PublishJob → (master : List ℕ) → (ended : Bool) → SideTrack → Result NewFile Named
first_file job master ended track = and_then (served_name job master track.file)
    (λ name. and_then (text_within track.name (first_list job ended track.list)) (λ text. Ok (new_file name text)))

abbrev pub first_with : Side → List NewFile → Decision
first_with new files = record { files = files; line = first_line (length new.tracks) (segments_of new.tracks) }

-- those of some tracks, after others
abbrev pub first_files : PublishJob → (master : List ℕ) → (ended : Bool) → List NewFile → List SideTrack → Result (List NewFile) Named
first_files job master ended files [] = Ok files
first_files job master ended files (track ∷ tracks) = and_then (first_file job master ended track)
    (λ file. first_files job master ended (files ++ file ∷ []) tracks)

-- the playlists, and then the master
unfoldable pub all_first : PublishJob → (ended : Bool) → Side → Result (List NewFile) Named
all_first job ended new = and_then (first_files job new.file ended [] new.tracks)
    (λ files. and_then (served_name job new.file master_file) (λ name. Ok (files ++ new_file name new.text ∷ [])))

unfoldable pub first_of : PublishJob → Side → Result Decision Named
first_of job new = and_then (all_first job (job.options.end && all_ended new.tracks) new) (λ files. Ok (first_with new files))

-- ---- a further one

-- the two lists of each track
abbrev pub paired : (new served : List SideTrack) → List Track
paired [] served = []
paired (new ∷ news) [] = []
paired (new ∷ news) (served ∷ more) = track_of served.list new.list ∷ paired news more

abbrev pub names_of : (new served : List SideTrack) → List FileNames
names_of [] served = []
names_of (new ∷ news) [] = []
names_of (new ∷ news) (served ∷ more) = record { new = new.name; served = served.name } ∷ names_of news more

-- the list that is served then
abbrev pub list_after : Track → Change → FollowedText
list_after track change = unwrap_or change.list track.served

-- the file of a track whose list changes
abbrev pub changed_file : FileNames → FollowedText → Result NewFile Named
changed_file names list = and_then (text_within names.new list) (λ text. Ok (new_file names.served text))

abbrev pub with_list : List NewFile → FileNames → Option FollowedText → Result (List NewFile) Named
with_list files names None = Ok files
with_list files names (Some list) = and_then (changed_file names list) (λ file. Ok (files ++ file ∷ []))

-- those of some tracks, after others
abbrev pub changed_files : List NewFile → List FileNames → List Change → Result (List NewFile) Named
changed_files files [] changes = Ok files
changed_files files (names ∷ more) [] = Ok files
changed_files files (names ∷ more) (change ∷ changes) =
    and_then (with_list files names change.list) (λ next. changed_files next more changes)

abbrev pub segments_after : List Track → List Change → ℕ
segments_after [] changes = 0
segments_after (track ∷ tracks) [] = 0
segments_after (track ∷ tracks) (change ∷ changes) = length (list_after track change).items + segments_after tracks changes

-- the new master where its text is another one
abbrev pub master_if : Side → Side → List NewFile
master_if new served = if bytes_eq new.text served.text then [] else new_file served.file new.text ∷ []

abbrev pub counts_of : List Change → Counts
counts_of changes = record {
  appended = saturated (sum_by (λ (change : Change). change.appended) changes);
  removed = saturated (sum_by (λ (change : Change). change.removed) changes);
}

abbrev pub line_of : List NewFile → Publication → List ℕ
line_of [] publication = codes "unchanged\n"
line_of (file ∷ files) publication = counts_line publication.course (counts_of publication.changes)

abbrev pub decided_with : List NewFile → Publication → Decision
decided_with files publication = record { files = files; line = line_of files publication }

abbrev pub unless_many : (master : List ℕ) → ℕ → List NewFile → Result (List NewFile) Named
unless_many master segments files = if nat_lt segment_limit segments then Err (master, refused.Limit) else Ok files

abbrev pub next_files : (master : List ℕ) → List FileNames → List Track → List Change → Result (List NewFile) Named
next_files master names tracks changes = and_then (changed_files [] names changes) (unless_many master (segments_after tracks changes))

-- why nothing is published, with the file to be named: a track's new one, or the new master
abbrev pub name_or : (master : List ℕ) → Option FileNames → List ℕ
name_or master None = master
name_or master (Some names) = names.new

abbrev pub name_at : (master : List ℕ) (track : ℕ) → List FileNames → List ℕ
name_at master track names = name_or master (slice_get names track)

abbrev pub named_fault : (master : List ℕ) → List FileNames → PublishFault → Named
named_fault master names (fault.Digits track) = (name_at master track names, refused.Digits)
named_fault master names fault.Ended = (master, refused.Ended)
named_fault master names fault.Back = (master, refused.Back)
named_fault master names (fault.LongSegment track segment) = (name_at master track names, refused.LongSegment segment)
named_fault master names fault.Memory = (master, refused.Form)

abbrev pub next_by : Side → Side → List FileNames → List Track → Result Publication PublishFault → Result Decision Named
next_by new served names tracks (Err f) = Err (named_fault new.file names f)
next_by new served names tracks (Ok publication) = and_then (next_files new.file names tracks publication.changes)
    (λ files. Ok (decided_with (files ++ master_if new served) publication))

unfoldable pub next_of : PublishJob → (new served : Side) → Result Decision Named
next_of job new served = if are_same_tracks new.tracks served.tracks
    then next_by new served (names_of new.tracks served.tracks) (paired new.tracks served.tracks)
    (published job.options (paired new.tracks served.tracks))
    else Err (new.file, refused.Tracks)

-- ---- the whole

abbrev pub is_there : Files → Option (List ℕ) → Bool
is_there files None = false
is_there files (Some name) = is_some (files name)

abbrev pub decision_with : PublishJob → Files → (new : Side) → Result Decision Named
decision_with job files new = if is_there files (name_in job.served master_file)
    then and_then (side_at job.served files (name_in job.served master_file)) (next_of job new)
    else first_of job new

-- The new side whole, and then the served one, of which nothing is read where it has no master. A new master that means something else
-- in the served folder isn't taken.
unfoldable pub decision_of : PublishJob → Files → Result Decision Named
decision_of job files = and_then (side_at job.new files (name_in job.new master_file)) (λ new.
    if is_taken job new then decision_with job files new else Err (new.file, refused.Form))
