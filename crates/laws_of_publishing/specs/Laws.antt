-- What lists that are published have in common with those that were served.
use Rattle.publish_law.specs.declared.fault.PublishFault.TheVariants as fault
use Rattle.publish_law.specs.declared.plan.Course.TheVariants as course
use Rattle.std.specs.Prelude.{◌≡◌, ℕ, ◌+◌, ◌-◌, ◌*◌, ◌^◌, ◌<◌, ◌≤◌, ◌⊎◌, min, true, false, List, [], ◌∷◌, ◌++◌, length, map, drop, slice_get, Some, None}
use Rattle.std.specs.{Prelude.{IfSome, unwrap_or, Ok, Err}, List.{All, list_any}, List.Sorted.IsNonDecreasingBy}
use Rattle.hls_media.specs.declared.media.{Media.Media, MediaSegment.MediaSegment}
use Rattle.iso_time.specs.Instant.{IsWritable}
use Rattle.hls_writer.specs.declared.items.MediaItem.{MediaItem}
use Rattle.reload_law.specs.Rules.{lawful}
use Rattle.followed_text.specs.declared.followed.FollowedText.{FollowedText}
use Rattle.publish_law.specs.declared.{joint.Shift.Shift, plan.{Options.Options, Publication.Publication}, track.{Change.Change, Track.Track}}
use Rattle.publish_law.specs.Joints.{before_last, is_later, is_unlisted, joint_of, last_of, same_item}
use Rattle.publish_law.specs.{Lists.{first_section, three_targets, track_of, units_of}, Plans.{is_served_ended, last_section, published}}

-- ---- lists as their texts tell them

-- a segment, whose durations have so many decimals
abbrev pub segment_told : (digits : ℕ) → MediaItem → MediaSegment
segment_told digits item = record {
  address = item.address;
  range = item.range;
  map = Some item.map;
  duration = item.duration * 10 ^ (9 - digits);
  section = item.section;
}

abbrev pub media_told : FollowedText → Media
media_told list = record {
  target = list.head.target;
  sequence = list.head.sequence;
  ended = list.head.ended;
  segments = map (segment_told list.head.digits) list.items;
}

-- ---- publications

-- no segment's section number is below that of one before
abbrev pub AreInOrder : List MediaItem → Type 0
AreInOrder items = IsNonDecreasingBy (λ item. item.section) items

-- The two lists of a track as they are read: with segments, in the order of their sections.
pub record IsTrack (track : Track) : Type 0 where
  pub joint : track.joint ≡ joint_of track.served.items track.new.items
  pub some_served : 0 < length track.served.items
  pub some_new : 0 < length track.new.items
  pub served : AreInOrder track.served.items
  pub new : AreInOrder track.new.items

-- the numbers of a list are such as a text may have
pub record IsSmall (list : FollowedText) : Type 0 where
  pub sequence : list.head.sequence < 2 ^ 63
  pub sections : All (λ item. item.section < 2 ^ 63) list.items

-- What becomes of the served lists of some tracks.
pub record Accepted : Type 0 where
  pub options : Options
  pub tracks : List Track
  pub publication : Publication
  pub is : published options tracks ≡ Ok publication
  pub are_tracks : All IsTrack tracks

-- A track of which a list takes the served one's place.
pub record Replaced (a : Accepted) : Type 0 where
  pub place : ℕ
  pub track : Track
  pub change : Change
  pub list : FollowedText
  pub track_is : slice_get a.tracks place ≡ Some track
  pub change_is : slice_get a.publication.changes place ≡ Some change
  pub list_is : change.list ≡ Some list
  pub small : IsSmall list

-- the last so many segments
abbrev pub last_items : ℕ → List MediaItem → List MediaItem
last_items n items = drop (length items - n) items

-- the segments that are appended, and the new ones that they are
abbrev pub appended_in : {a : Accepted} → Replaced a → List MediaItem
appended_in r = last_items r.change.appended r.list.items

abbrev pub fresh_in : {a : Accepted} → Replaced a → List MediaItem
fresh_in r = last_items r.change.appended r.track.new.items

-- ---- laws

-- what takes a served list's place is a valid update of it
abbrev pub ListsReload : Type 0
ListsReload = (a : Accepted) (r : Replaced a) → lawful (media_told r.track.served) (media_told r.list) ≡ Ok tt

-- a segment but for its section
abbrev pub without_section : MediaItem → MediaItem
without_section item = record item { section = 0 }

-- Some first segments go, and those that stay keep their numbers and all their lines. What is appended are the last ones of
-- the new list in their order, but for their sections. The served list's last segment stays, and where the track isn't found as many
-- served ones as the new list has.
pub record GoesOn {a : Accepted} (r : Replaced a) : Type 0 where
  pub target : r.list.head.target ≡ r.track.served.head.target
  pub digits : r.list.head.digits ≡ r.track.served.head.digits
  pub sequence : r.list.head.sequence ≡ r.track.served.head.sequence + r.change.removed
  pub items : r.list.items ≡ drop r.change.removed r.track.served.items ++ appended_in r
  pub appended : map without_section (appended_in r) ≡ map without_section (fresh_in r)
  pub count : r.change.appended ≤ length r.track.new.items
  pub last_stays : r.change.removed < length r.track.served.items
  pub window_stays : r.track.joint.found ≡ None
      → min (length r.track.new.items) (length r.track.served.items) ≤ length r.track.served.items - r.change.removed

abbrev pub ListsGoOn : Type 0
ListsGoOn = (a : Accepted) (r : Replaced a) → GoesOn r

-- Where no discontinuity precedes the first appended segment, the new list has directly before it one that is the same as the served
-- list's last.
abbrev pub NoSilentGap : Type 0
NoSilentGap = (a : Accepted) (r : Replaced a) (last first : MediaItem) → last_of r.track.served.items ≡ Some last
    → slice_get (appended_in r) 0 ≡ Some first → first.section ≡ last.section
    → (item : MediaItem) × (before_last r.change.appended r.track.new.items ≡ Some item) × (same_item item last ≡ true)

-- nothing that is served comes again
abbrev pub NothingAgain : Type 0
NothingAgain = (a : Accepted) (r : Replaced a) → All (λ item. is_unlisted r.track.served.items item ≡ true) (fresh_in r)

-- in a track that isn't found what comes is dated after the served list's last segment, unless all of a list of long ago may come
abbrev pub NothingOld : Type 0
NothingOld = (a : Accepted) (r : Replaced a) (last : MediaItem) → a.options.back ≡ false → r.track.joint.found ≡ None
    → last_of r.track.served.items ≡ Some last → All (λ item. is_later last.date item ≡ true) (fresh_in r)

-- the section numbers of a track's appended segments are those of the new list, risen by one number
abbrev pub RisesBy : {a : Accepted} → Shift → Replaced a → Type 0
RisesBy shift r = (k : ℕ) (appended fresh : MediaItem) → slice_get (appended_in r) k ≡ Some appended
    → slice_get (fresh_in r) k ≡ Some fresh → appended.section + shift.down ≡ fresh.section + shift.up

-- by one number in all tracks, unless a former publication was cut off while it ended the lists
abbrev pub SectionsAreEven : Type 0
SectionsAreEven = (a : Accepted) → list_any is_served_ended a.tracks ≡ false → (shift : Shift) × ((r : Replaced a) → RisesBy shift r)

-- after such a cut each track rises by its own number, by which the new list's last segment that is served is the served list's last
abbrev pub SectionsAfterACut : Type 0
SectionsAfterACut = (a : Accepted) (r : Replaced a) (shift : Shift) → list_any is_served_ended a.tracks ≡ true
    → r.track.joint.found ≡ Some shift → RisesBy shift r

-- after a discontinuity, above all served section numbers
abbrev pub StepsAreAbove : Type 0
StepsAreAbove = (a : Accepted) (r : Replaced a) (place : ℕ) (other : Track) → a.publication.course ≡ course.Stepped
    → slice_get a.tracks place ≡ Some other → All (λ item. last_section other < item.section) (appended_in r)

-- ---- one run

-- The new list of a track is its served one's without some first segments and with more at the end, none of which is served, as a run
-- writes it that goes on: where some go, no more than one more than come, and what stays lasts three target durations.
pub record RunsOn (track : Track) : Type 0 where
  pub gone : ℕ
  pub more : List MediaItem
  pub items : track.new.items ≡ drop gone track.served.items ++ more
  pub some_stay : gone < length track.served.items
  pub few_go : gone ≤ length more + 1
  pub target : track.new.head.target ≡ track.served.head.target
  pub sequence : track.new.head.sequence ≡ track.served.head.sequence + gone
  pub first : track.new.head.first_section ≡ first_section 0 track.new.items
  pub digits : track.new.head.digits ≡ track.served.head.digits
  pub unlisted : All (λ item. is_unlisted track.served.items item ≡ true) more
  pub few : length track.served.items + length more < 2 ^ 63
  pub lasts : 0 < gone → three_targets track.served.head ≤ units_of track.new.items

-- Where all tracks run on, the lists that get a segment are the new ones, but for their ends.
abbrev pub RunsAreServed : Type 0
RunsAreServed = (a : Accepted) (r : Replaced a) → All RunsOn a.tracks → 0 < r.change.appended
    → r.list ≡ record r.track.new { head = record r.track.new.head { ended = r.list.head.ended } }

-- ---- dates

-- dates can be written
abbrev pub AreWritable : List MediaItem → Type 0
AreWritable items = All (λ (item : MediaItem). IsWritable item.date) items

pub record IsWritableTrack (track : Track) : Type 0 where
  pub served : AreWritable track.served.items
  pub new : AreWritable track.new.items

abbrev pub IsWritableChange : Change → Type 0
IsWritableChange change = IfSome change.list (λ list. AreWritable list.items)

-- what is published of dates that can be written can be written
abbrev pub PublishedIsWritable : Type 0
PublishedIsWritable = (options : Options) (tracks : List Track) (publication : Publication) → All IsWritableTrack tracks
    → published options tracks ≡ Ok publication → All IsWritableChange publication.changes

-- ---- the same again

-- the tracks as they are served after a publication, with the same new lists
abbrev pub tracks_after : List Track → List Change → List Track
tracks_after [] changes = []
tracks_after (track ∷ tracks) [] = []
tracks_after (track ∷ tracks) (change ∷ changes) =
    track_of (unwrap_or change.list track.served) track.new ∷ tracks_after tracks changes

abbrev pub StaysAsItIs : Change → Type 0
StaysAsItIs change = change.list ≡ None

-- The same publication again finds all lists ended, or changes none.
abbrev pub AgainIsUnchanged : Type 0
AgainIsUnchanged = (a : Accepted) → (published a.options (tracks_after a.tracks a.publication.changes) ≡ Err fault.Ended)
    ⊎ ((again : Publication) × ((published a.options (tracks_after a.tracks a.publication.changes) ≡ Ok again)
    × All StaysAsItIs again.changes))
