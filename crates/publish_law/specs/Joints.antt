-- Where the new list of a track goes on from the served one.
use Rattle.std.specs.Prelude.{ℕ, ℤ, ◌+◌, ◌-◌, min, ◌&&◌, not, nat_lt, bytes_eq, if◌then◌else◌, Bool, true, false, List, length, slice_get}
use Rattle.std.specs.{Prelude.{Option, Some, None, int_lt, is_some, option_map}, Ordering.int_eq, List.{list_any, suffix_len}}
use Rattle.std.specs.Option.{option_eq}
use Rattle.reload_law.specs.Rules.{same_part, same_range}
use Rattle.hls_writer.specs.declared.items.MediaItem.{MediaItem}
use Rattle.publish_law.specs.declared.joint.{Joint.Joint, Shift.Shift}

-- Address, range, map and date are the same. Durations aren't compared: another run may print the same segment one unit longer or
-- shorter.
abbrev pub same_item : MediaItem → MediaItem → Bool
same_item a b = int_eq a.date b.date && bytes_eq a.address b.address && option_eq same_range a.range b.range && same_part a.map b.map

-- no segment of the served list is the same
abbrev pub is_unlisted : List MediaItem → MediaItem → Bool
is_unlisted served item = not (list_any (same_item item) served)

-- how many segments follow the last one that is the same as a served one: all where there is none
abbrev pub unlisted_count : (served new : List MediaItem) → ℕ
unlisted_count served new = suffix_len (is_unlisted served) new

abbrev pub is_later : ℤ → MediaItem → Bool
is_later date item = int_lt date item.date

-- how many segments follow the last one dated at or before a time
abbrev pub later_count : ℤ → List MediaItem → ℕ
later_count date new = suffix_len (is_later date) new

-- the segment with so many after it
abbrev pub before_last : ℕ → List MediaItem → Option MediaItem
before_last n items = if nat_lt n (length items) then slice_get items (length items - n - 1) else None

-- the served list's last segment, the last one of the new list that is the same as a served one, and how many new segments stand
-- that and the last one dated at or before the served list's last
abbrev pub joint_with : (last met : Option MediaItem) → (unlisted later : ℕ) → Joint
joint_with None met unlisted later = record { met = is_some met; found = None; fresh = unlisted }
joint_with (Some last) None unlisted later = record { met = false; found = None; fresh = min unlisted later }
joint_with (Some last) (Some item) unlisted later = if same_item item last
    then record { met = true; found = Some (record { up = last.section; down = item.section }); fresh = unlisted }
    else record { met = true; found = None; fresh = min unlisted later }

abbrev pub last_of : List MediaItem → Option MediaItem
last_of items = before_last 0 items

abbrev pub later_than : Option MediaItem → List MediaItem → ℕ
later_than None new = length new
later_than (Some last) new = later_count last.date new

-- Where the new list goes on: the track is found where the last one of the new segments that is the same as a served one is the same
-- as the served list's last. Fresh are those after it, and in a track that isn't found only those dated later.
unfoldable pub joint_of : (served new : List MediaItem) → Joint
joint_of served new = joint_with (last_of served) (before_last (unlisted_count served new) new) (unlisted_count served new)
    (later_than (last_of served) new)
