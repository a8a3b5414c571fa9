-- What a track's served list becomes.
use Rattle.std.specs.Prelude.{ℕ, ◌+◌, ◌-◌, ◌*◌, ◌^◌, ◌==◌, ◌&&◌, ◌||◌, not, min, nat_lt, nat_le, if◌then◌else◌, Bool, List, [], ◌∷◌, ◌++◌}
use Rattle.std.specs.Prelude.{length, map, drop, position, sum_by, Option, Some, None, is_some, unwrap_or, option_map, slice_get}
use Rattle.hls_writer.specs.{Finished.rounded, declared.items.MediaItem.MediaItem, declared.items.MediaHead.MediaHead}
use Rattle.followed_text.specs.declared.followed.FollowedText.{FollowedText}
use Rattle.publish_law.specs.declared.{joint.{Joint.Joint, Shift.Shift}, track.{Track.Track, Change.Change}}
use Rattle.publish_law.specs.Joints.{joint_of}

abbrev pub track_of : (served new : FollowedText) → Track
track_of served new = record { served = served; new = new; joint = joint_of served.items new.items }

-- ---- the fresh segments

-- numbers that are too great for 64 bits stay at the greatest one
abbrev pub saturated : ℕ → ℕ
saturated n = min n (2 ^ 64 - 1)

abbrev pub shifted : Shift → MediaItem → MediaItem
shifted shift item = record item { section = saturated (item.section + shift.up - shift.down) }

-- the last so many of the new segments
abbrev pub fresh_items : Track → ℕ → List MediaItem
fresh_items track fresh = drop (length track.new.items - fresh) track.new.items

-- a duration, to the nearest second with halves up, is above the target duration
abbrev pub is_long : (target unit : ℕ) → MediaItem → Bool
is_long target unit item = nat_lt target (rounded unit item.duration)

-- the place of the first of some last segments that is long
abbrev pub long_in : Track → ℕ → Option ℕ
long_in track fresh = option_map (λ at. length track.new.items - fresh + at)
    (position (is_long track.served.head.target (10 ^ track.served.head.digits)) (fresh_items track fresh))

-- ---- how many segments go

abbrev pub units_of : List MediaItem → ℕ
units_of items = sum_by (λ item. item.duration) items

-- How many segments may go, of some that last `left`, so that those that stay last so long.
abbrev pub gone : (left wanted : ℕ) → List MediaItem → ℕ
gone left wanted [] = 0
gone left wanted (item ∷ items) = if nat_le wanted (left - item.duration) then 1 + gone (left - item.duration) wanted items else 0

-- three target durations, in units of the last decimal
abbrev pub three_targets : MediaHead → ℕ
three_targets head = 3 * head.target * 10 ^ head.digits

-- Where the track is found at most one more goes than comes; otherwise as many of the served ones stay as the new list has, as far as
-- there are.
abbrev pub most_gone : Track → ℕ → ℕ
most_gone track fresh =
    if is_some track.joint.found then saturated (fresh + 1) else length track.served.items - length track.new.items

-- as many segments stay as the new list has
abbrev pub surplus : Track → ℕ → ℕ
surplus track fresh = saturated (length track.served.items + fresh) - length track.new.items

-- and those that stay last three target durations
abbrev pub removed_count : Track → ℕ → ℕ
removed_count track fresh =
    min (min (most_gone track fresh) (surplus track fresh))
    (gone (units_of track.served.items) (three_targets track.served.head - units_of (fresh_items track fresh)) track.served.items)

-- ---- the list

-- the served segments without the first ones, and the fresh ones
abbrev pub items_with : Track → (fresh removed : ℕ) → Shift → List MediaItem
items_with track fresh removed shift = drop removed track.served.items ++ map (shifted shift) (fresh_items track fresh)

abbrev pub first_section : ℕ → List MediaItem → ℕ
first_section otherwise [] = otherwise
first_section otherwise (item ∷ items) = item.section

abbrev pub list_with : MediaHead → (removed : ℕ) → (ended : Bool) → List MediaItem → FollowedText
list_with head removed ended items = record {
  head = record head {
    sequence = saturated (head.sequence + removed);
    first_section = first_section head.first_section items;
    ended = ended;
  };
  items = items;
}

abbrev pub changed : Track → (fresh removed : ℕ) → Shift → (ended : Bool) → Change
changed track fresh removed shift ended = record {
  list = Some (list_with track.served.head removed ended (items_with track fresh removed shift));
  appended = fresh;
  removed = removed;
}

abbrev pub unchanged : Change
unchanged = record { list = None; appended = 0; removed = 0 }

abbrev pub no_shift : Shift
no_shift = record { up = 0; down = 0 }

-- A track without fresh segments stays as it is, but for its end.
abbrev pub change_by : Track → (fresh : ℕ) → Shift → (ended : Bool) → Change
change_by track fresh shift ended = if fresh == 0
    then (if ended && not track.served.head.ended then changed track 0 0 shift ended else unchanged)
    else changed track fresh (removed_count track fresh) shift ended
