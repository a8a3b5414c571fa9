-- Which segments come to the served lists of all tracks, in which sections, and when none may.
use Rattle.publish_law.specs.declared.fault.PublishFault.TheVariants as fault
use Rattle.publish_law.specs.declared.plan.Course.TheVariants as course
use Rattle.std.specs.Prelude.{ℕ, ◌+◌, ◌-◌, ◌==◌, ◌&&◌, not, max, min, nat_lt, if◌then◌else◌, Bool, true, false, List, [], ◌∷◌, length, map}
use Rattle.std.specs.Prelude.{slice_get, Option, Some, None, is_some, option_map, unwrap_or, Result, Ok, Err}
use Rattle.std.specs.List.{fold, list_all, list_any}
use Rattle.bridge_io.specs.Answer.{and_then}
use Rattle.hls_writer.specs.declared.items.MediaItem.{MediaItem}
use Rattle.publish_law.specs.declared.{fault.PublishFault.PublishFault, joint.Shift.Shift, plan.{Course.Course, Options.Options, Plan.Plan}}
use Rattle.publish_law.specs.declared.{plan.{Publication.Publication, Share.Share}, track.{Change.Change, Track.Track}}
use Rattle.publish_law.specs.Lists.{change_by, fresh_items, long_in, no_shift, saturated}

-- ---- the tracks

abbrev pub is_served_ended : Track → Bool
is_served_ended track = track.served.head.ended

abbrev pub is_new_ended : Track → Bool
is_new_ended track = track.new.head.ended

abbrev pub has_other_digits : Track → Bool
has_other_digits track = not (track.served.head.digits == track.new.head.digits)

-- nothing of the track's new list is served, and nothing is fresh
abbrev pub is_back : Track → Bool
is_back track = not track.joint.met && (track.joint.fresh == 0)

-- the place of the first such track
abbrev pub first_place : (Track → Bool) → (place : ℕ) → List Track → Option ℕ
first_place test place [] = None
first_place test place (track ∷ tracks) = if test track then Some place else first_place test (place + 1) tracks

-- how many segments of the track are fresh: all of them after a version of long ago
abbrev pub fresh_of : (all : Bool) → Track → ℕ
fresh_of all track = if all then length track.new.items else track.joint.fresh

-- ---- the one number by which sections rise

-- the least section number of a track's fresh segments: that of the first, since section numbers don't fall
abbrev pub least_of : (all : Bool) → Track → Option ℕ
least_of all track = option_map (λ (item : MediaItem). item.section) (slice_get (fresh_items track (fresh_of all track)) 0)

abbrev pub lesser : Option ℕ → Option ℕ → Option ℕ
lesser None b = b
lesser (Some a) None = Some a
lesser (Some a) (Some b) = Some (min a b)

-- the least one of all tracks
abbrev pub least_of_all : (all : Bool) → List Track → Option ℕ
least_of_all all tracks = fold (λ (least : Option ℕ) (track : Track). lesser least (least_of all track)) None tracks

abbrev pub is_above : Shift → Shift → Bool
is_above a b = nat_lt (b.up + a.down) (a.up + b.down)

abbrev pub greater : Option Shift → Option Shift → Option Shift
greater None b = b
greater (Some a) None = Some a
greater (Some a) (Some b) = if is_above b a then Some b else Some a

-- the greatest rise of the tracks that are found
abbrev pub greatest_shift : List Track → Option Shift
greatest_shift tracks = fold (λ (shift : Option Shift) (track : Track). greater shift track.joint.found) None tracks

-- the section number of the served list's last segment
abbrev pub last_section : Track → ℕ
last_section track = unwrap_or (option_map (λ (item : MediaItem). item.section)
    (slice_get track.served.items (length track.served.items - 1))) 0

-- the greatest one of all tracks
abbrev pub greatest_last : List Track → ℕ
greatest_last tracks = fold (λ (last : ℕ) (track : Track). max last (last_section track)) 0 tracks

-- where the least section number rises so, it is above the track's served ones, unless the track is found
abbrev pub is_clear : (least : ℕ) → Shift → Track → Bool
is_clear least shift track = if is_some track.joint.found then true else nat_lt (last_section track + shift.down) (least + shift.up)

-- after a discontinuity, above all served section numbers
abbrev pub step_of : (least : ℕ) → List Track → Share
step_of least tracks = record { course = course.Stepped; shift = record { up = saturated (greatest_last tracks + 1); down = least } }

abbrev pub share_with : (least : ℕ) → Option Shift → List Track → Share
share_with least None tracks = step_of least tracks
share_with least (Some shift) tracks = if list_all (is_clear least shift) tracks
    then record { course = course.Joined; shift = shift } else step_of least tracks

abbrev pub share_from : Option ℕ → List Track → Share
share_from None tracks = record { course = course.Unchanged; shift = no_shift }
share_from (Some least) tracks = share_with least (greatest_shift tracks) tracks

-- Joined where some track is found and, with the greatest rise, the least fresh section number comes above the last one of each track
-- that isn't found; stepped otherwise.
unfoldable pub share_of : (all : Bool) → List Track → Share
share_of all tracks = share_from (least_of_all all tracks) tracks

-- ---- the plan

-- an ended list with others that aren't: a former publication was cut off
abbrev pub cut_plan : Plan
cut_plan = record { share = record { course = course.Ended; shift = no_shift }; cut = true; all = false; ending = true }

abbrev pub course_with : (ending : Bool) → Course → Course
course_with ending c = if ending then course.Ended else c

abbrev pub plan_with : (all ending : Bool) → Share → Plan
plan_with all ending share = record {
  share = record share { course = course_with ending share.course };
  cut = false;
  all = all;
  ending = ending;
}

abbrev pub plan_on : Options → (back : Bool) → List Track → Result Plan PublishFault
plan_on options back tracks = if back && not options.back then Err fault.Back
    else Ok (plan_with back (options.end && list_all is_new_ended tracks) (share_of back tracks))

abbrev pub plan_live : Options → List Track → Result Plan PublishFault
plan_live options tracks = if list_all is_served_ended tracks then Err fault.Ended
    else (if list_any is_served_ended tracks then Ok cut_plan else plan_on options (list_all is_back tracks) tracks)

abbrev pub plan_after : Options → List Track → Option ℕ → Result Plan PublishFault
plan_after options tracks (Some track) = Err (fault.Digits track)
plan_after options tracks None = plan_live options tracks

unfoldable pub plan_of : Options → List Track → Result Plan PublishFault
plan_of options tracks = plan_after options tracks (first_place has_other_digits 0 tracks)

-- ---- what it does to a track

abbrev pub cut_part : Track → Option Shift → ℕ × Shift
cut_part track None = (0, no_shift)
cut_part track (Some shift) = (track.joint.fresh, shift)

-- how many segments come, and by how much their section numbers rise: after a cut only where the track is found
abbrev pub part_of : Plan → Track → ℕ × Shift
part_of plan track = if plan.cut
    then (if is_served_ended track then (0, no_shift) else cut_part track track.joint.found)
    else (fresh_of plan.all track, plan.share.shift)

abbrev pub change_of : Plan → Track → Change
change_of plan track = change_by track (part_of plan track).0 (part_of plan track).1 plan.ending

-- the first fresh segment that is above its served target duration: the places of its track and in the track's new list
abbrev pub long_or : ℕ → Option ℕ → Option (ℕ × ℕ) → Option (ℕ × ℕ)
long_or place (Some segment) others = Some (place, segment)
long_or place None others = others

abbrev pub long_from : Plan → (place : ℕ) → List Track → Option (ℕ × ℕ)
long_from plan place [] = None
long_from plan place (track ∷ tracks) =
    long_or place (long_in track (part_of plan track).0) (long_from plan (place + 1) tracks)

-- ---- the publication

abbrev pub unless_long : Option (ℕ × ℕ) → Plan → List Track → Result Publication PublishFault
unless_long (Some long) plan tracks = Err (fault.LongSegment long.0 long.1)
unless_long None plan tracks = Ok (record { course = plan.share.course; changes = map (change_of plan) tracks })

abbrev pub published_by : List Track → Plan → Result Publication PublishFault
published_by tracks plan = unless_long (long_from plan 0 tracks) plan tracks

-- What becomes of the served lists of all tracks, or why nothing may.
unfoldable pub published : Options → List Track → Result Publication PublishFault
published options tracks = and_then (plan_of options tracks) (published_by tracks)

abbrev pub refusal : PublishFault → Option PublishFault
refusal fault.Memory = None
refusal f = Some f
