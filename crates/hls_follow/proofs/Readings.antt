-- What is read within the limit is what is read without one.
use Rattle.layer_faults.specs.declared.live.LiveFault.TheVariants as live
use Rattle.std.proofs.Common.{◌≡◌, ℕ, ◌+◌, ◌-◌, nat_lt, Bool, true, false, cond, codes, List, [], ◌∷◌, ◌++◌, Option, Some, None, Result}
use Rattle.std.proofs.Common.{Ok, Err, refl, sym, ◌∙◌, ap}
use Rattle.bridge_io.specs.{Answer.and_then, Outside.Files}
use Rattle.bridge_io.proofs.AndThen.{steps_of}
use Rattle.hls_media.specs.declared.media.MediaSegment.{MediaSegment}
use Rattle.dash_writer.specs.{declared.live.LivePeriod.LivePeriod, declared.live.LiveRun.LiveRun}
use Rattle.fragment_times.specs.{declared.times.SegmentTimes.SegmentTimes, Parts.end_at}
use Rattle.hls_follow.specs.{declared.reading.Read.Read, declared.timed_fault.TimedFault.TimedFault}
use Rattle.hls_follow.specs.declared.timed_fault.TimedFault.TheVariants.{Live}
use Rattle.hls_follow.specs.OwnTimes.{Snapshot, alone, each, map_of, new_start, of_live, part_of, period_in, row_times, run_at}
use Rattle.hls_follow.specs.OwnTimes.{scale_of, section_times, starts_of, times_from, times_of, track_times}
use Rattle.hls_follow.specs.Readings.{Reads, charged_by, joined, known, most_bytes, read_from, read_map, read_new, read_row}
use Rattle.hls_follow.specs.Readings.{read_scale, read_section, read_start, read_starts, read_times, read_track, times_with}
use Rattle.hls_follow.specs.Stretches.{Stretch, new_in, stretch_at}

abbrev AreTold : {X : Type 0} → Reads X → Result X TimedFault → Type 0
AreTold {X = X} reads told = (left : ℕ) (r : Read X) → reads left ≡ Ok r → told ≡ Ok r.value

abbrev done : {X : Type 0} → X → Result X TimedFault
done x = Ok x

value_is : {X : Type 0} (x : X) (left : ℕ) (r : Read X) → known x left ≡ Ok r → done x ≡ Ok r.value
value_is {X = X} x left r is = (let same : record { value = x; left = left } ≡ r = cc in ap (λ (r : Read X). done r.value) same)

known_told : {X : Type 0} (x : X) → AreTold (known x) (Ok x)
known_told x left r is = value_is x left r is

within : {X : Type 0} (over : Bool) (x : X) (rest : ℕ) (r : Read X) → cond over (Err (Live live.Limit)) (known x rest) ≡ Ok r
    → done x ≡ Ok r.value
within true x rest r is = absurd (cc)
within false x rest r is = value_is x rest r is

charged_told : {X : Type 0} (bytes : ℕ) (told : Result X TimedFault) → AreTold (charged_by bytes told) told
charged_told bytes (Err f) left r is = absurd (cc)
charged_told bytes (Ok x) left r is = within (nat_lt left bytes) x (left - bytes) r is

module _ {X Y Z : Type 0} (give : X → Y → Z) where
  -- one, and then another
  joined_told : (one : Reads X) (other : Reads Y) (first : Result X TimedFault) (later : Result Y TimedFault)
      → AreTold one first → AreTold other later
      → AreTold (joined give one other) (and_then first (λ x. and_then later (λ y. Ok (give x y))))
  joined_told one other first later here there left r is =
      let a = steps_of (one left) _ r is in
      let b = steps_of (other a.value.left) _ r a.then in
      rw (here left a.value a.first, there a.value.left b.value b.first)
      (value_is (give a.value.value b.value.value) b.value.left r b.then)

map_told : (folder : List ℕ) (files : Files) (segments : List MediaSegment)
    → AreTold (read_map folder files segments) (scale_of folder files None (record { segments = segments; known = [] }))
map_told folder files segments left r is =
    let m = steps_of (of_live (map_of segments)) _ r is in
    rw m.first (charged_told (end_at (codes "moov") folder files m.value) _ left r m.then)

scale_told : (folder : List ℕ) (files : Files) (run : Option LiveRun) (s : Stretch)
    → AreTold (read_scale folder files run s) (scale_of folder files run s)
scale_told folder files (Some run) s = known_told run.scale
scale_told folder files None s = map_told folder files s.segments

alone_first : {X : Type 0} (first : Result X TimedFault) (later : Result (List X) TimedFault)
    → and_then first (λ x. and_then later (λ xs. Ok (x ∷ xs))) ≡ and_then (alone first) (λ ys. and_then later (λ xs. Ok (ys ++ xs)))
alone_first (Ok x) later = refl
alone_first (Err _) later = refl

new_told : (folder : List ℕ) (files : Files) (segments : List MediaSegment)
    → AreTold (read_new folder files segments) (each (new_start folder files) segments)
new_told folder files [] = known_told []
new_told folder files (s ∷ segments) = λ left r is.
    sym (alone_first (new_start folder files s) (each (new_start folder files) segments))
    ∙ joined_told (λ x xs. x ∷ xs) (read_start folder files s) (read_new folder files segments) (new_start folder files s)
    (each (new_start folder files) segments)
    (charged_told (end_at (codes "moof") folder files (part_of s)) (new_start folder files s)) (new_told folder files segments) left r is

starts_told : (folder : List ℕ) (files : Files) (s : Stretch) → AreTold (read_starts folder files s) (starts_of folder files s)
starts_told folder files s left r is =
    let a = steps_of (read_new folder files (new_in s) left) _ r is in
    rw (new_told folder files (new_in s) left a.value a.first) (value_is (s.known ++ a.value.value) a.value.left r a.then)

row_told : (folder : List ℕ) (files : Files) (period : Option LivePeriod) (place track : ℕ) (tracks : List (List Stretch))
    → AreTold (read_row folder files period place track tracks) (row_times folder files period place track tracks)
row_told folder files period place track [] = known_told []
row_told folder files period place track (own ∷ tracks) =
    let s = stretch_at place own in let run = run_at period track in
    joined_told (λ x xs. x ∷ xs) (read_track folder files run s) (read_row folder files period place (track + 1) tracks)
    (track_times folder files run s) (row_times folder files period place (track + 1) tracks)
    (joined_told times_with (read_scale folder files run s) (read_starts folder files s) (scale_of folder files run s)
    (starts_of folder files s) (scale_told folder files run s) (starts_told folder files s))
    (row_told folder files period place (track + 1) tracks)

from_told : (s : Snapshot) (files : Files) (place : ℕ) (sections : List ℕ)
    → AreTold (read_from s files place sections) (times_from s files place sections)
from_told s files place [] = known_told []
from_told s files place (number ∷ sections) =
    let period = period_in number s.periods in
    joined_told (λ xs ys. xs ++ ys) (read_section s files period place) (read_from s files (place + 1) sections)
    (section_times s files period place) (times_from s files (place + 1) sections) (row_told s.folder files period place 0 s.tracks)
    (from_told s files (place + 1) sections)

pub read_is : (s : Snapshot) (files : Files) (times : List SegmentTimes) → read_times s files ≡ Ok times → times_of s files ≡ Ok times
read_is s files times is =
    let a = steps_of (read_from s files 0 s.sections most_bytes) _ times is in
    let same : a.value.value ≡ times = (let h = a.then in cc) in
    from_told s files 0 s.sections most_bytes a.value a.first ∙ ap Ok same
