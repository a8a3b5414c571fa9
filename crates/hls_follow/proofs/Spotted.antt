-- The spots of segments, and what is told of those of a track and of a section.
use Rattle.fragment_times.specs.declared.fault.TimesFault.TheVariants as times
use Rattle.layer_faults.specs.declared.live.LiveFault.TheVariants as live
use Rattle.layer_faults.specs.declared.times.FileFault.TheVariants as file
use Rattle.std.proofs.Common.{◌≡◌, ◌<◌, ◌+◌, ◌-◌, ◌*◌, ℕ, zero, suc, nat_le, nat_lt, Bool, true, false, cond, List, [], ◌∷◌, ◌++◌, All}
use Rattle.std.proofs.Common.{get_or, length, take, drop, None, IfSome, unwrap_or, Result, Ok, Err, refl, sym, ◌∙◌, ap, subst}
use Rattle.std.proofs.lemmas.{List.drop_more, List.Elements.{All-head, All-nil, All-tail}, Option.{IfSome_then, slice_get_read}}
use Rattle.bridge_io.specs.Answer.{and_then, told_as}
use Rattle.hls_media.specs.Laws.{IsBoundedSegment}
use Rattle.dash_writer.specs.declared.timed.TickRun.{TickRun}
use Rattle.layer_faults.specs.declared.times.FileFault.{FileFault}
use Rattle.fragment_times.specs.{declared.fault.SegmentSpot.SegmentSpot, declared.fault.TimesFault.TimesFault}
use Rattle.fragment_times.specs.{declared.lasting.Clock.Clock, declared.times.SegmentTimes.SegmentTimes}
use Rattle.fragment_times.specs.Durations.{begun_at, is_late, last_ticks_of, ticks_behind, ticks_from, ticks_of}
use Rattle.fragment_times.specs.Refusals.{next_spot, refusal}
use Rattle.hls_follow.specs.{declared.timed_fault.TimedFault.TimedFault, declared.timed_fault.TimedFault.TheVariants.{Live, Times}}
use Rattle.hls_follow.specs.{OwnTimes.{Snapshot, behind, timed_told}, Stretches.{Stretch, stretch_at}}
use Rattle.hls_follow.specs.Ticks.{IsBoundedStretch, IsFaultOf, IsSpot, clock_with, is_out_of_order, last_ticks, run_with, runs_from}
use Rattle.hls_follow.specs.Ticks.{section_runs, stretch_in, told_at, track_run}
use Rattle.hls_follow.proofs.Telling.{more, refused}

-- ---- an error of a segment is of the same section and track

abbrev IsIn : (section track : ℕ) → TimesFault → Type 0
IsIn section track (times.Segment spot fault) = (spot.section ≡ section) × (spot.track ≡ track)
IsIn section track other = Unit {0}

abbrev AreIn : {X : Type 0} → (section track : ℕ) → Result X TimesFault → Type 0
AreIn section track (Ok x) = Unit {0}
AreIn section track (Err fault) = IsIn section track fault

module _ (section track : ℕ) where
  then_in : {X Y : Type 0} (first : Result X TimesFault) (next : X → Result Y TimesFault) → AreIn section track first
      → ((x : X) → AreIn section track (next x)) → AreIn section track (and_then first next)
  then_in (Ok x) next here there = there x
  then_in (Err other) next here there = here

late_in : (late : Bool) (at : SegmentSpot) (fault : FileFault) (ticks : ℕ)
    → AreIn at.section at.track (cond late (Err (times.Segment at fault)) (Ok ticks))
late_in true at fault ticks = (refl, refl)
late_in false at fault ticks = tt

order_in : (back far : Bool) (at : SegmentSpot) (one other : FileFault) (ticks : ℕ)
    → AreIn at.section at.track (cond back (Err (times.Segment at one)) (cond far (Err (times.Segment at other)) (Ok ticks)))
order_in true far at one other ticks = (refl, refl)
order_in false far at one other ticks = late_in far at other ticks

from_in : (clock : Clock) (last : ℕ) (at : SegmentSpot) (start : ℕ) (starts : List ℕ)
    → AreIn at.section at.track (ticks_from clock last (begun_at at start) starts)
from_in clock last at start [] =
    then_in at.section at.track (last_ticks_of clock last (begun_at at start)) _
    (late_in (is_late clock (start + last)) at file.Range last) (λ ticks. tt)
from_in clock last at start (next ∷ starts) =
    then_in at.section at.track (ticks_behind clock.scale start (begun_at (next_spot at) next)) _
    (order_in (nat_le next start) (nat_lt (1000000 * clock.scale) (next - start)) (next_spot at) file.Order file.Range (next - start))
    (λ ticks. then_in at.section at.track (ticks_from clock last (begun_at (next_spot at) next) starts) _
    (from_in clock last (next_spot at) next starts) (λ later. tt))

all_in : (at : SegmentSpot) (clock : Clock) (last : ℕ) (starts : List ℕ) → AreIn at.section at.track (ticks_of at clock last starts)
all_in at clock last [] = tt
all_in at clock last (start ∷ starts) = from_in clock last at start starts

same_spot : (s : Snapshot) (at : SegmentSpot) (fault : TimesFault) → IsIn at.section at.track fault → IsSpot s at → IsFaultOf s fault
same_spot s at (times.Segment spot fault) same here = record { section = rw same.0 here.section; track = rw same.1 here.track }
same_spot s at other same here = tt

pub told_spot : (s : Snapshot) (at : SegmentSpot) (clock : Clock) (last : ℕ) (starts : List ℕ) (fault : TimesFault)
    → IfSome (refusal fault) (λ f. ticks_of at clock last starts ≡ Err f) → IsSpot s at → IsFaultOf s fault
told_spot s at clock last starts times.Memory is here = tt
told_spot s at clock last starts times.Fault is here = tt
told_spot s at clock last starts other is here =
    same_spot s at other (subst (AreIn at.section at.track) is (all_in at clock last starts)) here

-- what stands for an error that isn't told isn't told
untold : (result fault : TimedFault) → timed_told fault ≡ None → IfSome (timed_told result) (λ f. f ≡ fault) → timed_told result ≡ None
untold (Live live.Memory) fault none is = refl
untold (Times times.Memory) fault none is = refl
untold (Times times.Fault) fault none is = refl
untold other fault none is = ap timed_told is ∙ none

-- ---- the segments of a track in a section

bounded_in : (place : ℕ) (own : List Stretch) → All IsBoundedStretch own → IsBoundedStretch (stretch_at place own)
bounded_in place [] are = All-nil IsBoundedSegment
bounded_in zero (s ∷ own) are = All-head IsBoundedStretch s own are
bounded_in (suc place) (s ∷ own) are = bounded_in place own (All-tail IsBoundedStretch s own are)

module _ (s : Snapshot) (at : SegmentSpot) (own : List Stretch) (given : Stretch) (within : at.track < length s.tracks)
    (there : own ≡ get_or s.tracks at.track own) (is : given ≡ stretch_at at.section (get_or s.tracks at.track own)) where
  pub bounded_stretch : All (All IsBoundedStretch) s.tracks → IsBoundedStretch given
  bounded_stretch are =
      subst IsBoundedStretch (sym is) (bounded_in at.section (get_or s.tracks at.track own) (are at.track own within))

  stretch_is : given ≡ stretch_in s at
  stretch_is = is ∙ ap (stretch_at at.section) (sym there) ∙ ap (λ o. stretch_at at.section (unwrap_or o []))
      (sym (slice_get_read s.tracks (length s.tracks) at.track own refl within there))

  -- and those in ticks
  module _ (offset : ℕ) (track : SegmentTimes) (last : ℕ) (starts : List ℕ) (order : is_out_of_order s at offset track ≡ false)
      (lasts : last ≡ last_ticks given.segments track.scale) (are : starts ≡ track.starts) where
    abbrev told : Result (List ℕ) TimesFault
    told = ticks_of at (clock_with track.scale offset) last starts

    abbrev run_by : Result (List ℕ) TimesFault → Result TickRun TimedFault
    run_by told = and_then (told_as (told_at s) told) (λ durations. Ok (run_with offset track durations))

    followed : run_by told ≡ track_run s at offset track
    followed = rw (order, are, lasts, stretch_is) refl

    pub run_told : (durations : List ℕ) → told ≡ Ok durations → track_run s at offset track ≡ Ok (run_with offset track durations)
    run_told durations e = sym followed ∙ ap run_by e

    one_refused : (result : TimedFault) (f : TimesFault) → IfSome (timed_told result) (λ g. g ≡ told_at s f) → told ≡ Err f
        → IfSome (timed_told result) (λ g. track_run s at offset track ≡ Err g)
    one_refused result f named e = IfSome_then (timed_told result) named (λ g same. sym followed ∙ ap run_by e ∙ ap Err (sym same))

    pub run_refused : (result : TimedFault) (fault : TimesFault) → IfSome (timed_told result) (λ f. f ≡ told_at s fault)
        → IfSome (refusal fault) (λ f. told ≡ Err f) → IfSome (timed_told result) (λ f. track_run s at offset track ≡ Err f)
    run_refused result times.Memory named e = rw (untold result (Times times.Memory) refl named) tt
    run_refused result times.Fault named e = rw (untold result (Times times.Fault) refl named) tt
    run_refused result other named e = one_refused result other named e

-- ---- a section, and then the others

module _ (s : Snapshot) (place : ℕ) (rest row later : List SegmentTimes) (former : List TickRun) (all : Result (List TickRun) TimedFault)
    (within : place < length s.sections) (front : row ≡ take (length s.tracks) rest) (back : later ≡ drop (length s.tracks) rest)
    (so_far : behind former (runs_from s place (drop place s.sections) rest) ≡ all) where
  abbrev others : Result (List TickRun) TimedFault
  others = runs_from s (place + 1) (drop (place + 1) s.sections) later

  next : behind former (and_then (section_runs s place row) (λ xs. and_then others (λ ys. Ok (xs ++ ys)))) ≡ all
  next = rw (front, back)
      (sym (ap (λ sections. behind former (runs_from s place sections rest)) (drop_more s.sections place 0 within)) ∙ so_far)

  pub row_told : (new : List TickRun) → behind former (section_runs s place row) ≡ Ok new → behind new others ≡ all
  row_told = more former all (section_runs s place row) others next

  pub row_refused : (fault : TimedFault) → IfSome (timed_told fault) (λ f. behind former (section_runs s place row) ≡ Err f)
      → IfSome (timed_told fault) (λ f. all ≡ Err f)
  row_refused = refused former all (section_runs s place row) others next
