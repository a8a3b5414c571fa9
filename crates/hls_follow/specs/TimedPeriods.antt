-- The Periods of a snapshot whose segments have their files' times (ISO/IEC 23009-1, 5.3.2 and 5.3.9).
use Rattle.std.specs.Prelude.{ℕ, ◌+◌, ◌-◌, ◌*◌, ◌^◌, max, sum, List, [], ◌∷◌, drop, get_or, length, take}
use Rattle.std.specs.{Prelude.{Some, Result, Ok}, Int.div_ceil}
use Rattle.bridge_io.specs.Answer.{and_then}
use Rattle.url_parts.specs.declared.address.Part.{Part}
use Rattle.hls_media.specs.declared.media.MediaSegment.{MediaSegment}
use Rattle.dash_writer.specs.{declared.live.LivePeriod.LivePeriod, declared.live.LiveRun.LiveRun, declared.live.LiveSegment.LiveSegment}
use Rattle.dash_writer.specs.declared.timed.TickRun.{TickRun}
use Rattle.layer_faults.specs.declared.live.LiveFault.{LiveFault}
use Rattle.hls_follow.specs.{declared.periods.Extent.Extent, OwnTimes.{Snapshot, map_of}, Periods.{end_of, extent_of, known_in, last_end}}
use Rattle.hls_follow.specs.Stretches.{Stretch, stretch_at}

-- ---- the content of a track in a section

-- segments, each of which begins where the one before it ends
abbrev pub segments_from : (time : ℕ) → (durations : List ℕ) → List MediaSegment → List LiveSegment
segments_from time durations [] = []
segments_from time [] (s ∷ segments) = []
segments_from time (duration ∷ durations) (s ∷ segments) =
    record { address = s.address; range = s.range; time = time; duration = duration } ∷ segments_from (time + duration) durations segments

abbrev pub live_segments : Stretch → TickRun → List LiveSegment
live_segments s run = segments_from run.first run.durations s.segments

abbrev pub run_with : Part → Stretch → TickRun → LiveRun
run_with map s run = record { initialization = map; scale = run.scale; offset = Some run.offset; segments = live_segments s run }

abbrev pub live_run : Stretch → TickRun → Result LiveRun LiveFault
live_run s run = and_then (map_of s.segments) (λ map. Ok (run_with map s run))

-- ---- a section

-- when the last segment of a track ends, in nanoseconds relative to its section's start, rounded up
abbrev pub nanos_of : TickRun → ℕ
nanos_of run = div_ceil ((run.first + sum run.durations - run.offset) * 10 ^ 9) run.scale

-- and the last of all tracks'
abbrev pub longest_behind : (former : ℕ) → List TickRun → ℕ
longest_behind former [] = former
longest_behind former (run ∷ row) = longest_behind (max former (nanos_of run)) row

abbrev pub longest_of : List TickRun → ℕ
longest_of row = longest_behind 0 row

-- the contents of the tracks in the section at an index, from a track on
abbrev pub live_runs : (place : ℕ) → List (List Stretch) → List TickRun → Result (List LiveRun) LiveFault
live_runs place tracks [] = Ok []
live_runs place [] (run ∷ row) = Ok []
live_runs place (own ∷ tracks) (run ∷ row) =
    and_then (live_run (stretch_at place own) run) (λ first. and_then (live_runs place tracks row) (λ others. Ok (first ∷ others)))

abbrev pub runs_at : Snapshot → (place : ℕ) → List TickRun → Result (List LiveRun) LiveFault
runs_at s place row = live_runs place s.tracks row

abbrev pub period_with : Snapshot → (number place : ℕ) → List TickRun → Extent → Result LivePeriod LiveFault
period_with s number place row extent = and_then (runs_at s place row) (λ runs. Ok
    (record { number = number; start = extent.start; longest = extent.longest; runs = runs }))

-- A section keeps its start, and the latest end that it ever had; one that begins starts where the one before it ends.
abbrev pub period_of : Snapshot → (former number place : ℕ) → List TickRun → Result LivePeriod LiveFault
period_of s former number place row =
    and_then (extent_of (known_in number s.periods) former (longest_of row)) (period_with s number place row)

abbrev pub period_at : Snapshot → (former place : ℕ) → List TickRun → Result LivePeriod LiveFault
period_at s former place row = period_of s former (get_or s.sections place 0) place row

-- ---- all sections, from an index on, after what ends at some time

abbrev pub periods_from : Snapshot → (former place : ℕ) → List ℕ → List TickRun → Result (List LivePeriod) LiveFault
periods_from s former place [] runs = Ok []
periods_from s former place (number ∷ sections) runs =
    and_then (period_of s former number place (take (length s.tracks) runs)) (λ period.
    and_then (periods_from s (end_of period) (place + 1) sections (drop (length s.tracks) runs)) (λ periods. Ok (period ∷ periods)))

abbrev pub periods_of : Snapshot → List TickRun → Result (List LivePeriod) LiveFault
periods_of s runs = periods_from s (last_end s.periods) 0 s.sections runs
