-- The Periods of a live presentation (ISO/IEC 23009-1, 5.3.2): one for each listed section.
use Rattle.std.specs.Prelude.{ℕ, ◌+◌, ◌^◌, ◌==◌, nat_le, max, List, [], ◌∷◌, if◌then◌else◌, Option, Some, None, Result, Ok, Err}
use Rattle.bridge_io.specs.Answer.{and_then}
use Rattle.url_parts.specs.declared.address.Part.{Part}
use Rattle.dash_writer.specs.{declared.live.LivePeriod.LivePeriod, declared.live.LiveRun.LiveRun, declared.live.LiveSegment.LiveSegment}
use Rattle.layer_faults.specs.declared.live.LiveFault.{LiveFault}
use Rattle.layer_faults.specs.declared.live.LiveFault.TheVariants.{Limit, NoMap}
use Rattle.hls_follow.specs.{declared.periods.Extent.Extent, Groups.{row_at, row_end}, Times.{TimedSegment, last_in}}

-- ---- the content of a track in a section

abbrev pub live_segment : TimedSegment → LiveSegment
live_segment t = record { address = t.segment.address; range = t.segment.range; time = t.time; duration = t.segment.duration }

abbrev pub live_segments : List TimedSegment → List LiveSegment
live_segments [] = []
live_segments (t ∷ group) = live_segment t ∷ live_segments group

-- the map of the first segment, which every segment has
abbrev pub initialization_in : Option Part → Result Part LiveFault
initialization_in (Some part) = Ok part
initialization_in None = Err NoMap

abbrev pub initialization_of : List TimedSegment → Result Part LiveFault
initialization_of [] = Err NoMap
initialization_of (t ∷ group) = initialization_in t.segment.map

-- in nanoseconds relative to the section's start
abbrev pub nominal_run : Part → List TimedSegment → LiveRun
nominal_run part group = record { initialization = part; scale = 10 ^ 9; offset = None; segments = live_segments group }

abbrev pub run_of : List TimedSegment → Result LiveRun LiveFault
run_of group = and_then (initialization_of group) (λ part. Ok (nominal_run part group))

abbrev pub runs_of : List (List TimedSegment) → Result (List LiveRun) LiveFault
runs_of [] = Ok []
runs_of (group ∷ row) = and_then (run_of group) (λ run. and_then (runs_of row) (λ runs. Ok (run ∷ runs)))

-- ---- when a section begins, and when its longest track ends

-- what was known of a section
abbrev pub known_in : (number : ℕ) → List LivePeriod → Option Extent
known_in number [] = None
known_in number (p ∷ periods) = if p.number == number then Some
    (record { start = p.start; longest = p.longest }) else known_in number periods

-- less than 10^19 nanoseconds after the presentation's start
abbrev pub within_limit : (start longest : ℕ) → Result Extent LiveFault
within_limit start longest = if nat_le (10 ^ 19) (start + longest) then Err Limit else Ok (record { start = start; longest = longest })

-- A section keeps its start, and the latest end that it ever had; a new one begins where the one before it ends.
abbrev pub extent_of : Option Extent → (former longest : ℕ) → Result Extent LiveFault
extent_of (Some known) former longest = within_limit known.start (max known.longest longest)
extent_of None former longest = within_limit former longest

-- when the last of some sections ends
abbrev pub end_of : LivePeriod → ℕ
end_of p = p.start + p.longest

abbrev pub end_in : Option LivePeriod → ℕ
end_in None = 0
end_in (Some p) = end_of p

abbrev pub last_end : List LivePeriod → ℕ
last_end periods = end_in (last_in periods)

-- ---- Periods

abbrev pub period_with : (number : ℕ) → Extent → List (List TimedSegment) → Result LivePeriod LiveFault
period_with number extent row = and_then (runs_of row) (λ runs. Ok
    (record { number = number; start = extent.start; longest = extent.longest; runs = runs }))

-- the Period of a section, after what ends at some time
abbrev pub period_of : List LivePeriod → (former number : ℕ) → List (List TimedSegment) → Result LivePeriod LiveFault
period_of known former number row = and_then (extent_of (known_in number known) former (row_end row))
    (λ extent. period_with number extent row)

-- the Periods of sections, from an index on
abbrev pub periods_from : List LivePeriod → List (List (List TimedSegment)) → (former place : ℕ) → List ℕ
    → Result (List LivePeriod) LiveFault
periods_from known tracks former place [] = Ok []
periods_from known tracks former place (number ∷ sections) =
    and_then (period_of known former number (row_at tracks place))
    (λ period. and_then (periods_from known tracks (end_of period) (place + 1) sections) (λ periods. Ok (period ∷ periods)))
