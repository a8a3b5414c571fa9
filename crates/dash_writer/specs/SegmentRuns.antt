-- Runs of segments, which may grow.
use Rattle.std.specs.Prelude.{◌≡◌, ℕ, ◌+◌, Bool, false, List, [], ◌∷◌, ◌++◌, replicate, Option, None, if◌then◌else◌}
use Rattle.dash_writer.specs.{Elements.Element, Runs.longest_runs, Segments.{s_element, s_elements, joins}}
use Rattle.dash_writer.specs.declared.times.SegmentRun.{SegmentRun}

-- a run of one segment
abbrev pub begun : (time : Option ℕ) → (duration : ℕ) → SegmentRun
begun time duration = record { time = time; duration = duration; repeats = 0 }

-- a run where segments aren't joined has one segment
abbrev pub IsAlone : (joined : Bool) → SegmentRun → Type 0
IsAlone joined run = joined ≡ false → run.repeats ≡ 0

-- the run with a further segment, or the one that this segment begins
abbrev pub gone_on : (joined : Bool) → SegmentRun → (duration : ℕ) → SegmentRun
gone_on joined run duration = if joins joined duration run.duration then record run { repeats = run.repeats + 1 } else begun None duration

-- the element of a run, where a further segment ends it
abbrev pub ended : (joined : Bool) → SegmentRun → (duration : ℕ) → List Element
ended joined run duration = if joins joined duration run.duration then [] else s_element run.time run.duration run.repeats ∷ []

-- the elements of a run and of the segments after it
abbrev pub runs_left : (joined : Bool) → SegmentRun → (durations : List ℕ) → List Element
runs_left joined run durations = s_elements run.time
    (longest_runs (joins joined) (run.duration ∷ (replicate run.repeats run.duration ++ durations)))
