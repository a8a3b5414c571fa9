-- The runs of a table, and of the rest of one.
use Rattle.std.specs.Prelude.{◌≡◌, ℕ, ◌+◌, ◌<◌, ◌≤◌, Bool, true, false, min, leb, length, get_or, List, [], ◌++◌, map, Option, Some, None}
use Rattle.std.specs.declared.rc.Rc.{Rc}
use Rattle.exact_time.specs.Time.{at_most}
use Rattle.timeline.specs.{Bounds.time_of_bound, RunSegments.{TimedRun, placed_run, timed}, declared.media_run.MediaRun.MediaRun}
use Rattle.timeline.specs.declared.{run_slice.Test.Test, run_slice.Test.TheVariants.{EndsBy, BeginsBy}, run_slice.RunSlice.RunSlice}
use Rattle.timeline.specs.declared.{run_table.RunTable.RunTable, shared_timeline.LaidTimeline.LaidTimeline}

abbrev pub media_of : {Z : Type 0} → Option (Rc LaidTimeline Z) → List MediaRun
media_of None = []
media_of (Some laid) = laid.value.media.runs.items

abbrev pub runs_at : ℕ → ℕ → RunTable → List TimedRun
runs_at ticks origin table = map (placed_run ticks origin) (media_of table.laid) ++ map timed table.own.items

abbrev pub slice_runs : RunSlice → List TimedRun
slice_runs s = map (placed_run s.limits.ticks s.limits.origin) s.media.now ++ map timed s.own.now

-- whether all segments of a run are before an index, or the first one ends by a bound
abbrev pub passes : Test → TimedRun → Bool
passes (EndsBy place) run = leb (min (run.before + run.count) 18446744073709551615) place
passes (BeginsBy bound) run = at_most run.end (time_of_bound bound)

-- the runs before `low` pass, and those from `high` on don't
pub record IsNarrowed (test : Test) (xs : List TimedRun) (low high : ℕ) : Type 0 where
  pub order : low ≤ high
  pub within : high ≤ length xs
  pub early : (m : ℕ) (d : TimedRun) → m < low → passes test (get_or xs m d) ≡ true
  pub late : (m : ℕ) (d : TimedRun) → high ≤ m → m < length xs → passes test (get_or xs m d) ≡ false
