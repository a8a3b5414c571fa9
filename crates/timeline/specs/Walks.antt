-- The segments that an iterator has left.
use Rattle.std.specs.Prelude.{◌≡◌, ℕ, ◌+◌, ◌<◌, ◌^◌, List, ◌++◌, take, Option, Some, None, option_map}
use Rattle.timeline.specs.{Expansions.{Extent, Timing, numbered}, RunSegments.{TimedRun, AreLaidFrom, IsRun, all_extents, extents_of_some}}
use Rattle.timeline.specs.{RunSegments.timed, RunTables.slice_runs, declared.time_walk.TimeWalk.TheInside.Inside}

-- how many segments are before the next one
abbrev pub place_of : Option TimedRun → ℕ
place_of None = 0
place_of (Some s) = s.before

abbrev pub rest_of : Inside → List Extent
rest_of walk = extents_of_some (option_map timed walk.now) ++ (all_extents (slice_runs walk.later)
    ++ extents_of_some (option_map timed walk.tail))

abbrev pub timings_left : Inside → List Timing
timings_left walk = numbered (walk.first_number + place_of (option_map timed walk.now)) (take walk.left (rest_of walk))

-- the current run is followed by the later ones
abbrev pub StandsIn : Option TimedRun → Inside → Type 0
StandsIn None walk = walk.left ≡ 0
StandsIn (Some s) walk = (0 < s.count) × IsRun s × AreLaidFrom (s.before + s.count) (slice_runs walk.later) (option_map timed walk.tail)
    (s.before + walk.left)

pub record IsWalk (walk : Inside) : Type 0 where
  pub stands : StandsIn (option_map timed walk.now) walk
  pub countable : 0 < walk.left → walk.first_number + (place_of (option_map timed walk.now) + walk.left) < 2 ^ 64
