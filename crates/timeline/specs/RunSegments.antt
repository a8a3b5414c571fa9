-- The segments of a run.
use Rattle.std.specs.Prelude.{◌≡◌, ℕ, ◌+◌, ◌-◌, ◌*◌, ◌<◌, ◌≤◌, ◌^◌, pos, ◌+ℤ◌, ◌-ℤ◌, ◌<ℤ◌, unsigned_abs, List, [], ◌∷◌, ◌++◌, length, drop}
use Rattle.std.specs.Prelude.{slice_index_or, flat_map, count_by, Option, Some, None}
use Rattle.exact_time.specs.{Time.{Time, at_most}, Tick.time_of, declared.tick.Tick.Tick}
use Rattle.timeline.specs.{Expansions.{Extent, repeated, ended_by}, declared.run.Run.Run, declared.media_run.MediaRun.MediaRun}
use Rattle.timeline.specs.declared.run.Endless.{Endless}

-- a run with its times
pub record TimedRun : Type 0 where
  pub start : Time
  pub end : Time
  pub step : ℕ
  pub count : ℕ
  pub before : ℕ

abbrev pub timed : Run → TimedRun
timed run = record { start = time_of run.start; end = time_of run.end; step = run.step; count = run.count; before = run.before }

-- a run in media ticks at a timescale, relative to the media time of the Period's start
abbrev pub placed_run : ℕ → ℕ → MediaRun → TimedRun
placed_run ticks origin run = record {
  start = record { ticks = pos run.start -ℤ pos origin; scale = ticks };
  end = record { ticks = pos (run.start + run.step) -ℤ pos origin; scale = ticks };
  step = run.step;
  count = run.count;
  before = run.before;
}

abbrev pub one_extent : Tick → Tick → Extent
one_extent start end = record { start = time_of start; end = time_of end }

abbrev pub head_of : TimedRun → Extent
head_of s = record { start = s.start; end = s.end }

abbrev pub extents_of : TimedRun → List Extent
extents_of s = repeated s.count (head_of s)

abbrev pub extents_of_some : Option TimedRun → List Extent
extents_of_some None = []
extents_of_some (Some s) = extents_of s

-- where there are several segments, they last `step` ticks of one scale
pub record IsRun (s : TimedRun) : Type 0 where
  pub start_is : 0 < s.start.scale
  pub end_is : 0 < s.end.scale
  pub start_near : unsigned_abs s.start.ticks < 2 ^ 64
  pub end_near : unsigned_abs s.end.ticks < 2 ^ 64
  pub lasting : 0 < s.step
  pub one_scale : 1 < s.count → s.start.scale ≡ s.end.scale
  pub in_ticks : 1 < s.count → s.end.ticks ≡ s.start.ticks +ℤ pos s.step
  pub near : (s.end.ticks +ℤ pos (s.count * s.step)) <ℤ pos (2 ^ 64)
  pub countable : s.before + s.count < 2 ^ 64

-- the segments of a run from an index on, at least one
pub record IsRestOf (whole : TimedRun) (place : ℕ) (rest : TimedRun) : Type 0 where
  pub is : IsRun rest
  pub some : 0 < rest.count
  pub placed : rest.before ≡ place
  pub end : rest.before + rest.count ≡ whole.before + whole.count
  pub extents : extents_of rest ≡ drop (place - whole.before) (extents_of whole)

-- one segment, after a number of others
pub record IsOne (before : ℕ) (x : Extent) (s : TimedRun) : Type 0 where
  pub is : IsRun s
  pub placed : s.before ≡ before
  pub one : s.count ≡ 1
  pub head : head_of s ≡ x

-- the segments of a run last `step` ticks of one scale, and this one follows them, with room for one more
pub record GoesOnAs (s : TimedRun) (x : Extent) : Type 0 where
  pub one_scale : s.start.scale ≡ s.end.scale
  pub in_ticks : s.end.ticks ≡ s.start.ticks +ℤ pos s.step
  pub start_is : x.start ≡ record { ticks = s.start.ticks +ℤ pos (s.count * s.step); scale = s.start.scale }
  pub end_is : x.end ≡ record { ticks = s.end.ticks +ℤ pos (s.count * s.step); scale = s.end.scale }
  pub near : (x.end.ticks +ℤ pos s.step) <ℤ pos (2 ^ 64)

-- the segments of a run with one more after them
pub record IsLonger (s : TimedRun) (x : Extent) (more : TimedRun) : Type 0 where
  pub is : IsRun more
  pub placed : more.before ≡ s.before
  pub one_more : more.count ≡ s.count + 1
  pub extents : extents_of more ≡ extents_of s ++ x ∷ []

-- how many of these segments end at or before a time
abbrev pub count_ended : Time → List Extent → ℕ
count_ended time xs = count_by (λ x. at_most x.end time) xs

-- the first one of segments that repeat without end
abbrev pub first_of : Endless → Extent
first_of e = record { start = time_of e.start; end = record { ticks = e.start.n +ℤ pos e.step; scale = e.start.scale } }

pub record IsEndless (e : Endless) : Type 0 where
  pub lasting : 0 < e.step

-- the first `count` of the segments are a valid run
pub record HasRoom (e : Endless) (count : ℕ) : Type 0 where
  pub near : 0 < count → (e.start.n +ℤ pos ((count + 1) * e.step)) <ℤ pos (2 ^ 64)
  pub countable : e.before + count < 2 ^ 64

abbrev pub endless_count : Endless → Time → ℕ
endless_count e instant = ended_by instant (first_of e)

abbrev pub endless_extents : Endless → Time → List Extent
endless_extents e instant = repeated (endless_count e instant) (first_of e)

abbrev pub all_extents : List TimedRun → List Extent
all_extents runs = flat_map extents_of runs

-- no run is empty, and each has the number of segments before it; `total` segments are before their end
abbrev pub AreLaid : ℕ → List TimedRun → ℕ → Type 0
AreLaid before [] total = before ≡ total
AreLaid before (s ∷ later) total = (s.before ≡ before) × (0 < s.count) × IsRun s × AreLaid (before + s.count) later total

abbrev pub IsTail : ℕ → Option TimedRun → Type 0
IsTail total None = Unit {0}
IsTail total (Some s) = (s.before ≡ total) × (0 < s.count) × IsRun s

-- `before` segments are before the first run, and there are at least `finish` segments in all
pub record AreLaidFrom (before : ℕ) (runs : List TimedRun) (tail : Option TimedRun) (finish : ℕ) : Type 0 where
  pub laid : AreLaid before runs (before + length (all_extents runs))
  pub tail_is : IsTail (before + length (all_extents runs)) tail
  pub enough : finish ≤ before + length (all_extents runs) + length (extents_of_some tail)

abbrev pub AreLaidWith : List TimedRun → Option TimedRun → ℕ → Type 0
AreLaidWith runs tail finish = AreLaidFrom 0 runs tail finish

-- the segments after a run are split into the next run and what follows that
abbrev pub IsSplit : List TimedRun → Option TimedRun → Option TimedRun → List TimedRun → Option TimedRun → Type 0
IsSplit [] tail now later rest = (now ≡ tail) × (later ≡ []) × (rest ≡ None)
IsSplit (s ∷ runs) tail now later rest = (now ≡ Some s) × (later ≡ runs) × (rest ≡ tail)

-- the first `count` runs end at or before an index, and the next one doesn't
pub record ArePassed (place : ℕ) (runs : List TimedRun) (count : ℕ) : Type 0 where
  pub within : count ≤ length runs
  pub passed : (k : ℕ) (s : TimedRun) → k < count → (slice_index_or runs k s).before + (slice_index_or runs k s).count ≤ place
  pub next : (s : TimedRun) → count < length runs → place < (slice_index_or runs count s).before + (slice_index_or runs count s).count
