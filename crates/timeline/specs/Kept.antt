-- The segments that a `Runs` stores.
use Rattle.std.specs.Prelude.{◌≡◌, ℕ, ◌+◌, ◌*◌, ◌<◌, ◌≤◌, ◌^◌, pos, ◌+ℤ◌, ◌≤ℤ◌, List, [], ◌∷◌, ◌++◌, map, All, Option, Some, None}
use Rattle.timeline.specs.{Expansions.{SegmentTimeline, Member, Closed, Endless as GoesOn}, RunSegments.{TimedRun, AreLaid, IsEndless}}
use Rattle.timeline.specs.{RunSegments.{all_extents, first_of}, Steady.{AreLasting, EndInTime, IsSteady}, Ratios.natural, RunTables.runs_at}
use Rattle.timeline.specs.{declared.run.Endless.Endless, declared.runs.Runs.TheInside.Inside}

abbrev pub endless_members : Option Endless → List Member
endless_members None = []
endless_members (Some e) = GoesOn (first_of e) ∷ []

abbrev pub runs_of : Inside → List TimedRun
runs_of r = runs_at r.scale.ticks r.origin r.table

abbrev pub timeline_of : Inside → SegmentTimeline
timeline_of r = record {
  members = map Closed (all_extents (runs_of r)) ++ endless_members r.endless;
  ticks = r.scale.ticks;
  origin = r.origin;
  offset = r.scale.offset;
  first_number = r.scale.start_number;
  names = r.names;
}

-- Segments that continue to an open end follow at `total`. The first one begins so late that each segment before it has a
-- tick, except that it may overlap them by half its own duration.
pub record Follows (ticks origin total : ℕ) (e : Endless) : Type 0 where
  pub is : IsEndless e
  pub short : e.step < 2 ^ 64
  pub place : e.before ≡ total
  pub scale : e.start.scale ≡ ticks
  pub placed : pos 0 ≤ℤ (e.start.n +ℤ pos origin)
  pub room : 2 * total ≤ 2 * natural (e.start.n +ℤ pos origin) + e.step

abbrev pub FollowsOn : ℕ → ℕ → ℕ → Option Endless → Type 0
FollowsOn ticks origin total None = Unit {0}
FollowsOn ticks origin total (Some e) = Follows ticks origin total e

pub record IsKept (r : Inside) : Type 0 where
  pub laid : AreLaid 0 (runs_of r) r.total
  pub follows : FollowsOn r.scale.ticks r.origin r.total r.endless
  pub countable : r.total ≤ 2 ^ 63
  pub lasting : AreLasting (timeline_of r).members
  pub steady : IsSteady (timeline_of r).members
  pub in_time : EndInTime (timeline_of r).members
  pub timed : All (λ x. natural (x.start.ticks +ℤ pos r.origin) < 2 ^ 64) (all_extents (runs_of r))
