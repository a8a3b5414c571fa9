-- S elements that were laid out in media time, whatever the timescale.
use Rattle.std.specs.Prelude.{◌≡◌, ℕ, ◌+◌, ◌*◌, ◌<◌, ◌≤◌, ◌^◌, ◌==◌, pos, ◌+ℤ◌, Bool, false, ◌||◌, nat_lt, max, List, [], ◌∷◌, ◌++◌, map}
use Rattle.std.specs.{Prelude.{drop, length, All, Option, Some, None, Result, if◌then◌else◌}, List.list_any}
use Rattle.exact_time.specs.Time.{Time}
use Rattle.timeline.specs.{declared.entry.Scale.Scale, declared.entry.End.End, declared.fault.TimeFault.TimeFault}
use Rattle.timeline.specs.{declared.fault.TimeFault.TheVariants.Range, declared.limits.Limits.Limits, declared.media_run.MediaRun.MediaRun}
use Rattle.timeline.specs.{declared.names.Names.Names, declared.media_runs.MediaRuns.MediaRuns}
use Rattle.timeline.specs.{declared.shared_timeline.LaidTimeline.LaidTimeline, declared.timelines.Reach.TheVariants.Count}
use Rattle.timeline.specs.{Building.{breaks_in, placed_in}, Expansions.{Member, Closed, SegmentTimeline}, Faults.{ends_open, segment_fault}}
use Rattle.timeline.specs.{Ratios.natural, Reaches.{IsReach, start_of}, RunSegments.{AreLaid, TimedRun, all_extents, placed_run}}
use Rattle.timeline.specs.{SegmentTimelines.timeline_of_members, Steady.AreLasting}
use Rattle.timeline.specs.Timelines.{expansion_of_timeline, extent_from, members_from, reach_of}
use Rattle.mpd_entries.specs.declared.entry.SEntry.{SEntry}

-- the S elements that have no common run
abbrev pub rest_of : List SEntry → MediaRuns → List SEntry
rest_of entries m = drop (length m.runs.items) entries

abbrev pub runs_by : Limits → MediaRuns → List TimedRun
runs_by l m = map (placed_run l.ticks l.origin) m.runs.items

-- where the last segment ends
abbrev pub media_end : Limits → MediaRuns → Option Time
media_end l m = if m.total == 0 then None else Some (placed_in l m.former)

-- whether the longest segment is too long, or the last one too late
abbrev pub are_passed : Limits → ℕ → ℕ → Bool
are_passed l longest end = nat_lt (l.ticks * 1000000) longest || nat_lt (l.origin + l.ticks * 100000000000) end

-- the run of an S for every timescale: it is neither apart from the one before it, nor ends too late in media time
pub record IsNextRun (m : MediaRuns) (s : SEntry) (later : List SEntry) (run : MediaRun) : Type 0 where
  pub start : run.start ≡ start_of m.former s
  pub step : run.step ≡ s.d
  pub lasting : 0 < s.d
  pub before : run.before ≡ m.total
  pub some : 0 < run.count
  pub reach : (scale : Scale) (end : End) → IsReach (reach_of scale end s.r later) (extent_from scale run.start s.d) (Count run.count)
  pub near : run.start + run.count * run.step < 2 ^ 63
  pub late_enough : 0 < m.total → 2 * m.former ≤ 2 * run.start + run.step
  pub early_enough : 0 < m.total → 2 * run.start ≤ 2 * m.former + run.step

-- a run was added after the others
pub record IsPushed (old : MediaRuns) (run : MediaRun) (new : MediaRuns) : Type 0 where
  pub runs : new.runs.items ≡ old.runs.items ++ run ∷ []
  pub total : new.total ≡ old.total + run.count
  pub former : new.former ≡ run.start + run.count * run.step
  pub longest : new.longest ≡ max old.longest run.step

-- the runs are in order, and determine their first fault at every timescale
pub record AreMediaRuns (m : MediaRuns) : Type 0 where
  pub begun : m.total ≡ 0 → m.former ≡ 0
  pub room : m.total ≤ m.former
  pub near : m.former < 2 ^ 63
  pub laid : (l : Limits) → l.origin < 2 ^ 64 → AreLaid 0 (runs_by l m) m.total
  pub timed : (l : Limits) → All (λ x. natural (x.start.ticks +ℤ pos l.origin) < 2 ^ 64) (all_extents (runs_by l m))
  pub lasting : (l : Limits) (later : List Member) → AreLasting later → AreLasting (map Closed (all_extents (runs_by l m)) ++ later)
  pub judged : (l : Limits) (later : List Member) → segment_fault (breaks_in l) None (map Closed (all_extents (runs_by l m)) ++ later)
      ≡ (if are_passed l m.longest m.former then Some Range else segment_fault (breaks_in l) (media_end l m) later)

-- the runs are those of the leading S elements
pub record IsMedia (entries : List SEntry) (m : MediaRuns) : Type 0 where
  pub runs : AreMediaRuns m
  pub fewer : length m.runs.items ≤ length entries
  pub members : (scale : Scale) (end : End) (l : Limits) → l.ticks ≡ scale.ticks → l.origin ≡ scale.offset →
      expansion_of_timeline scale end entries ≡ map Closed (all_extents (runs_by l m)) ++ members_from scale end m.former
      (rest_of entries m)

pub record IsLaidTimeline (t : LaidTimeline) : Type 0 where
  pub media : AreMediaRuns t.media
  pub lasting : t.no_time ≡ false → list_any (λ s. s.d == 0) t.rest ≡ false

-- the segments of the runs at a scale, and those of the S elements after them
abbrev pub expansion_of_laid : Scale → End → LaidTimeline → List Member
expansion_of_laid scale end t =
    map Closed (all_extents (map (placed_run scale.ticks scale.offset) t.media.runs.items)) ++ members_from scale end t.media.former t.rest

abbrev pub timeline_of_laid : LaidTimeline → End → Bool → Scale → Names → Result SegmentTimeline TimeFault
timeline_of_laid t end live scale names =
    timeline_of_members t.no_time (ends_open t.rest) (expansion_of_laid scale end t) end live scale names

-- this is how S elements are laid out
pub record LaysOut (entries : List SEntry) (t : LaidTimeline) : Type 0 where
  pub no_time : t.no_time ≡ list_any (λ s. s.d == 0) entries
  pub ending : ends_open t.rest ≡ ends_open entries
  pub members : (scale : Scale) (end : End) → expansion_of_laid scale end t ≡ expansion_of_timeline scale end entries
