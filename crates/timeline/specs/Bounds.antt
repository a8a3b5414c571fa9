-- Times that the ends of segments are compared with.
use Rattle.std.specs.{Prelude.{◌≡◌, ◌*◌, ◌<◌, ◌^◌, pos, unsigned_abs, Option, Some, None, option_map, unwrap_or}, Int.int_max}
use Rattle.exact_time.specs.Time.{Time, at_most, nanoseconds}
use Rattle.timeline.specs.{declared.bound.Bound.Bound, declared.window.Window.Window}

abbrev pub time_of_bound : Bound → Time
time_of_bound bound = record { ticks = bound.count; scale = bound.unit }

-- a time that a segment can end at
pub record IsNear (end : Time) : Type 0 where
  pub positive : 0 < end.scale
  pub near : unsigned_abs end.ticks < 2 ^ 65 * end.scale

-- every segment's end is at or before the bound exactly where it is at or before the time
abbrev pub StandsFor : Bound → Time → Type 0
StandsFor bound time = (end : Time) → IsNear end → at_most end (time_of_bound bound) ≡ at_most end time

abbrev pub StandsForSome : Option Bound → Option Time → Type 0
StandsForSome None None = Unit {0}
StandsForSome (Some bound) (Some time) = StandsFor bound time
StandsForSome bound time = ⊥

-- the exclusive lower bound of a listed segment's end: the Period's start, or a later time
abbrev pub low_of : Window → Time
low_of window = nanoseconds (int_max (unwrap_or window.after (pos 0)) (pos 0))

-- the inclusive upper bound of a listed segment's end
abbrev pub high_of : Window → Option Time
high_of window = option_map nanoseconds window.until
