-- The time that a `Tick` is.
use Rattle.std.specs.declared.cmp.Ordering.{Ordering}
use Rattle.exact_time.specs.{Time.{Time, time_cmp}, declared.tick.Tick.Tick}

abbrev pub time_of : Tick → Time
time_of tick = record { ticks = tick.n; scale = tick.scale }

abbrev pub tick_cmp : Tick → Tick → Ordering
tick_cmp a b = time_cmp (time_of a) (time_of b)
