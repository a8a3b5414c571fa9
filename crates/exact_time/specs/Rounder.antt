-- The value of a `Rounder` by its fields, and its invariant.
use Rattle.std.specs.Prelude.{◌≡◌, ◌≤◌, ◌^◌}
use Rattle.exact_time.specs.{Time.IsAtMost, Tick.time_of, Rounding.{Rounding, total}, declared.rounder.Rounder.TheInside.Inside}

abbrev pub rounding_of : Inside → Rounding
rounding_of r = record { first = time_of r.first; unit = r.unit; former = time_of r.former }

pub record IsKept (r : Inside) : Type 0 where
  pub low : 1 ≤ r.unit
  pub high : r.unit ≤ 10 ^ 9
  pub begun : IsAtMost (time_of r.first) (time_of r.former)
  pub floor_is : r.floor ≡ total (rounding_of r)
