-- How far a file reaches.
use Rattle.std.specs.Prelude.{ℕ, ◌+◌, ◌^◌, ◌<◌, ◌≤◌}
use Rattle.bridge_io.specs.declared.place.Place.{Place}

-- the bytes that are left after a position can be counted, and there are no more lines before it than bytes
pub record HasRoom (place : Place) (left : ℕ) : Type 0 where
  pub few : place.at + left < 2 ^ 63
  pub lines : place.line ≤ place.at + 1
