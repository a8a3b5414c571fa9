-- Segments whose durations and dates can be printed in turn.
use Rattle.std.specs.Prelude.{◌≡◌, All, true}
use Rattle.exact_time.specs.{Time.{before, seconds}, Rounding.Rounding}
use Rattle.timeline.specs.{Expansions.Timing, Listed.Rest, Steady.IsWithinLimits}
use Rattle.presentation.specs.Kept.{IsPaced}

-- a segment within the limits that ends after its Period's start
pub record IsDatable (x : Timing) : Type 0 where
  pub limits : IsWithinLimits x
  pub ends : before (seconds 0) x.end ≡ true

-- their ends are valid arguments for the rounder in turn
pub record ArePacedWithin (rest : Rest) (r : Rounding) : Type 0 where
  pub paced : IsPaced rest r
  pub datable : All IsDatable rest.left
