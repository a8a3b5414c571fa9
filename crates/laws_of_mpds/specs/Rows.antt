-- The times of a track's segments in a section.
use Rattle.std.specs.Prelude.{ℕ, ◌+◌, List, [], ◌∷◌}
use Rattle.exact_time.specs.Time.{in_units}
use Rattle.timeline.specs.Expansions.{Extent}

-- consecutive segments with these durations in ticks
abbrev pub in_row : (ticks from : ℕ) → List ℕ → List Extent
in_row ticks from [] = []
in_row ticks from (d ∷ durations) =
    record { start = in_units ticks from; end = in_units ticks (from + d) } ∷ in_row ticks (from + d) durations
