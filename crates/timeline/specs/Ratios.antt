-- How often one time fits into another.
use Rattle.std.specs.Prelude.{ℕ, ◌+◌, ◌-◌, ◌*◌, ◌/◌, ℤ, pos, negsuc, if◌then◌else◌}
use Rattle.exact_time.specs.Time.{Time, before}

abbrev pub earlier : Time → Time → Time
earlier x y = if before y x then y else x

-- a whole number, and 0 for a negative one
abbrev pub natural : ℤ → ℕ
natural (pos n) = n
natural (negsuc n) = 0

-- the length over the step, rounded down: how many steps fit into the length
unfoldable pub steps_within : Time → Time → ℕ
steps_within length step = (natural length.ticks * step.scale) / (length.scale * natural step.ticks)

-- the length over the step, rounded up: how many steps it takes to cover the length
unfoldable pub steps_to_cover : Time → Time → ℕ
steps_to_cover length step = let whole = length.scale * natural step.ticks in
    (natural length.ticks * step.scale + (whole - 1)) / whole
