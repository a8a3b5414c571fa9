-- Numbers of an MPD as the lower layers take them.
use Rattle.std.specs.Prelude.{ℕ, ◌-◌, ◌<◌, ◌^◌, max, min}
use Rattle.std.proofs.Math.Nat.{le-max_left, min-le_left}
use Rattle.timeline.specs.declared.entry.Scale.{Scale}
use Rattle.mpd_levels.specs.Segments.{Segments}
use Prim.Native.Nat.{suc-le-suc}

abbrev pub scale_with : (ticks offset first : ℕ) → 0 < ticks → first < 2 ^ 63 → Scale
scale_with ticks offset first positive countable = record {
  ticks = ticks;
  offset = offset;
  start_number = first;
  positive = positive;
  countable = countable;
}

pub below_last : (n : ℕ) → min (2 ^ 63 - 1) n < 2 ^ 63
below_last n = suc-le-suc (min-le_left (2 ^ 63 - 1) n)

-- The timescale and offset of a Representation, and the numbering of its segments. The rules of an MPD reject a timescale
-- of 0, and a number of 2^63 or more.
abbrev pub scale_of : Segments → Scale
scale_of s = scale_with (max 1 s.timescale) s.time_offset (min (2 ^ 63 - 1) s.start_number) (le-max_left 1 s.timescale)
    (below_last s.start_number)
