-- Limits of segments: the latest end and the longest duration.
use Rattle.std.specs.Prelude.{ℕ, ◌-◌, ◌^◌, pos, ◌-ℤ◌, Bool, ◌||◌}
use Rattle.exact_time.specs.Time.{seconds, before, at_most}
use Rattle.timeline.specs.{Expansions.{Extent, lasting}, declared.limits.Limits.Limits}

-- whether a segment lasts longer than 1,000,000 s
abbrev pub too_long : Extent → Bool
too_long x = before (seconds 1000000) (lasting x)

-- A segment breaks the limits where it ends at a media time of 2^63 ticks or more, lasts longer than 1,000,000 s, or ends
-- more than 10^11 s after the Period's start.
abbrev pub breaks_limits : ℕ → ℕ → Extent → Bool
breaks_limits ticks origin x =
    at_most (record { ticks = pos (2 ^ 63) -ℤ pos origin; scale = ticks }) x.end
    || too_long x
    || before (seconds 100000000000) x.end

-- a given time has its own ticks
abbrev pub span_breaks_limits : Extent → Bool
span_breaks_limits x = breaks_limits x.end.scale 0 x

-- the segment that ends at a media time and lasts a number of ticks
abbrev pub media_extent : Limits → ℕ → ℕ → Extent
media_extent limits end step = record {
  start = record { ticks = pos (end - step) -ℤ pos limits.origin; scale = limits.ticks };
  end = record { ticks = pos end -ℤ pos limits.origin; scale = limits.ticks };
}
