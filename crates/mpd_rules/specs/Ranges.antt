-- Byte ranges in an MPD (ISO/IEC 23009-1, 5.3.9.2.2).
use Rattle.std.specs.Prelude.{◌+◌, ◌<◌, ◌≤◌, ◌^◌}
use Rattle.url_parts.specs.declared.range.Range.{Range}

-- at least one byte, with offsets below 2^63
pub record IsSomeBytes (range : Range) : Type 0 where
  pub some : 0 < range.count
  pub bounded : range.first + range.count ≤ 2 ^ 63
