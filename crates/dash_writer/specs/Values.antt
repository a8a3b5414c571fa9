-- Values of attributes as they are written (ISO/IEC 23009-1).
use Rattle.std.specs.Prelude.{ℕ, ◌+◌, ◌-◌, ◌/◌, ◌%◌, ◌==◌, List, ◌∷◌, ◌++◌, codes, decimal, Option, Some, None, if◌then◌else◌}
use Rattle.bridge_io.specs.declared.media.Ratio.{Ratio}
use Rattle.url_parts.specs.declared.range.Range.{Range}

-- `<first>-<last>`, the offsets of the first and the last byte (5.3.9.2.2)
abbrev pub range_text : Range → List ℕ
range_text range = decimal range.first ++ 45 ∷ decimal (range.first + range.count - 1)

-- frames per second: a whole number where it is one, otherwise `<n>/<m>` (5.3.7.2)
abbrev pub rate_text : Ratio → List ℕ
rate_text ratio = if ratio.n % ratio.m == 0 then decimal (ratio.n / ratio.m) else decimal ratio.n ++ 47 ∷ decimal ratio.m

-- a frame rate of 0 counts as unknown
abbrev pub known_rate : Ratio → Option (List ℕ)
known_rate ratio = if ratio.n == 0 then None else Some (rate_text ratio)

-- the id of the track at an index: `t<index>`
abbrev pub id_text : ℕ → List ℕ
id_text place = codes "t" ++ decimal place

-- a duration in whole seconds (XML Schema part 2, 3.2.6)
abbrev pub seconds_text : ℕ → List ℕ
seconds_text n = codes "PT" ++ decimal n ++ codes "S"
