use Rattle.std.proofs.Common.{◌≡◌, ◌++◌, flat_map, take}
use Rattle.std.specs.String.{string_bytes}
use Rattle.bridge_compare.specs.Lines.{deviation_line}
use Rattle.bridge_compare.proofs.lines.push_deviations.Given as goal

abbrev pub invariant-loop-deviation : goal.invariant-loop-deviation
invariant-loop-deviation l = string_bytes l.text ≡ string_bytes l.fn.text ++ flat_map deviation_line (take l.deviation-index l.found)
