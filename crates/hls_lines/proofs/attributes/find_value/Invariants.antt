use Rattle.hls_lines.proofs.attributes.find_value.Given as goal
use Rattle.std.proofs.Common.{◌≡◌, drop}
use Rattle.hls_lines.specs.{Attributes.value_of, Pairs.pairs_of}

abbrev pub invariant-loop-other : goal.invariant-loop-other
invariant-loop-other l = value_of l.name (pairs_of (drop l.other-index l.pairs)) ≡ value_of l.name (pairs_of l.pairs)
