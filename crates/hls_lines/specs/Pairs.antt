-- Names and values in memory.
use Rattle.std.specs.{Prelude.{ℕ, List, map}, Borrow.Bor}
use Rattle.hls_lines.specs.Attributes.{NameValue}

abbrev pub pair_of : Bor (List ℕ) × Bor (List ℕ) → NameValue
pair_of pair = (pair.0.now, pair.1.now)

abbrev pub pairs_of : List (Bor (List ℕ) × Bor (List ℕ)) → List NameValue
pairs_of pairs = map pair_of pairs
