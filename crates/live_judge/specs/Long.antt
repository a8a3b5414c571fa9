-- Durations that are longer than the target duration.
use Rattle.std.specs.Prelude.{ℕ, Bool, List, map, filter, nat_lt}
use Rattle.hls_writer.specs.Finished.{rounded}
use Rattle.live_meaning.specs.Refusals.{LongSegment, Refusal}

abbrev pub is_long : (unit target : ℕ) → ℕ → Bool
is_long unit target d = nat_lt target (rounded unit d)

abbrev pub longs_told : (unit target : ℕ) → List ℕ → List Refusal
longs_told unit target ds = map (LongSegment target) (filter (is_long unit target) ds)
