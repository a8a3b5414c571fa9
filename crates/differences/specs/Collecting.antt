-- Differences that are found one after another, of which the first ones are kept.
use Rattle.std.specs.Prelude.{ℕ, ◌+◌, List, [], ◌∷◌, ◌++◌, length, max, if◌then◌else◌, nat_lt}
use Rattle.presentation.specs.Counting.{capped}
use Rattle.differences.specs.declared.{collected.Collected.Collected, deviation.Deviation.Deviation}

abbrev pub none_yet : (most : ℕ) → Collected
none_yet most = record { first = []; most = most; count = 0; greatest = 0 }

abbrev pub added : Collected → Deviation → Collected
added c found = record {
  first = if nat_lt (length c.first) c.most then c.first ++ found ∷ [] else c.first;
  most = c.most;
  count = capped (c.count + 1);
  greatest = c.greatest;
}

abbrev pub all_added : Collected → List Deviation → Collected
all_added c [] = c
all_added c (found ∷ later) = all_added (added c found) later

abbrev pub widened : Collected → ℕ → Collected
widened c size = record c { greatest = max c.greatest size }

abbrev pub of_next_track : Collected → Collected
of_next_track c = record c { greatest = 0 }

-- with more differences, and the greatest difference of the ends
abbrev pub noted : Collected → List Deviation → (size : ℕ) → Collected
noted c found size = widened (all_added c found) size
