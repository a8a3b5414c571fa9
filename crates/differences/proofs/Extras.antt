-- Tracks that only the second presentation has.
use Rattle.differences.specs.declared.deviation.How.TheVariants as how
use Rattle.std.proofs.Common.{◌≡◌, ℕ, zero, suc, ◌+◌, ◌<◌, List, [], ◌∷◌, drop, length, refl, ap, arith}
use Rattle.presentation.specs.declared.track.Track.{Track}
use Rattle.differences.specs.declared.collected.Collected.{Collected}
use Rattle.differences.specs.{Collecting.{added, all_added}, Deviating.deviation, Heads.{at_track, heads_from}}

extra_at : (t : ℕ) (ys : List Track) (k j : ℕ) → j ≡ suc k → k < length ys
    → heads_from t [] (drop k ys) ≡ deviation (at_track t) how.Extra ∷ heads_from (t + 1) [] (drop j ys)
extra_at t [] k j is within = absurd (omega (arith, within))
extra_at t (y ∷ ys) zero j is within = rw is refl
extra_at t (y ∷ ys) (suc k) zero is within = absurd (omega (arith, is))
extra_at t (y ∷ ys) (suc k) (suc j) is within = extra_at t ys k j (omega (arith, is)) (omega (arith, within))

pub next_extra : (t : ℕ) (ys : List Track) (c : Collected) → t < length ys
    → all_added c (heads_from t [] (drop t ys))
    ≡ all_added (added c (deviation (at_track t) how.Extra)) (heads_from (t + 1) [] (drop (t + 1) ys))
next_extra t ys c within = ap (all_added c) (extra_at t ys t (t + 1) (omega arith) within)
