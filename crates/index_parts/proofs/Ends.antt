-- What faults of references leave, and where references end.
use Rattle.std.proofs.Common.{◌≡◌, ◌≤◌, ℕ, ◌+◌, List, [], ◌∷◌, Ok, ap, arith}
use Rattle.segment_index.specs.{declared.reference.Reference.Reference, Laws.end_from}
use Rattle.index_parts.specs.Refusals.{unless_any}

pub passed_value : {Y E : Type 0} (faults : List E) (y value : Y) → unless_any faults y ≡ Ok value → value ≡ y
passed_value [] y value is = cc
passed_value (first ∷ faults) y value is = absurd (cc)

-- what is covered ends behind where it begins
pub ends_behind : (first : ℕ) (rs : List Reference) → first ≤ end_from first rs
ends_behind first [] = omega arith
ends_behind first (r ∷ rs) = (let later = ends_behind (first + r.size) rs in omega arith)

pub next_within : (first bound : ℕ) (r : Reference) (rs all : List Reference) → all ≡ r ∷ rs → end_from first all ≤ bound
    → first + r.size ≤ bound
next_within first bound r rs all is within =
    let later = ends_behind (first + r.size) rs in
    let same : end_from first all ≡ end_from (first + r.size) rs = ap (end_from first) is in
    omega arith
