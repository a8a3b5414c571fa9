-- Codes joined by commas.
use Rattle.std.proofs.{Common.{◌≡◌, ℕ, ◌==◌, false, List, [], ◌∷◌, ◌++◌, map, flat_map, length, Some, ap, Bor}, lemmas.List.append-nil}
use Rattle.std.specs.List.{join_by, join_with_byte}
use Rattle.hls_master.specs.Codes.{joined}

-- between the codes stands a comma
joined_row : (code : Bor (List ℕ)) (codes : List (Bor (List ℕ))) → code.now ++ flat_map (λ y. (44 ∷ []) ++ y.now) codes
    ≡ join_with_byte 44 (map (λ y. y.now) (code ∷ codes))
joined_row code [] = append-nil code.now
joined_row code (next ∷ codes) = ap (λ more. code.now ++ (44 ∷ more)) (joined_row next codes)

pub joined_is : (chosen : List (Bor (List ℕ))) (codes : List (List ℕ)) → false ≡ (length chosen == 0) → map (λ y. y.now) chosen ≡ codes
    → Some (join_by (λ y. y.now) (44 ∷ []) chosen) ≡ joined codes
joined_is [] codes some e = cc
joined_is (code ∷ chosen) codes some e = rw (← e) (ap Some (joined_row code chosen))
