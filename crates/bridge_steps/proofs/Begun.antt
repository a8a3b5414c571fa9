-- Files that are begun.
use Rattle.std.proofs.Common.{◌≡◌, ℕ, List, [], ◌∷◌, Option, None, Some, option_map, refl, sym, subst}
use Rattle.bridge_io.specs.{Outside.{Files, Changes, put}, InOrder.{AreBegun, MayBegin, put_all}}

none_before : (before : Option Files) → option_map (put_all []) before ≡ before
none_before None = refl
none_before (Some files) = refl

-- the only file is begun
pub begun : (file : List ℕ × List ℕ) (before after : Option Files) → MayBegin file before after → AreBegun (file ∷ []) before after
begun file before after may =
    record { count = 0; file = file; next = refl; begun = subst (λ b. MayBegin file b after) (sym (none_before before)) may }

-- the only file is put
pub one_put : (file : List ℕ × List ℕ) (before after : Option Files) → Changes (put file.0 file.1) before after
    → Changes (put_all (file ∷ [])) before after
one_put file None after puts = puts
one_put file (Some all) after puts = puts
