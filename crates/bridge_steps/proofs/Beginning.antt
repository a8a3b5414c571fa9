-- A file that is put before others.
use Rattle.std.proofs.Common.{◌≡◌, ℕ, suc, List, ◌∷◌, take, Option, None, Some, option_map, refl, subst}
use Rattle.bridge_io.specs.{Outside.{Files, put, Changes}, InOrder.{put_all, MayBegin, AreBegun}}

-- the first file may be begun
pub first_begun : (file : List ℕ × List ℕ) (files : List (List ℕ × List ℕ)) (before after : Option Files) → MayBegin file before after
    → AreBegun (file ∷ files) before after
first_begun file files None after may = record { count = 0; file = file; next = refl; begun = may }
first_begun file files (Some all) after may = record { count = 0; file = file; next = refl; begun = may }

-- the others are put after the first
pub then_put : (file : List ℕ × List ℕ) (files : List (List ℕ × List ℕ)) (before mid after : Option Files)
    → Changes (put file.0 file.1) before mid → Changes (put_all files) mid after → Changes (put_all (file ∷ files)) before after
then_put file files None mid after first others = rw first at others
then_put file files (Some all) mid after first others = rw first at others

after_first : (file : List ℕ × List ℕ) (files : List (List ℕ × List ℕ)) (count : ℕ) (before mid : Option Files)
    → Changes (put file.0 file.1) before mid
    → option_map (put_all (take count files)) mid ≡ option_map (put_all (take (suc count) (file ∷ files))) before
after_first file files count None mid first = rw first refl
after_first file files count (Some all) mid first = rw first refl

-- some of them are begun after the first
pub then_begun : (file : List ℕ × List ℕ) (files : List (List ℕ × List ℕ)) (before mid after : Option Files)
    → Changes (put file.0 file.1) before mid → AreBegun files mid after → AreBegun (file ∷ files) before after
then_begun file files before mid after first begun = record {
  count = suc begun.count;
  file = begun.file;
  next = begun.next;
  begun = subst (λ b. MayBegin begun.file b after) (after_first file files begun.count before mid first) begun.begun;
}
