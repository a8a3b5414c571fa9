-- What is left of a text while it is read.
use Rattle.std.specs.Prelude.{◌≡◌, ◌<◌, ℕ, List, ◌++◌, ◌∷◌}

-- the bytes are a suffix of the whole
pub record IsEnd (whole bytes : List ℕ) : Type 0 where
  pub front : List ℕ
  pub whole_is : whole ≡ front ++ bytes

-- the bytes are a suffix of the whole after an ASCII byte
pub record IsBehind (whole bytes : List ℕ) : Type 0 where
  pub front : List ℕ
  pub byte : ℕ
  pub small : byte < 128
  pub whole_is : whole ≡ front ++ byte ∷ bytes

-- and the text before them ends with this byte
pub record IsAt (stop : ℕ) (whole bytes : List ℕ) : Type 0 where
  pub front : List ℕ
  pub more : List ℕ
  pub bytes_are : bytes ≡ stop ∷ more
  pub whole_is : whole ≡ front ++ bytes
