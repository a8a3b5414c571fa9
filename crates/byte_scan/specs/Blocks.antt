-- Bytes cut into blocks of one width.
use Rattle.std.specs.Prelude.{◌≡◌, ℕ, ◌+◌, ◌*◌, ◌<◌, List, [], length, take, drop, slice_index_or}

-- the blocks follow one another from the first byte; the rest, shorter than a block, follows them
pub record IsCut (width : ℕ) (bytes : List ℕ) (blocks : List (List ℕ)) (rest : List ℕ) : Type 0 where
  pub block : (k : ℕ) → k < length blocks → slice_index_or blocks k [] ≡ take width (drop (width * k) bytes)
  pub rest_is : rest ≡ drop (width * length blocks) bytes
  pub whole : width * length blocks + length rest ≡ length bytes
  pub short : length rest < width
