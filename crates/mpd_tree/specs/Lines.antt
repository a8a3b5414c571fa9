-- The line feeds of a text, counted up to each of its blocks.
use Rattle.std.specs.Prelude.{◌≡◌, ℕ, ◌+◌, ◌*◌, ◌≤◌, List, length, take, count_by, slice_index}
use Rattle.byte_scan.specs.Lines.{is_line_feed}

-- how many bytes a block has
abbrev pub block_size : ℕ
block_size = 256

-- how many LF bytes are before each of the blocks, and before the byte after the last of them
pub record AreCounted (bytes : List ℕ) (blocks : ℕ) (counts : List ℕ) : Type 0 where
  pub as_many : length counts ≡ blocks + 1
  pub each : (k : ℕ) → k ≤ blocks → slice_index counts k ≡ count_by is_line_feed (take (k * block_size) bytes)
