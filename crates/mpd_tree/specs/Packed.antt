-- Compact rows of elements.
use Rattle.std.specs.Prelude.{◌≡◌, ℕ, ◌+◌, ◌-◌, ◌<◌, ◌/◌, ◌%◌, ◌^◌, nat_lt, List, [], ◌∷◌, ◌++◌, All, length, slice_index_or}
use Rattle.std.specs.Prelude.{if◌then◌else◌}
use Rattle.mpd_tree.specs.{declared.element_table.PackedRow.PackedRow, declared.tree.ElementRow.ElementRow}

-- the row of an element without children; the code has the length of its name and the number of its attributes
abbrev pub narrow_row : ℕ → PackedRow → ElementRow
narrow_row next packed = record {
  name = record { start = packed.name_start; end = packed.name_start + packed.code % 256 };
  text = record { start = 0; end = 0 };
  attributes = packed.attributes;
  attributes_end = packed.attributes + packed.code / 256;
  next = next;
}

-- the row of a packed one, where `next` is the number of the row after it
abbrev pub row_of : List ElementRow → ℕ → PackedRow → ElementRow
row_of wide next packed =
    if nat_lt packed.code 65536 then narrow_row next packed else slice_index_or wide (packed.code - 65536) (narrow_row next packed)

abbrev pub rows_of : List ElementRow → ℕ → List PackedRow → List ElementRow
rows_of wide next [] = []
rows_of wide next (packed ∷ rest) = row_of wide next packed ∷ rows_of wide (next + 1) rest

-- the ends of a packed row don't overflow
pub record IsWithin (packed : PackedRow) : Type 0 where
  pub name : packed.name_start + packed.code % 256 < 2 ^ 32
  pub attributes : packed.attributes + packed.code / 256 < 2 ^ 32

-- a packed row, given the number of wide ones
pub record IsPacked (wide_count : ℕ) (packed : PackedRow) : Type 0 where
  pub within : IsWithin packed
  pub code : packed.code < 65536 + wide_count

pub record ArePacked (wide : List ElementRow) (rows : List PackedRow) : Type 0 where
  pub counted : length rows < 2 ^ 32
  pub all : All (IsPacked (length wide)) rows

-- a packed row that holds a whole row
pub record IsNarrow (next : ℕ) (row : ElementRow) (packed : PackedRow) : Type 0 where
  pub code : packed.code < 65536
  pub row_is : narrow_row next packed ≡ row

-- a packed row stands for a row, and the other wide ones are unchanged
pub record IsPackedAs (next : ℕ) (row : ElementRow) (old new : List ElementRow) (packed : PackedRow) : Type 0 where
  pub more : List ElementRow
  pub wide : new ≡ old ++ more
  pub row_is : row_of new next packed ≡ row
  pub is_packed : IsPacked (length new) packed
