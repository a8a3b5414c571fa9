-- The names of attributes in rows.
use Rattle.std.specs.Prelude.{ℕ, ◌≤◌, List, map, slice_range}
use Rattle.mpd_tree.specs.declared.tree.AttributeRow.{AttributeRow}

abbrev pub name_in : List ℕ → AttributeRow → List ℕ
name_in bytes row = slice_range bytes row.name.start row.name.end

abbrev pub names_in : List ℕ → List AttributeRow → List (List ℕ)
names_in bytes rows = map (name_in bytes) rows

-- an attribute's name is in the bytes
pub record HasNameWithin (count : ℕ) (row : AttributeRow) : Type 0 where
  pub ordered : row.name.start ≤ row.name.end
  pub within : row.name.end ≤ count
