-- Where the texts of rows are, and how rows are nested.
use Rattle.std.specs.{Prelude.{ℕ, ◌<◌, ◌≤◌, List, length}, Str.IsCharBoundary}
use Rattle.mpd_tree.specs.{declared.tree.KeptSpan.KeptSpan, declared.tree.ElementRow.ElementRow, declared.tree.AttributeRow.AttributeRow}

-- whole characters of the stored text, all in the source or all after it
pub record IsKept (source kept : List ℕ) (span : KeptSpan) : Type 0 where
  pub ordered : span.start ≤ span.end
  pub start_is : IsCharBoundary kept span.start
  pub end_is : IsCharBoundary kept span.end
  pub whole : length source < span.end → length source ≤ span.start

-- a name is in the source, and not at its start
pub record IsNameKept (source kept : List ℕ) (span : KeptSpan) : Type 0 where
  pub kept_so : IsKept source kept span
  pub some_before : 0 < span.start
  pub within : span.end ≤ length source

pub record IsElementKept (source kept : List ℕ) (row : ElementRow) : Type 0 where
  pub name : IsNameKept source kept row.name
  pub text : IsKept source kept row.text

pub record IsAttributeKept (source kept : List ℕ) (row : AttributeRow) : Type 0 where
  pub name : IsNameKept source kept row.name
  pub value : IsKept source kept row.value

-- an element's attributes are within a number of them
pub record HasAttributesWithin (count : ℕ) (row : ElementRow) : Type 0 where
  pub ordered : row.attributes ≤ row.attributes_end
  pub within : row.attributes_end ≤ count
