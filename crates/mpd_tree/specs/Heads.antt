-- The values of single rows.
use Rattle.std.specs.Prelude.{ℕ, ◌-◌, List, map, slice_range}
use Rattle.bridge_io.specs.Places.{place_of}
use Rattle.mpd_tree.specs.{declared.tree.KeptSpan.KeptSpan, declared.tree.ElementRow.ElementRow, declared.tree.AttributeRow.AttributeRow}
use Rattle.mpd_tree.specs.Trees.{Attribute, Head}

-- the stored text: the source, and after it what differs from the source once read
abbrev pub bytes_of : List ℕ → KeptSpan → List ℕ
bytes_of kept span = slice_range kept span.start span.end

abbrev pub attribute_of : (source kept : List ℕ) → AttributeRow → Attribute
attribute_of source kept row = record {
  name = bytes_of kept row.name;
  value = bytes_of kept row.value;
  place = place_of source row.name.start;
}

abbrev pub head_of : (source kept : List ℕ) → List AttributeRow → ElementRow → Head
head_of source kept attributes row = record {
  name = bytes_of kept row.name;
  place = place_of source (row.name.start - 1);
  attributes = map (attribute_of source kept) (slice_range attributes row.attributes row.attributes_end);
  text = bytes_of kept row.text;
}
