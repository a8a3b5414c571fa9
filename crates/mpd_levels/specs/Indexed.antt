-- Files with a `sidx`: a SegmentBase, as a whole from the lowest level that has one (ISO/IEC 23009-1, 5.3.9.2).
use Rattle.mpd_levels.specs.declared.level.Means.TheVariants as means
use Rattle.std.specs.Prelude.{◌==◌, ◌&&◌, Bool, true, List, codes, is_none, Option, Some, None, option_map}
use Rattle.url_parts.specs.declared.range.Range.{Range}
use Rattle.mpd_tree.specs.Trees.{Element}
use Rattle.mpd_levels.specs.{declared.level.Means.Means, declared.initialization.Initialization.Initialization}
use Rattle.mpd_levels.specs.{declared.indexed.IndexRow.IndexRow, Readings.{range_named, child_named}, Levels.{first_some, base_name, used}}
use Rattle.mpd_levels.specs.Segments.{initialization_in}

abbrev pub index_in : Element → IndexRow
index_in base = record { range = range_named (codes "indexRange") base.head; initialization = initialization_in base }

-- the SegmentBase of the lowest level that has one
abbrev pub base_in : List Element → Option IndexRow
base_in levels = first_some (λ level. option_map index_in (child_named base_name level)) levels

abbrev pub index_by : Option Means → List Element → Option IndexRow
index_by (Some means.Base) levels = base_in levels
index_by (Some means.Template) levels = None
index_by (Some means.List) levels = None
index_by None levels = None

-- of a Representation that a SegmentBase addresses, by its levels from the lowest one on
unfoldable pub index_of : List Element → Option IndexRow
index_of levels = index_by (used levels) levels

-- a range begins at byte 0
abbrev pub begins_file : Range → Bool
begins_file range = range.first == 0

-- the range of the `sidx` is missing, or there is no Initialization and no byte before the `sidx`
abbrev pub lacks_by : Option Range → Option Initialization → Bool
lacks_by None initialization = true
lacks_by (Some range) initialization = is_none initialization && begins_file range

abbrev pub lacks_index : IndexRow → Bool
lacks_index row = lacks_by row.range row.initialization
