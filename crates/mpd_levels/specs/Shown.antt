-- The values of rows, with timelines and lists looked up in tables.
use Rattle.std.specs.Prelude.{◌≡◌, ℕ, true, false, List, Option, Some, None, option_map, option_and_then, slice_get}
use Rattle.mpd_tree.specs.Trees.{Element}
use Rattle.mpd_levels.specs.{declared.addressing.Addressing.Addressing, declared.addressing.SegmentRow.SegmentRow}
use Rattle.mpd_levels.specs.{declared.indexed.InitView.InitView, declared.initialization.Initialization.Initialization}
use Rattle.mpd_levels.specs.{declared.level.Level.Level, declared.tables.Tables.Tables, declared.values.ValueRow.ValueRow}
use Rattle.mpd_levels.specs.{Levels.{used, elements_used, template_name, list_name}, Segments.{Values, Segments, told, values_in}}
use Rattle.mpd_levels.specs.Indexed.{base_in}
use Rattle.mpd_entries.specs.{declared.entry.SEntry.SEntry, declared.ref_part.RefPart.RefPart}

-- ---- tables

-- all stored timelines, by index
abbrev pub timelines_in : Tables → List (List SEntry)
timelines_in tables = tables.timelines

-- all stored lists of SegmentURLs, by index
abbrev pub lists_in : Tables → List (List RefPart)
lists_in tables = tables.lists

-- what was in a table still has its index
pub record Stays {X : Type 0} (old new : List X) : Type 0 where
  pub at : (k : ℕ) (x : X) → slice_get old k ≡ Some x → slice_get new k ≡ Some x

pub record Grows (old new : Tables) : Type 0 where
  pub timelines : Stays (timelines_in old) (timelines_in new)
  pub lists : Stays (lists_in old) (lists_in new)

-- the key of a member of a table, or `None` for none
pub record IsKey {X : Type 0} (table : List X) (key : Option ℕ) (member : Option X) : Type 0 where
  pub found : option_map (slice_get table) key ≡ option_map Some member

-- ---- rows

pub record Shows (tables : Tables) (row : ValueRow) (values : Values) : Type 0 where
  pub attributes : row.attributes ≡ values.attributes
  pub initialization : row.initialization ≡ values.initialization
  pub timeline : IsKey (timelines_in tables) row.timeline values.timeline
  pub urls : IsKey (lists_in tables) row.urls values.urls

-- the values of a level; `levels` are its elements from itself on
pub record Says (tables : Tables) (level : Level) (levels : List Element) : Type 0 where
  pub means : level.means ≡ used levels
  pub template : Shows tables level.template (values_in false (elements_used template_name levels))
  pub list : Shows tables level.list (values_in true (elements_used list_name levels))
  pub base : level.base ≡ base_in levels

abbrev pub values_shown : Tables → ValueRow → Values
values_shown tables row = record {
  attributes = row.attributes;
  initialization = row.initialization;
  timeline = option_and_then (slice_get (timelines_in tables)) row.timeline;
  urls = option_and_then (slice_get (lists_in tables)) row.urls;
}

-- the segment values of a row
unfoldable pub segments_shown : Tables → SegmentRow → Segments
segments_shown tables row = told row.is_list (values_shown tables row.values)

-- the row's keys refer to what the segments have
pub record Tells (tables : Tables) (row : SegmentRow) (segments : Segments) : Type 0 where
  pub values : Values
  pub shows : Shows tables row.values values
  pub told_is : segments ≡ told row.is_list values

abbrev pub IsTold : Tables → Option SegmentRow → Option Segments → Type 0
IsTold tables None segments = segments ≡ None
IsTold tables (Some row) segments = (s : Segments) × (segments ≡ Some s) × Tells tables row s

-- ---- views

abbrev pub addressed : Addressing → Segments
addressed view = segments_shown view.tables.now view.row.now

abbrev pub initialization_shown : InitView → Initialization
initialization_shown view = view.initialization.now
