-- Merging of rows.
use Rattle.std.specs.Prelude.{None}
use Rattle.mpd_profile.specs.Heads.{or_else}
use Rattle.mpd_levels.specs.{declared.values.Attributes.Attributes, declared.values.ValueRow.ValueRow}

-- the values of the lower row, and where it has none, those of the higher one
abbrev pub attributes_over : (own higher : Attributes) → Attributes
attributes_over own higher = record {
  media = or_else own.media higher.media;
  initialization = or_else own.initialization higher.initialization;
  timescale = or_else own.timescale higher.timescale;
  duration = or_else own.duration higher.duration;
  start_number = or_else own.start_number higher.start_number;
  time_offset = or_else own.time_offset higher.time_offset;
}

abbrev pub row_over : (own higher : ValueRow) → ValueRow
row_over own higher = record {
  attributes = attributes_over own.attributes higher.attributes;
  initialization = or_else own.initialization higher.initialization;
  timeline = or_else own.timeline higher.timeline;
  urls = or_else own.urls higher.urls;
}

-- the empty row
abbrev pub no_row : ValueRow
no_row = record {
  attributes = record { media = None; initialization = None; timescale = None; duration = None; start_number = None; time_offset = None };
  initialization = None;
  timeline = None;
  urls = None;
}
