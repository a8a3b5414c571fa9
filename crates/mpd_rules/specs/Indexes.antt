-- The `sidx` of a Representation's file, where no rule of an MPD rejects it (ISO/IEC 23009-1, 5.3.9.2).
use Rattle.std.specs.Prelude.{Option, None, option_map, unwrap_or}
use Rattle.url_parts.specs.declared.range.Range.{Range}
use Rattle.mpd_levels.specs.{declared.indexed.IndexRow.IndexRow, declared.initialization.Initialization.Initialization}
use Rattle.mpd_rules.specs.Typed.{TypedMpd, mpd_with}

-- the byte range of the `sidx`, and the Initialization, where there is one
pub record Index : Type 0 where
  pub range : Range
  pub initialization : Option Initialization

-- a placeholder for a missing `sidx`, which the rules of an MPD reject
abbrev pub untold : Index
untold = record { range = record { first = 0; count = 1 }; initialization = None }

abbrev pub index_of_row : IndexRow → Index
index_of_row row = record { range = unwrap_or row.range untold.range; initialization = row.initialization }

abbrev pub index_told : Option IndexRow → Index
index_told row = unwrap_or (option_map index_of_row row) untold

-- an MPD's values, with the `sidx` of each Representation
abbrev pub indexes_told : TypedMpd (Option IndexRow) → TypedMpd Index
indexes_told mpd = mpd_with index_told mpd
