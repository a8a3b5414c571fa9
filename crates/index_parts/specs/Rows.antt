-- The Representations of a Period whose files have a `sidx`.
use Rattle.std.specs.Prelude.{List, map, Option, Some}
use Rattle.mpd_levels.specs.declared.indexed.IndexRow.{IndexRow}
use Rattle.mpd_rules.specs.{declared.file_index.FileIndex.FileIndex, declared.rows.PeriodRow.PeriodRow, declared.rows.TrackRow.TrackRow}
use Rattle.mpd_rules.specs.{declared.view.PeriodWalk.PeriodWalk, declared.view.RepWalk.RepWalk, declared.view.TrackView.TrackView}
use Rattle.mpd_rules.specs.{declared.view.TypedPeriod.TypedPeriod, Held.Keyed, Indexes.{Index, index_told}, Typed.{period_with, track_with}}
use Rattle.mpd_rules.specs.Views.{index_in, period_in, periods_left, track_in, tracks_left}

-- a Representation and a Period, with index ranges
abbrev pub Row : Type 0
Row = TrackRow (Option IndexRow)

abbrev pub Period : Type 0
Period = PeriodRow (Option IndexRow)

-- the byte range of a file's `sidx`, and its Initialization, where there is one
abbrev pub told_in : Row → Index
told_in row = index_told row.segments

-- ---- views of an MPD

abbrev pub shown : Keyed FileIndex → Option IndexRow
shown keyed = Some (index_in keyed)

abbrev pub row_of : TrackView FileIndex → Row
row_of view = track_with shown (track_in view)

abbrev pub rows_left : RepWalk FileIndex → List Row
rows_left walk = map (track_with shown) (tracks_left walk)

abbrev pub period_of : TypedPeriod FileIndex → Period
period_of view = period_with shown (period_in view)

abbrev pub all_left : PeriodWalk FileIndex → List Period
all_left walk = map (period_with shown) (periods_left walk)
