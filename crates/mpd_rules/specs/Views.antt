-- The values of the rows of an MPD.
use Rattle.std.specs.Prelude.{ℕ, List, map, Option, Some}
use Rattle.mpd_levels.specs.{declared.addressing.Addressing.Addressing, declared.addressing.SegmentRow.SegmentRow}
use Rattle.mpd_levels.specs.{declared.indexed.IndexRow.IndexRow, declared.tables.Tables.Tables, Segments.Segments, Shown.segments_shown}
use Rattle.mpd_rules.specs.{declared.file_index.FileIndex.FileIndex, declared.rows.TrackRow.TrackRow, declared.rows.PeriodRow.PeriodRow}
use Rattle.mpd_rules.specs.{declared.view.TypedPeriod.TypedPeriod, declared.view.TrackView.TrackView, declared.view.PeriodWalk.PeriodWalk}
use Rattle.mpd_rules.specs.{declared.view.RepWalk.RepWalk, declared.view.BaseWalk.BaseWalk, Held.{Held, Keyed, keyed}, Typed.TypedMpd}
use Rattle.mpd_rules.specs.Typed.{mpd_with, period_with, track_with}

-- ---- views

abbrev pub period_in : {X : Type 0} → TypedPeriod X → PeriodRow (Keyed X)
period_in view = period_with (keyed view.tables.now) view.row.now

abbrev pub track_in : {X : Type 0} → TrackView X → TrackRow (Keyed X)
track_in view = track_with (keyed view.tables.now) view.row.now

-- the tables of the keys of an iterator's Periods
abbrev pub tables_under : {X : Type 0} → PeriodWalk X → Tables
tables_under walk = walk.tables.now

-- what an iterator has left
abbrev pub periods_left : {X : Type 0} → PeriodWalk X → List (PeriodRow (Keyed X))
periods_left walk = map (period_with (keyed walk.tables.now)) walk.rest.now

abbrev pub tracks_left : {X : Type 0} → RepWalk X → List (TrackRow (Keyed X))
tracks_left walk = map (track_with (keyed walk.tables.now)) walk.rest.now

abbrev pub bases_left : BaseWalk → List (List ℕ)
bases_left walk = walk.rest.now

-- ---- how segments are addressed

-- the tables of a view's keys
abbrev pub tables_of : Addressing → Tables
tables_of view = view.tables.now

abbrev pub segments_told : Keyed SegmentRow → Option Segments
segments_told k = Some (segments_shown k.tables k.row)

abbrev pub index_in : Keyed FileIndex → IndexRow
index_in k = k.row.row

-- an MPD by its values
abbrev pub mpd_shown : {X S : Type 0} → (Tables → X → S) → Held X → TypedMpd (Option S)
mpd_shown shown held = mpd_with (λ (k : Keyed _). Some (shown k.tables k.row)) held.values

abbrev pub segments_mpd : Held SegmentRow → TypedMpd (Option Segments)
segments_mpd held = mpd_shown segments_shown held

abbrev pub index_mpd : Held FileIndex → TypedMpd (Option IndexRow)
index_mpd held = mpd_shown (λ tables (index : FileIndex). index.row) held
