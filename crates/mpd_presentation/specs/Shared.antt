-- The timelines that are laid out once, by the tables of an MPD.
use Rattle.std.specs.Prelude.{List, All}
use Rattle.meaning.specs.Same.{Pairwise}
use Rattle.timeline.specs.MediaTimelines.{LaysOut}
use Rattle.mpd_levels.specs.{declared.addressing.SegmentRow.SegmentRow, declared.tables.Tables.Tables, Shown.timelines_in}
use Rattle.mpd_rules.specs.{declared.rows.TrackRow.TrackRow, declared.rows.PeriodRow.PeriodRow, Held.Keyed}
use Rattle.mpd_presentation.specs.declared.shared.Shared.{Shared}

pub record IsShared (tables : Tables) (shared : Shared) : Type 0 where
  pub timelines : Pairwise LaysOut (timelines_in tables) shared.timelines.items

-- Representations whose keys are of these tables
abbrev pub AreOf : Shared → List (TrackRow (Keyed SegmentRow)) → Type 0
AreOf shared rows = All (λ (row : TrackRow _). IsShared row.segments.tables shared) rows

abbrev pub AreOfAll : Shared → List (PeriodRow (Keyed SegmentRow)) → Type 0
AreOfAll shared periods = All (λ (period : PeriodRow _). AreOf shared period.tracks) periods
