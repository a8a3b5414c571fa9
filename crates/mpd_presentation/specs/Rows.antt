-- The Representations of a Period as tracks: ISO/IEC 23009-1, 5.3.2 and 5.3.5.
use Rattle.std.specs.Prelude.{ℕ, ◌-◌, ◌&&◌, Bool, true, false, List, [], ◌∷◌, ◌++◌, map, flat_map, Option, option_map, unwrap_or}
use Rattle.mpd_values.specs.Codecs.{codes_of}
use Rattle.mpd_levels.specs.{declared.addressing.SegmentRow.SegmentRow, Segments.Segments}
use Rattle.mpd_rules.specs.{declared.rows.TrackRow.TrackRow, declared.rows.PeriodRow.PeriodRow, declared.view.TypedPeriod.TypedPeriod}
use Rattle.mpd_rules.specs.{declared.view.TrackView.TrackView, declared.view.PeriodWalk.PeriodWalk, declared.view.RepWalk.RepWalk}
use Rattle.mpd_rules.specs.{Held.Keyed, Typed.{period_with, track_with}}
use Rattle.mpd_rules.specs.Views.{period_in, track_in, periods_left, tracks_left, segments_told}
use Rattle.presentation.specs.{Order.{by_kind, is_of, same_language}, declared.track.Track.Track, declared.track.Section.Section}
use Rattle.presentation.specs.Ratios.{rate_of}

-- a Representation and a Period, with the segment values
abbrev pub Row : Type 0
Row = TrackRow (Option Segments)

abbrev pub Period : Type 0
Period = PeriodRow (Option Segments)

-- ---- the order: video, then audio, then text, each in document order

-- however their segments are addressed
abbrev pub in_order : {X : Type 0} → List (TrackRow X) → List (TrackRow X)
in_order rows = by_kind (λ (row : TrackRow _). row.description.kind) rows

-- ---- the same tracks: kinds and languages

abbrev pub is_alike : Row → Row → Bool
is_alike one other = is_of one.description.kind other.description.kind && same_language one.description.language other.description.language

abbrev pub are_alike : List Row → List Row → Bool
are_alike [] [] = true
are_alike [] (other ∷ others) = false
are_alike (one ∷ ones) [] = false
are_alike (one ∷ ones) (other ∷ others) = is_alike one other && are_alike ones others

-- ---- tracks and sections

-- the codecs, joined by `,`
abbrev pub with_commas : List (List ℕ) → List ℕ
with_commas [] = []
with_commas (code ∷ codes) = code ++ flat_map (λ later. 44 ∷ later) codes

abbrev pub joined_codes : List ℕ → List ℕ
joined_codes text = with_commas (codes_of text)

abbrev pub track_of : {X : Type 0} → TrackRow X → Track
track_of row = record {
  kind = row.description.kind;
  set = row.description.set;
  language = row.description.language;
  codecs = option_map joined_codes row.description.codecs;
  bandwidth = row.description.bandwidth;
  size = row.description.size;
  frame_rate = option_map rate_of row.description.frame_rate;
}

-- a Period without an id has an empty one
abbrev pub section_of : {X : Type 0} → PeriodRow X → Section
section_of period = record {
  id = unwrap_or period.id [];
  start = period.bounds.start;
  length = option_map (λ end. end - period.bounds.start) period.bounds.end;
}

-- the Representations of the first Period
abbrev pub first_rows : List Period → List Row
first_rows [] = []
first_rows (period ∷ periods) = period.tracks

-- ---- views of an MPD

abbrev pub shown : Keyed SegmentRow → Option Segments
shown keyed = segments_told keyed

abbrev pub row_of : TrackView SegmentRow → Row
row_of view = track_with shown (track_in view)

abbrev pub rows_left : RepWalk SegmentRow → List Row
rows_left walk = map (track_with shown) (tracks_left walk)

abbrev pub period_of : TypedPeriod SegmentRow → Period
period_of view = period_with shown (period_in view)

abbrev pub all_left : PeriodWalk SegmentRow → List Period
all_left walk = map (period_with shown) (periods_left walk)
