-- Laws of what MPDs say for players.
use Rattle.std.specs.Prelude.{◌≡◌, List, [], ◌∷◌, map, Option, Ok}
use Rattle.mpd_tree.specs.Trees.{Element}
use Rattle.mpd_levels.specs.{declared.indexed.IndexRow.IndexRow, Indexed.index_of, Segments.{Segments, segments_of}}
use Rattle.mpd_rules.specs.{declared.rows.TrackRow.TrackRow, declared.rows.PeriodRow.PeriodRow, Kept.{Path, paths_of, periods_of}}
use Rattle.mpd_rules.specs.{Rules.{indexed_mpd_of, typed_mpd_of}, Typed.{TypedMpd, track_of}}
use Rattle.presentation.specs.Order.{by_kind}
use Rattle.track_hints.specs.{declared.hints.TrackHints.TrackHints, Labels.AreFit}
use Rattle.mpd_hints.specs.{declared.starts.Sap.Sap, declared.tracks.Told.Told, Hints.hints_of, Tracks.told_at}

abbrev pub ToldLabelsAreFit : Type 0
ToldLabelsAreFit = (sap : Sap) (mpd : Element) → AreFit (hints_of sap mpd)

-- ---- tracks

-- the tracks of a presentation, by the Representations of its first Period: video, then audio, then text
abbrev pub first_tracks : {X : Type 0} → List (PeriodRow X) → List (TrackRow X)
first_tracks [] = []
first_tracks (period ∷ periods) = by_kind (λ (row : TrackRow _). row.description.kind) period.tracks

-- what is said of a Representation
abbrev pub told_by : Path → Told
told_by path = told_at path.set path.representation

abbrev pub hints_at : Path → TrackHints
hints_at path = (told_by path).hints

-- the Representations of the first of these Periods, in the order of the tracks
abbrev pub paths_in_first : (mpd : Element) → List Element → List Path
paths_in_first mpd [] = []
paths_in_first mpd (period ∷ periods) = by_kind (λ (path : Path). (told_by path).kind) (paths_of mpd period)

-- The k-th row and the k-th hints are those of the k-th Representation.
pub record StandTogether {X : Type 0} (told : List Element → X) (paths : List Path) (rows : List (TrackRow X)) (hints : List TrackHints)
    : Type 0 where
  pub rows_are : rows ≡ map (track_of told) paths
  pub hints_are : hints ≡ map hints_at paths

abbrev pub StandByTracks : Sap → Element → Type 0
StandByTracks sap root =
    (mpd : TypedMpd (Option Segments)) → typed_mpd_of root ≡ Ok mpd
    → StandTogether segments_of (paths_in_first root (periods_of root)) (first_tracks mpd.periods) (hints_of sap root).tracks

abbrev pub StandByIndexedTracks : Sap → Element → Type 0
StandByIndexedTracks sap root =
    (mpd : TypedMpd (Option IndexRow)) → indexed_mpd_of root ≡ Ok mpd
    → StandTogether index_of (paths_in_first root (periods_of root)) (first_tracks mpd.periods) (hints_of sap root).tracks

abbrev pub HintsStandByTheirTracks : Type 0
HintsStandByTheirTracks = (sap : Sap) (root : Element) → StandByTracks sap root × StandByIndexedTracks sap root
