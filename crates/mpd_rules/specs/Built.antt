-- Representations and Periods one by one, as they are merged from the levels above.
use Rattle.std.specs.Prelude.{ℕ, ◌+◌, Bool, List, [], ◌∷◌, ◌++◌, map, flat_map, Option, Some}
use Rattle.bridge_io.specs.declared.place.Place.{Place}
use Rattle.mpd_tree.specs.Trees.{Element}
use Rattle.mpd_profile.specs.declared.fault.RuleFault.{RuleFault}
use Rattle.mpd_levels.specs.declared.tables.Tables.{Tables}
use Rattle.mpd_rules.specs.{declared.periods.Bounds.Bounds, declared.rows.TrackRow.TrackRow, declared.rows.PeriodRow.PeriodRow}
use Rattle.mpd_rules.specs.{Kept.{representations_of, sets_of}, Readings.id_of, Rules.second_told}
use Rattle.mpd_rules.specs.Typed.{bases_below, common_of, period_with, track_in, track_with}

-- ---- the values of rows

abbrev pub track_shown : {X S : Type 0} → (Tables → X → S) → Tables → TrackRow X → TrackRow (Option S)
track_shown shown tables track = track_with (λ x. Some (shown tables x)) track

abbrev pub tracks_shown : {X S : Type 0} → (Tables → X → S) → Tables → List (TrackRow X) → List (TrackRow (Option S))
tracks_shown shown tables tracks = map (track_shown shown tables) tracks

abbrev pub period_shown : {X S : Type 0} → (Tables → X → S) → Tables → PeriodRow X → PeriodRow (Option S)
period_shown shown tables period = period_with (λ x. Some (shown tables x)) period

abbrev pub periods_shown : {X S : Type 0} → (Tables → X → S) → Tables → List (PeriodRow X) → List (PeriodRow (Option S))
periods_shown shown tables periods = map (period_shown shown tables) periods

-- ---- errors and values below the levels above

abbrev pub refused_in : {S : Type 0} → (Place → Option S → List RuleFault) → (List Element → Option S) → (above : List Element) → Element
    → List RuleFault
refused_in refused told above e = refused e.head.place (told (e ∷ above))

abbrev pub set_refused : {S : Type 0} → (Place → Option S → List RuleFault) → (List Element → Option S) → (above : List Element) → Element
    → List RuleFault
set_refused refused told above set = flat_map (refused_in refused told (set ∷ above)) (representations_of set)

abbrev pub period_refused : {S : Type 0} → (Place → Option S → List RuleFault) → (List Element → Option S) → Element → List RuleFault
period_refused refused told period = flat_map (set_refused refused told (period ∷ [])) (sets_of period)

abbrev pub periods_refused : {S : Type 0} → (many : Bool) → (Place → Option S → List RuleFault) → (List Element → Option S) → ℕ
    → List Element → List RuleFault
periods_refused many refused told place [] = []
periods_refused many refused told place (period ∷ periods) =
    (second_told many place period ++ period_refused refused told period) ++ periods_refused many refused told (place + 1) periods

abbrev pub set_tracks : {S : Type 0} → (List Element → S) → ℕ → (bases : List (List ℕ)) → (above : List Element) → Element
    → List (TrackRow S)
set_tracks told place bases above set = map (track_in told (common_of place bases set) (set ∷ above)) (representations_of set)

abbrev pub sets_tracks : {S : Type 0} → (List Element → S) → ℕ → (bases : List (List ℕ)) → (above : List Element) → List Element
    → List (TrackRow S)
sets_tracks told place bases above [] = []
sets_tracks told place bases above (set ∷ sets) = set_tracks told place bases above set ++ sets_tracks told (place + 1) bases above sets

abbrev pub period_in : {S : Type 0} → (List Element → S) → (bases : List (List ℕ)) → Element → Bounds → PeriodRow S
period_in told bases period bounds = record {
  id = id_of period;
  bounds = bounds;
  place = period.head.place;
  tracks = sets_tracks told 0 (bases_below bases period) (period ∷ []) (sets_of period);
}

abbrev pub periods_in : {S : Type 0} → (List Element → S) → (bases : List (List ℕ)) → List Element → List Bounds → List (PeriodRow S)
periods_in told bases [] bounds = []
periods_in told bases (period ∷ periods) [] = []
periods_in told bases (period ∷ periods) (one ∷ bounds) = period_in told bases period one ∷ periods_in told bases periods bounds
