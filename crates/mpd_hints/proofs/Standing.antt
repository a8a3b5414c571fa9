-- Hints stand by the tracks that they are told of.
use Rattle.std.proofs.Common.{◌≡◌, ℕ, ◌+◌, List, [], ◌∷◌, ◌++◌, map, flat_map, Option, Ok, refl, sym, ◌∙◌, ap}
use Rattle.std.proofs.{lemmas.List.map-append, lemmas.Simd.map-map}
use Rattle.mpd_tree.specs.Trees.{Element}
use Rattle.mpd_profile.specs.declared.fault.RuleFault.{RuleFault}
use Rattle.mpd_levels.specs.{Indexed.index_of, Segments.segments_of}
use Rattle.mpd_rules.specs.Kept.{path_in, paths_in, paths_of, periods_of, representations_of, sets_of}
use Rattle.mpd_rules.specs.Periods.{first_start, bounds_from, timed_of, total_of}
use Rattle.mpd_rules.specs.Typed.{period_of, track_of, values_with}
use Rattle.mpd_rules.specs.Rules.{all_index_refusals, all_refusals, dash_values, index_values, indexed_mpd_of, typed_mpd_of}
use Rattle.mpd_rules.specs.{Rules.unless_refused, declared.rows.TrackRow.TrackRow}
use Rattle.presentation.proofs.Grids.{by_kind_made}
use Rattle.mpd_hints.specs.{declared.tracks.Told.Told, Hints.hints_of}
use Rattle.mpd_hints.specs.Laws.{HintsStandByTheirTracks, StandTogether, first_tracks, paths_in_first, told_by}
use Rattle.mpd_hints.specs.Tracks.{in_order, told_in_first, told_in_set}

told_of_paths : (mpd period : Element) (place : ℕ) (sets : List Element)
    → flat_map told_in_set sets ≡ map told_by (paths_in mpd period place sets)
told_of_paths mpd period place [] = refl
told_of_paths mpd period place (set ∷ sets) =
    let here = map (path_in mpd period set place) (representations_of set) in
    ap (λ tolds. tolds ++ flat_map told_in_set sets) (sym (map-map told_by (path_in mpd period set place) (representations_of set)))
    ∙ ap (λ tolds. map told_by here ++ tolds) (told_of_paths mpd period (place + 1) sets)
    ∙ sym (map-append told_by here (paths_in mpd period (place + 1) sets))

module _ {X : Type 0} (told : List Element → X) (mpd : Element) where
  in_first : (total default : Option ℕ) (periods : List Element)
      → StandTogether told (paths_in_first mpd periods)
      (first_tracks (map (period_of told mpd) (map timed_of (bounds_from total default periods)))) (in_order (told_in_first periods))
  in_first total default [] = record { rows_are = refl; hints_are = refl }
  in_first total default (period ∷ periods) = record {
    rows_are = by_kind_made (track_of told) (λ (row : TrackRow _). row.description.kind) (paths_of mpd period);
    hints_are =
        ap in_order (told_of_paths mpd period 0 (sets_of period))
        ∙ ap (map (λ (told : Told). told.hints)) (by_kind_made told_by (λ (told : Told). told.kind) (paths_of mpd period))
        ∙ map-map (λ (told : Told). told.hints) told_by (paths_in_first mpd (period ∷ periods));
  }

  pub in_values : StandTogether told (paths_in_first mpd (periods_of mpd)) (first_tracks (values_with told mpd).periods)
      (in_order (told_in_first (periods_of mpd)))
  in_values = in_first (total_of mpd.head) (first_start mpd.head) (periods_of mpd)

accepted : {X : Type 0} (faults : List RuleFault) (value mpd : X) → unless_refused faults value ≡ Ok mpd → mpd ≡ value
accepted [] value mpd is = cc
accepted (fault ∷ faults) value mpd is = absurd (cc)

pub hints_stand_by_their_tracks : HintsStandByTheirTracks
unfolding hints_of typed_mpd_of indexed_mpd_of dash_values index_values
hints_stand_by_their_tracks sap root = (
  λ mpd is. rw (accepted (all_refusals root) (values_with segments_of root) mpd is) (in_values segments_of root),
  λ mpd is. rw (accepted (all_index_refusals root) (values_with index_of root) mpd is) (in_values index_of root),
)
