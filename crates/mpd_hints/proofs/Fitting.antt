-- The labels that are told are fit.
use Rattle.std.proofs.Common.{◌≡◌, ℕ, Bool, true, false, List, [], ◌∷◌, All, flat_map, Option, Some, None, IfSome, refl}
use Rattle.std.proofs.Common.{if◌then◌else◌}
use Rattle.std.proofs.lemmas.List.Elements.{All-append, All-filter, All-map, All-nil}
use Rattle.std.specs.Prelude.{option_and_then}
use Rattle.bridge_io.specs.declared.media.Kind.TheVariants.{Video, Audio, Text}
use Rattle.mpd_tree.specs.Trees.{Element}
use Rattle.mpd_levels.specs.Readings.{child_named}
use Rattle.mpd_rules.specs.Kept.{periods_of, representations_of, sets_of}
use Rattle.presentation.specs.Order.{by_kind, is_of}
use Rattle.track_hints.specs.Labels.{HasFitLabel, is_fit}
use Rattle.mpd_hints.specs.{declared.tracks.Told.Told, Labels.{label_by, trimmed}, Laws.ToldLabelsAreFit}
use Rattle.mpd_hints.specs.{Hints.hints_of, Tracks.{told_at, told_in_first, told_in_set}}

abbrev IsFit : List ℕ → Type 0
IsFit text = is_fit text ≡ true

by_test : (fit : Bool) (text : List ℕ) → is_fit text ≡ fit → IfSome (if fit then Some text else None) IsFit
by_test true text is = is
by_test false text is = tt

of_first : (label : Option Element) → IfSome (option_and_then label_by label) IsFit
of_first None = tt
of_first (Some label) = by_test (is_fit (trimmed label.head.text)) (trimmed label.head.text) refl

abbrev HasFit : Told → Type 0
HasFit told = HasFitLabel told.hints

all_in : (sets : List Element) → All HasFit (flat_map told_in_set sets)
all_in [] = All-nil HasFit
all_in (set ∷ sets) =
    All-append HasFit (told_in_set set) (flat_map told_in_set sets)
    (All-map HasFit (told_at set) (representations_of set) (λ k d within. of_first (child_named _ set))) (all_in sets)

all_in_first : (periods : List Element) → All HasFit (told_in_first periods)
all_in_first [] = All-nil HasFit
all_in_first (period ∷ periods) = all_in (sets_of period)

all_by_kind : (tolds : List Told) → All HasFit tolds → All HasFit (by_kind (λ (told : Told). told.kind) tolds)
all_by_kind tolds all =
    All-append HasFit _ _ (All-filter (λ (told : Told). is_of Video told.kind) HasFit tolds all)
    (All-append HasFit _ _ (All-filter (λ (told : Told). is_of Audio told.kind) HasFit tolds all)
    (All-filter (λ (told : Told). is_of Text told.kind) HasFit tolds all))

pub told_labels_are_fit : ToldLabelsAreFit
unfolding hints_of
told_labels_are_fit sap mpd =
    All-map HasFitLabel (λ (told : Told). told.hints) _ (all_by_kind (told_in_first (periods_of mpd)) (all_in_first (periods_of mpd)))
