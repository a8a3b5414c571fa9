-- What differs of the kinds and languages of tracks.
use Rattle.meaning.specs.declared.difference.Aspect.TheVariants as aspect
use Rattle.differences.specs.declared.deviation.How.TheVariants as how
use Rattle.std.specs.Prelude.{ℕ, ◌+◌, List, [], ◌∷◌, ◌++◌, bytes_eq, Option, Some, None}
use Rattle.std.specs.Option.{option_eq}
use Rattle.meaning.specs.{declared.difference.Difference.Difference, Differences.{in_track, is_same_kind}}
use Rattle.presentation.specs.{declared.track.Track.Track, Meanings.language_of}
use Rattle.differences.specs.{declared.deviation.Deviation.Deviation, Deviating.{deviation, head_deviations}}

abbrev pub at_track : (t : ℕ) → Difference
at_track t = in_track t aspect.Track

-- of a track of the first presentation and that of the second one, where it has one
abbrev pub head_beside : (t : ℕ) → Track → Option Track → List Deviation
head_beside t a None = deviation (at_track t) how.Missing ∷ []
head_beside t a (Some b) = head_deviations t (is_same_kind a.kind b.kind)
    (option_eq bytes_eq (language_of a.kind a.language) (language_of b.kind b.language))

-- track by track, given the index of the first one
abbrev pub heads_from : (t : ℕ) → (xs ys : List Track) → List Deviation
heads_from t [] [] = []
heads_from t [] (b ∷ ys) = deviation (at_track t) how.Extra ∷ heads_from (t + 1) [] ys
heads_from t (a ∷ xs) [] = head_beside t a None ++ heads_from (t + 1) xs []
heads_from t (a ∷ xs) (b ∷ ys) = head_beside t a (Some b) ++ heads_from (t + 1) xs ys
