-- Which elements give the segments of a Representation: ISO/IEC 23009-1, 5.3.9.1. Its levels, the Representation, its
-- AdaptationSet and its Period, are a list from the lowest one on.
use Rattle.mpd_levels.specs.declared.level.Means.TheVariants as means
use Rattle.std.specs.Prelude.{ℕ, Bool, List, [], ◌∷◌, filter_map, codes, is_some, if◌then◌else◌, Option, Some, None}
use Rattle.mpd_tree.specs.Trees.{Element}
use Rattle.mpd_profile.specs.Heads.{or_else}
use Rattle.mpd_levels.specs.{declared.level.Means.Means, Readings.child_named}

-- the value of the first member that has one
abbrev pub first_some : {X Y : Type 0} → (X → Option Y) → List X → Option Y
first_some value [] = None
first_some value (x ∷ xs) = or_else (value x) (first_some value xs)

abbrev pub template_name : List ℕ
template_name = codes "SegmentTemplate"

abbrev pub list_name : List ℕ
list_name = codes "SegmentList"

abbrev pub base_name : List ℕ
base_name = codes "SegmentBase"

-- how segments are addressed where some of the three elements are present
abbrev pub means_by : (template list base : Bool) → Option Means
means_by template list base =
    if template then Some means.Template else if list then Some means.List else if base then Some means.Base else None

abbrev pub means_at : Element → Option Means
means_at level = means_by (is_some (child_named template_name level)) (is_some (child_named list_name level))
    (is_some (child_named base_name level))

-- the lowest level that has one of the three decides which of them is used
abbrev pub used : List Element → Option Means
used levels = first_some means_at levels

-- the elements of one name, from the lowest level on; those of another name are ignored
abbrev pub elements_used : (name : List ℕ) → List Element → List Element
elements_used name levels = filter_map (child_named name) levels
