-- The label of an AdaptationSet: ISO/IEC 23009-1, 5.3.10.
use Rattle.std.specs.Prelude.{ℕ, ◌==◌, ◌||◌, Bool, List, codes, if◌then◌else◌, Option, Some, None, option_and_then}
use Rattle.mpd_values.specs.Blanks.{without_end, without_front}
use Rattle.mpd_tree.specs.Trees.{Element}
use Rattle.mpd_levels.specs.Readings.{child_named}
use Rattle.track_hints.specs.Labels.{is_fit}

-- space, tab, LF, CR
abbrev pub is_blank : ℕ → Bool
is_blank b = b == 32 || (b == 9 || (b == 10 || b == 13))

-- a text without the blanks around it
abbrev pub trimmed : List ℕ → List ℕ
trimmed text = without_front is_blank (without_end is_blank text)

abbrev pub if_fit : List ℕ → Option (List ℕ)
if_fit text = if is_fit text then Some text else None

-- by the character data directly inside it, and not that of elements inside it
abbrev pub label_by : Element → Option (List ℕ)
label_by label = if_fit (trimmed label.head.text)

-- the first Label of a set, where it can be a name
abbrev pub label_of : Element → Option (List ℕ)
label_of set = option_and_then label_by (child_named (codes "Label") set)
