-- Values of attributes, without a bound on their size unless the name says otherwise.
use Rattle.std.specs.Prelude.{ℕ, ℤ, ◌==◌, ◌^◌, List, codes, if◌then◌else◌, Option, Some, None, option_map, option_and_then}
use Rattle.std.specs.Result.{result_ok}
use Rattle.iso_time.specs.{Duration.{DurationParts, duration_of, months_of, nanos_of, parts_of}, Instant.instant_of}
use Rattle.mpd_values.specs.{declared.blank.Blank.TheVariants.{Space, SpaceOrLineEnd}, Blanks.trimmed}
use Rattle.mpd_values.specs.{FrameRates.{frame_rate_between, frame_rate_of}, Numbers.number_between}
use Rattle.mpd_tree.specs.Trees.{Head, Element}
use Rattle.mpd_profile.specs.Heads.{value_named}
use Rattle.mpd_levels.specs.Readings.{child_named}

-- the nanoseconds of a duration without years and months
abbrev pub nanos_unless_months : DurationParts → Option ℕ
nanos_unless_months p = if months_of p == 0 then Some (nanos_of p) else None

abbrev pub duration_in : List ℕ → Option ℕ
duration_in text = option_and_then nanos_unless_months (parts_of (trimmed Space text))

-- a duration below 10^19 nanoseconds
abbrev pub duration_within : List ℕ → Option ℕ
duration_within text = result_ok (duration_of (trimmed Space text))

abbrev pub instant_in : List ℕ → Option ℤ
instant_in text = result_ok (instant_of (trimmed Space text))

-- ---- attributes of a tag

abbrev pub duration_named : List ℕ → Head → Option ℕ
duration_named name head = option_and_then duration_in (value_named name head)

abbrev pub duration_within_named : List ℕ → Head → Option ℕ
duration_within_named name head = option_and_then duration_within (value_named name head)

abbrev pub instant_named : List ℕ → Head → Option ℤ
instant_named name head = option_and_then instant_in (value_named name head)

-- a number below 2^32
abbrev pub number_within_named : List ℕ → Head → Option ℕ
number_within_named name head = option_and_then (number_between 0 (2 ^ 32)) (value_named name head)

abbrev pub frame_rate_named : Head → Option (ℕ × ℕ)
frame_rate_named head = option_and_then frame_rate_of (value_named (codes "frameRate") head)

-- both parts below 2^32
abbrev pub frame_rate_within_named : Head → Option (ℕ × ℕ)
frame_rate_within_named head = option_and_then frame_rate_between (value_named (codes "frameRate") head)

abbrev pub id_of : Element → Option (List ℕ)
id_of e = value_named (codes "id") e.head

-- an element's first BaseURL
abbrev pub base_in : Element → Option Element
base_in e = child_named (codes "BaseURL") e

-- its text, spaces and line ends around it dropped
abbrev pub base_reference : Element → Option (List ℕ)
base_reference e = option_map (λ base. trimmed SpaceOrLineEnd base.head.text) (base_in e)
