-- When two manifests mean the same, with a tolerance of time.
use Rattle.std.specs.Prelude.{◌≡◌, ◌⊎◌, ℕ, ◌≤◌, All, List, Option, length, option_map}
use Rattle.exact_time.specs.Time.{Time}
use Rattle.bridge_io.specs.Firsts.{first_of}
use Rattle.meaning.specs.{declared.difference.Difference.Difference, Meanings.{Meaning, Track}, Same.{IsSameOrRounded, Same}}
use Rattle.differences.specs.{Deviating.deviations, Sizes.size_of}

-- the second time is within the tolerance in nanoseconds, or the first one, or that one rounded down
abbrev pub IsAlike : (within unit : ℕ) → Time → Time → Type 0
IsAlike within unit x y = (size_of x y ≤ within) ⊎ IsSameOrRounded unit x y

abbrev pub AgreesWithin : (within unit : ℕ) → Meaning → Meaning → Type 0
AgreesWithin within unit a b = Same (IsAlike within unit) a b

-- each of these tracks has so many entries
abbrev pub IsEntries : ℕ → Track → Type 0
IsEntries n track = length track.entries ≡ n

abbrev pub HaveEntries : ℕ → List Track → Type 0
HaveEntries n tracks = All (IsEntries n) tracks

-- each track has an entry for each section
abbrev pub HasSections : Meaning → Type 0
HasSections a = HaveEntries a.sections a.tracks

-- what the first of all differences is
abbrev pub first_deviation : (within unit : ℕ) → Meaning → Meaning → Option Difference
first_deviation within unit a b = option_map (λ found. found.at) (first_of (deviations within unit a b))
