-- The Periods that were seen, as they are stored.
use Rattle.std.specs.Prelude.{◌≡◌, ℕ, ◌≤◌, true, false, List, length, map, drop, slice_get, bytes_eq, Option, Some, None, if◌then◌else◌}
use Rattle.std.specs.Option.{option_map_or}
use Rattle.mpd_rules.specs.Laws.{are_once}
use Rattle.live_meaning.specs.Known.{Attributes, Known}
use Rattle.live_judge.specs.{declared.known.KeptAttributes.KeptAttributes, declared.known.KnownPeriod.KnownPeriod}

abbrev pub attributes_shown : KeptAttributes → Attributes
attributes_shown a =
    let source = a.source.value in
    record { timescale = source.timescale; time_offset = a.time_offset; initialization = source.initialization }

abbrev pub known_shown : KnownPeriod → Known
known_shown k = record { id = k.id; start = k.start; attributes = map attributes_shown k.attributes.items }

-- an index, where the id is at it
abbrev pub if_there : (ids : List (List ℕ)) → (id : List ℕ) → Option ℕ → Option ℕ
if_there ids id None = None
if_there ids id (Some place) = if option_map_or (λ own. bytes_eq own id) (slice_get ids place) false then Some place else None

-- the ids in force are the known ones from an index on, and no known one is repeated
pub record StandsAt (known ids : List (List ℕ)) (place : ℕ) : Type 0 where
  pub once : are_once known ≡ true
  pub within : place ≤ length known
  pub behind : drop place known ≡ ids
