-- Indices of ids in the order of these.
use Rattle.std.specs.Prelude.{◌≡◌, ◌<◌, ℕ, Bool, true, false, List, length, get_or, slice_get}
use Rattle.std.specs.{Option.option_map_or, List.Sorted.IsPartitionedBy, Ordering.{is_lt, nat_cmp}, Cmp.Lexicographic.slice_cmp}
use Rattle.mpd_rules.specs.Laws.{are_once}

abbrev pub is_lower : List ℕ → List ℕ → Bool
is_lower one other = is_lt (slice_cmp nat_cmp one other)

-- whether the id at an index comes before an id
abbrev pub is_before : (ids : List (List ℕ)) → (id : List ℕ) → (place : ℕ) → Bool
is_before ids id place = option_map_or (λ own. is_lower own id) (slice_get ids place) false

-- the indices below a number, each once, in the order of the ids
pub record IsOrderOf (ids : List (List ℕ)) (count : ℕ) (order : List ℕ) : Type 0 where
  pub sorted : (id : List ℕ) → IsPartitionedBy (is_before ids id) order
  pub within : (rank d : ℕ) → rank < length order → get_or order rank d < count
  pub all : (place : ℕ) → place < count → (rank : ℕ) × (rank < length order) × ((d : ℕ) → get_or order rank d ≡ place)

-- no id is repeated, and these are all indices in the order of the ids
pub record IsOrder (ids : List (List ℕ)) (order : List ℕ) : Type 0 where
  pub once : are_once ids ≡ true
  pub all : IsOrderOf ids (length ids) order
