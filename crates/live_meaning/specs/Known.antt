-- The Periods that were seen.
use Rattle.std.specs.Prelude.{ℕ, ◌==◌, ◌&&◌, not, Bool, true, false, List, [], ◌∷◌, ◌++◌, length, map, filter, flat_map, drop, bytes_eq}
use Rattle.std.specs.{Prelude.{Option, option_map, option_to_list, is_none}, List.{find, list_any, list_all, range_with_len, starts_with}}
use Rattle.url_parts.specs.declared.address.Part.{Part}
use Rattle.reload_law.specs.Rules.{same_part}
use Rattle.presentation.specs.{declared.parts.Content.Content, Presented.{Presented, content_at, start_of}, Counting.sections_of}
use Rattle.presentation.specs.Counting.{tracks_of}
use Rattle.live_meaning.specs.Segments.{id_at}

-- what may not change of a track in a Period
pub record Attributes : Type 0 where
  pub timescale : ℕ
  pub time_offset : ℕ
  pub initialization : Part

-- a Period as it was accepted first, with the attributes of each track
pub record Known : Type 0 where
  pub id : List ℕ
  pub start : ℕ
  pub attributes : List Attributes

abbrev pub attributes_of : Content → Attributes
attributes_of content =
    record { timescale = content.runs.ticks; time_offset = content.runs.offset; initialization = content.initialization }

abbrev pub attributes_at : Presented → (section : ℕ) → List Attributes
attributes_at p s = flat_map (λ t. option_to_list (option_map attributes_of (content_at p s t))) (tracks_of p)

abbrev pub known_at : Presented → (section : ℕ) → Known
known_at p s = record { id = id_at p s; start = start_of p s; attributes = attributes_at p s }

abbrev pub periods_of : Presented → List Known
periods_of p = map (known_at p) (sections_of p)

abbrev pub has_id : List ℕ → Known → Bool
has_id id k = bytes_eq id k.id

abbrev pub known_by : List Known → List ℕ → Option Known
known_by known id = find (has_id id) known

abbrev pub is_new : List Known → Known → Bool
is_new known k = is_none (known_by known k.id)

-- with the Periods of a presentation that were never seen
abbrev pub known_with : List Known → Presented → List Known
known_with known p = known ++ filter (is_new known) (periods_of p)

abbrev pub ids_of : List Known → List (List ℕ)
ids_of known = map (λ k. k.id) known

abbrev pub same_attributes : Attributes → Attributes → Bool
same_attributes a b = a.timescale == b.timescale && a.time_offset == b.time_offset && same_part a.initialization b.initialization

abbrev pub all_same : List Attributes → List Attributes → Bool
all_same [] [] = true
all_same [] (b ∷ bs) = false
all_same (a ∷ later) [] = false
all_same (a ∷ later) (b ∷ bs) = same_attributes a b && all_same later bs

-- some ids begin with the known ones from an index on, and those after them were never seen
abbrev pub goes_on_from : (known ids : List (List ℕ)) → (place : ℕ) → Bool
goes_on_from known ids place = let rest = drop place known in
    starts_with bytes_eq ids rest && list_all (λ id. not (list_any (bytes_eq id) known)) (drop (length rest) ids)

abbrev pub goes_on : (known ids : List (List ℕ)) → Bool
goes_on known ids = list_any (goes_on_from known ids) (range_with_len 0 (length known) ++ length known ∷ [])
