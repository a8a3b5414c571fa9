-- The location of a manifest.
use Rattle.std.specs.{Prelude.{ℕ, List, Option, option_map}, Option.option_and_then}
use Rattle.bridge_report.specs.Bases.{file_url, folder_url}
use Rattle.bridge_playlists.specs.declared.place.StorePlace.{StorePlace}

abbrev pub store_place_with : (file folder url : List ℕ) → StorePlace
store_place_with file folder url = record { file = file; folder = folder; url = url }

-- a manifest is under a folder's URL, and has a URL itself
unfoldable pub store_place_of : (base file : List ℕ) → Option StorePlace
store_place_of base file = option_and_then (λ folder. option_map (store_place_with file folder) (file_url base file)) (folder_url base)
