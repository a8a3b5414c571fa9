-- Lists of texts, and the union of some of them.
use Rattle.std.specs.{Prelude.{ℕ, ◌==◌, List, [], ◌∷◌, ◌++◌, map, slice_get, if◌then◌else◌, Option, unwrap_or}, List.slice_split}
use Rattle.std.specs.{Option.option_map_or, Borrow.Bor}
use Rattle.bridge_io.specs.Texts.{is_among}

abbrev pub texts_of : List (Bor (List ℕ)) → List (List ℕ)
texts_of texts = map (λ text. text.now) texts

-- a text added after those that were found before, if it isn't among them
abbrev pub with_text : List (List ℕ) → List ℕ → List (List ℕ)
with_text found text = if is_among text found then found else found ++ text ∷ []

abbrev pub with_texts : List (List ℕ) → List (List ℕ) → List (List ℕ)
with_texts found [] = found
with_texts found (text ∷ later) = with_texts (with_text found text) later

-- the texts between the commas of a text
abbrev pub parts_of : List ℕ → List (List ℕ)
parts_of text = slice_split (λ b. b == 44) text

-- and none where there is no text
abbrev pub parts_in : Option (List ℕ) → List (List ℕ)
parts_in text = option_map_or parts_of text []

-- the list at an index, and an empty one where there is none
abbrev pub list_at : List (List (List ℕ)) → ℕ → List (List ℕ)
list_at lists place = unwrap_or (slice_get lists place) []

-- the texts of the lists at some indices, each once, after those that were found before
abbrev pub merged_from : List (List (List ℕ)) → List (List ℕ) → (places : List ℕ) → List (List ℕ)
merged_from lists found [] = found
merged_from lists found (place ∷ later) = merged_from lists (with_texts found (list_at lists place)) later

abbrev pub merged : List (List (List ℕ)) → (places : List ℕ) → List (List ℕ)
merged lists places = merged_from lists [] places
