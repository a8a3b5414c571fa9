-- How long the names of a template are at least, and whether they are one segment each.
use Rattle.std.specs.Prelude.{◌≡◌, ℕ, ◌<◌, ◌≤◌, ◌^◌, ◌==◌, ◌&&◌, not, Bool, true, List, length}
use Rattle.std.specs.List.{list_all}
use Rattle.bridge_io.specs.Names.{is_name_byte}
use Rattle.template_ids.specs.{Filled.ids_with, Pieces.piece_text, Templates.{named, value_of}, declared.piece.Piece.Piece}
use Rattle.template_ids.specs.{declared.identifier.Identifier.Identifier}

-- a byte of a name other than a slash
abbrev pub is_segment_byte : ℕ → Bool
is_segment_byte b = is_name_byte b && not (b == 47)

-- what holds of a text for each number and each time
abbrev pub ForEach : (ℕ → ℕ → List ℕ) → (List ℕ → Type 0) → Type 0
ForEach text P = (number time : ℕ) → number < 2 ^ 64 → time < 2 ^ 64 → P (text number time)

abbrev pub IsAtLeast : ℕ → List ℕ → Type 0
IsAtLeast least text = least ≤ length text

abbrev pub IsSegment : List ℕ → Type 0
IsSegment text = list_all is_segment_byte text ≡ true

-- the names that a template gives with this id and bandwidth
abbrev pub names_of : (media id : List ℕ) → (bandwidth number time : ℕ) → List ℕ
names_of media id bandwidth number time = named media (ids_with id bandwidth number time)

-- what an identifier gives with this id and bandwidth
abbrev pub values_of : (id : List ℕ) → (bandwidth : ℕ) → Identifier → (number time : ℕ) → List ℕ
values_of id bandwidth identifier number time = value_of (ids_with id bandwidth number time) identifier

-- what a piece gives with this id and bandwidth
abbrev pub texts_of : (media id : List ℕ) → (bandwidth : ℕ) → Piece → (number time : ℕ) → List ℕ
texts_of media id bandwidth piece number time = piece_text media (ids_with id bandwidth number time) piece
