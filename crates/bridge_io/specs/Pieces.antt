-- The pieces of a line.
use Rattle.std.specs.{Prelude.{ℕ, List, decimal}, List.flat_map}
use Rattle.bridge_io.specs.{declared.piece.Piece.Piece, declared.piece.Piece.TheVariants.{Text, Number, Wide}}

abbrev pub piece_text : Piece → List ℕ
piece_text (Text bytes) = bytes.now
piece_text (Number number) = decimal number
piece_text (Wide number) = decimal number

abbrev pub pieces_text : List Piece → List ℕ
pieces_text pieces = flat_map piece_text pieces
