-- The pieces that a template's text is cut into.
use Rattle.std.specs.Prelude.{◌≡◌, ℕ, ◌≤◌, Bool, false, List, slice_range, flat_map, All, IsCharBoundary, IfSome, Option, Some, Ok}
use Rattle.std.specs.List.{list_any}
use Rattle.template_ids.specs.{declared.identifier.Quantity.Quantity, declared.piece.Piece.Piece, declared.piece.Piece.TheVariants.Literal}
use Rattle.template_ids.specs.{declared.piece.Piece.TheVariants.Value, declared.fault.TemplateFault.TemplateFault, declared.ids.Ids.Ids}
use Rattle.template_ids.specs.{Identifiers.HasWidth, Templates.{is_padded, value_of, named, uses, identifiers_of, identifier_fault}}
use Rattle.template_ids.specs.Templates.{refusal}

-- what a piece of a text stands for
abbrev pub piece_text : List ℕ → Ids → Piece → List ℕ
piece_text text ids (Literal start end) = slice_range text start end
piece_text text ids (Value identifier) = value_of ids identifier

-- whether a piece is this number
abbrev pub is_quantity : Quantity → Piece → Bool
is_quantity q (Literal start end) = false
is_quantity q (Value identifier) = is_padded q (Ok identifier)

-- a literal can be cut out of the text
abbrev pub IsPieceOf : List ℕ → Piece → Type 0
IsPieceOf text (Literal start end) = (start ≤ end) × IsCharBoundary text start × IsCharBoundary text end
IsPieceOf text (Value identifier) = HasWidth identifier

-- the pieces of a template's text
pub record AreOf (text : List ℕ) (pieces : List Piece) : Type 0 where
  pub cut : All (IsPieceOf text) pieces
  pub names : (ids : Ids) → flat_map (piece_text text ids) pieces ≡ named text ids
  pub counts : (q : Quantity) → list_any (is_quantity q) pieces ≡ uses q text

-- the pieces of a text without an invalid identifier
abbrev pub PiecesOf : List ℕ → List Piece → Type 0
PiecesOf text pieces = AreOf text pieces × ((later : Option TemplateFault) → identifier_fault (identifiers_of text) later ≡ later)

-- the fault of the first invalid identifier, whatever fault is tried later, or out of memory
abbrev pub IsFirstFault : List ℕ → TemplateFault → Type 0
IsFirstFault text fault = IfSome (refusal fault) (λ f. (later : Option TemplateFault)
    → identifier_fault (identifiers_of text) later ≡ Some f)
