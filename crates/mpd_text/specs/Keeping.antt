-- The result so far while a text is read.
use Rattle.mpd_text.specs.declared.content.Piece.TheVariants as pieces
use Rattle.mpd_tree.specs.Pieces as spec
use Rattle.mpd_tree.specs.Grammar as grammar
use Rattle.std.specs.{Prelude.{◌≡◌, ℕ, suc, Bool, List, [], ◌∷◌, ◌++◌, drop, length, map}, String.string_bytes}
use Rattle.mpd_text.specs.{declared.content.Piece.Piece, declared.kept.Kept.Kept, Rests.IsBehind}
use Rattle.mpd_tree.specs.{Forests.{Shown, shown_of, flat}, Trees.{names_of, Attribute, Head, Forest, nothing, element, Element}}
use Rattle.mpd_tree.specs.{Views.attribute_of, Rows.IsKept, declared.tree.KeptSpan.KeptSpan, Positions.place_before}
use Rattle.mpd_tree.specs.{Productions.{Production, ◌>>◌}, Grammar.{tag, next_inside, inside}, Runs.name_at}

-- the source, and after it what differs from the source once read
abbrev pub kept_of : Kept → List ℕ
kept_of k = k.source.now ++ string_bytes k.read

unfoldable pub shown_in : Kept → List Shown
shown_in k = map (shown_of k.source.now (kept_of k) k.attributes.items) k.elements

unfoldable pub attributes_in : Kept → List Attribute
attributes_in k = map (attribute_of k.source.now (kept_of k)) k.attributes.items

-- those from a row on
abbrev pub attributes_from : Kept → ℕ → List Attribute
attributes_from k from = drop from (attributes_in k)

abbrev pub names_from : Kept → ℕ → List (List ℕ)
names_from k from = names_of (attributes_from k from)

-- these rows were added
pub record Grows (rows : List Shown) (old new : Kept) : Type 0 where
  pub same : new.source.now ≡ old.source.now
  pub shown_are : shown_in new ≡ shown_in old ++ rows

-- these attributes were added
pub record Adds (attributes : List Attribute) (old new : Kept) : Type 0 where
  pub same : new.source.now ≡ old.source.now
  pub shown_are : shown_in new ≡ shown_in old
  pub attributes_are : attributes_in new ≡ attributes_in old ++ attributes

-- no rows were added
pub record Stays (old new : Kept) : Type 0 where
  pub same : new.source.now ≡ old.source.now
  pub shown_are : shown_in new ≡ shown_in old

-- the head of a tag whose name the bytes begin with
abbrev pub head_at : List ℕ → ℕ → List ℕ → List Attribute → Head
head_at whole left bytes attributes = record {
  name = (name_at bytes).0;
  place = place_before whole left;
  attributes = attributes;
  text = [];
}

-- that of a tag that was read last
abbrev pub last_head : Kept → Kept → ℕ → List ℕ → Head
last_head old new left bytes = head_at old.source.now left bytes (attributes_from new (length (attributes_in old)))

abbrev pub piece_of : Head → Piece → spec.Piece
piece_of head pieces.Comment = spec.comment
piece_of head pieces.Ended = spec.ended
piece_of head pieces.Empty = spec.empty head
piece_of head (pieces.Begun b) = spec.begun head

abbrev pub IsTag : Piece → Type 0
IsTag pieces.Comment = ⊥
IsTag pieces.Ended = ⊥
IsTag pieces.Empty = Unit {0}
IsTag (pieces.Begun b) = Unit {0}

-- what is stored of a piece, given the nesting levels that were left
abbrev pub IsPieceKept : ℕ → Head → Kept → Kept → Piece → Type 0
IsPieceKept room head old new pieces.Comment = Stays old new
IsPieceKept room head old new pieces.Ended = Stays old new
IsPieceKept room head old new pieces.Empty = Grows (record { head = head; next = suc (length (shown_in old)) } ∷ []) old new
IsPieceKept room head old new (pieces.Begun b) =
    (b.row ≡ length (shown_in old)) × (b.name.now ≡ head.name) × (suc b.room ≡ room)
    × Grows (record { head = head; next = suc (length (shown_in old)) } ∷ []) old new

-- what is stored of a piece that was read up to the rest
pub record IsPieceRead (room : ℕ) (head : Head) (old new : Kept) (piece : Piece) (rest : List ℕ) : Type 0 where
  pub kept : IsPieceKept room head old new piece
  pub left : IsBehind old.source.now rest

-- the span is stored, and the rest of the source is left
pub record IsSpanRead (old new : Kept) (span : KeptSpan) (rest : List ℕ) : Type 0 where
  pub kept : IsKept new.source.now (kept_of new) span
  pub left : IsBehind old.source.now rest

-- the source is unchanged, and the rest of it is left
pub record IsLeft (old new : Kept) (rest : List ℕ) : Type 0 where
  pub same : new.source.now ≡ old.source.now
  pub left : IsBehind old.source.now rest

-- the last row has its element's content
pub record IsFilled (at : ℕ) (i : spec.Inside) (old new : Kept) : Type 0 where
  pub same : new.source.now ≡ old.source.now
  pub shown_are : (before : List Shown) (s : Shown) → shown_in old ≡ before ++ s ∷ [] → length before ≡ at
      → shown_in new ≡ before ++ flat at (element (record s.head { text = i.text }) i.children nothing)

-- the rows are those of one element and its content
abbrev pub ShowsRoot : Kept → Element → Type 0
ShowsRoot k root = shown_in k ≡ flat 0 (element root.head root.children nothing)

-- character data and the piece after it, after what is read so far
abbrev pub content_step : ℕ → List ℕ → List ℕ → Forest → List ℕ → List ℕ → Production (spec.Inside × Bool × List ℕ)
content_step room whole name children text bytes =
    next_inside (inside room whole) whole room name (record { children = children; text = text }) bytes

-- an element from its name on
abbrev pub element_at : List ℕ → ℕ → List ℕ → Production (Element × List ℕ)
element_at whole left bytes = tag whole left bytes >> grammar.element whole
