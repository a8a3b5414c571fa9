-- The values of rows, and the rows of sibling elements.
use Rattle.std.specs.Prelude.{ℕ, suc, ◌+◌, List, [], ◌∷◌, ◌++◌, length}
use Rattle.mpd_tree.specs.{declared.tree.AttributeRow.AttributeRow, declared.tree.ElementRow.ElementRow}
use Rattle.mpd_tree.specs.{Trees.{Head, Forest, nothing, element}, Heads.head_of}

-- an element without its content, and the row after those inside it
pub record Shown : Type 0 where
  pub head : Head
  pub next : ℕ

abbrev pub shown_of : (source kept : List ℕ) → List AttributeRow → ElementRow → Shown
shown_of source kept attributes row = record { head = head_of source kept attributes row; next = row.next }

-- sibling elements from the row at `at` on: each is followed by those inside it
abbrev pub flat : ℕ → Forest → List Shown
flat at nothing = []
flat at (element head children others) =
    let inner = flat (suc at) children in
    record { head = head; next = suc at + length inner } ∷ inner ++ flat (suc at + length inner) others
