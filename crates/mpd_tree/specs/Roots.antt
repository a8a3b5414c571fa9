-- The tree of rows.
use Rattle.std.specs.Prelude.{◌≡◌, ℕ, suc, nat_lt, List, [], ◌∷◌, ◌++◌, map, length, if◌then◌else◌}
use Rattle.mpd_tree.specs.{declared.tree.ElementRow.ElementRow, declared.tree.AttributeRow.AttributeRow, Forests.{Shown, shown_of, flat}}
use Rattle.mpd_tree.specs.Trees.{Forest, nothing, element, Element}

-- The sibling elements in the rows from `from` up to `end`, where the rows begin at `at`: each row is followed by those
-- inside it, up to its `next`.
abbrev pub forest_of : List Shown → (at from end : ℕ) → Forest
forest_of [] at from end = nothing
forest_of (row ∷ rows) at from end =
    if nat_lt at from then forest_of rows (suc at) from end
    else if nat_lt at end then element row.head (forest_of rows (suc at) (suc at) row.next) (forest_of rows (suc at) row.next end)
    else nothing

-- the first of them
abbrev pub first_of : Forest → Element → Element
first_of nothing otherwise = otherwise
first_of (element head children others) otherwise = record { head = head; children = children }

abbrev pub no_element : Element
no_element = record { head = record { name = []; place = record { at = 0; line = 0 }; attributes = []; text = [] }; children = nothing }

abbrev pub rows_shown : (source read : List ℕ) → List ElementRow → List AttributeRow → List Shown
rows_shown source read elements attributes = map (shown_of source (source ++ read) attributes) elements

abbrev pub root_shown : (source read : List ℕ) → List ElementRow → List AttributeRow → Element
root_shown source read elements attributes =
    first_of (forest_of (rows_shown source read elements attributes) 0 0 (length elements)) no_element

-- the rows are those of their root and its content, and nothing else
abbrev pub HasOneRoot : (source read : List ℕ) → List ElementRow → List AttributeRow → Type 0
HasOneRoot source read elements attributes =
    rows_shown source read elements attributes
    ≡ flat 0 (element (root_shown source read elements attributes).head (root_shown source read elements attributes).children nothing)
