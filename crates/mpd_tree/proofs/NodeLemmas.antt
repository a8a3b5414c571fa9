-- What the rows of a tree say of its nodes.
use Rattle.std.proofs.{Common.{◌≡◌, ℕ, ◌<◌, ◌≤◌, List, [], ◌∷◌, length, Some, ap, subst, arith}, lemmas.List.{append-nil, length-map}}
use Rattle.std.proofs.lemmas.Option.{get_or_from_slice_get, slice_get-map, slice_get_within}
use Rattle.std.specs.{List.{All, slice_get}, String.string_bytes}
use Rattle.mpd_tree.specs.{declared.tree.Tree.Tree, declared.tree.ElementRow.ElementRow, Forests.{Shown, shown_of}}
use Rattle.mpd_tree.specs.{Nodes.{element_of_row, kept_of, root_of, shown_in}, Trees.{element, nothing}}
use Rattle.mpd_tree.specs.Views.{element_at, forest_of, in_order, side_by_side}
use Rattle.mpd_tree.proofs.ForestLemmas.{forest_here, shown_at}

abbrev row_in : Tree → ElementRow → Shown
row_in tree row = shown_of (string_bytes tree.source) (kept_of tree) tree.attributes.items row

got : (tree : Tree) (k : ℕ) (row : ElementRow) → slice_get tree.elements k ≡ Some row → slice_get (shown_in tree) k ≡ Some (row_in tree row)
got tree k row is = grind (arith, slice_get-map (row_in tree) tree.elements k)

-- the element of a row, with what is inside of it, and where that ends
pub row_shows : (tree : Tree) (k : ℕ) (row : ElementRow) → slice_get tree.elements k ≡ Some row
    → (element_at (root_of tree) k ≡ element_of_row tree k row) × (k < row.next) × (row.next ≤ length tree.elements)
row_shows tree k row is =
    let root = root_of tree in
    let f = element root.head root.children nothing in
    let at = shown_at f 0 [] k k (row_in tree row) (rw tree.has_one_root at (got tree k row is)) (omega arith) in (
      grind (arith, at.shows, tree.has_one_root, append-nil (shown_in tree), append-nil (in_order root.children)),
      at.after,
      grind (arith, at.within, ap length tree.has_one_root, length-map tree.elements (row_in tree)),
    )

-- what a walk has before it
pub left : (tree : Tree) (at end : ℕ) (row : ElementRow) → slice_get tree.elements at ≡ Some row → at < end → at < row.next
    → side_by_side (forest_of (shown_in tree) 0 at end)
    ≡ element_of_row tree at row ∷ side_by_side (forest_of (shown_in tree) 0 row.next end)
left tree at end row is before after =
    ap side_by_side (forest_here (shown_in tree) 0 at at end (row_in tree row) (got tree at row is) (omega arith) before after)

pub all_at : {X : Type 0} (P : X → Type 0) (xs : List X) (k : ℕ) (x : X) → All P xs → slice_get xs k ≡ Some x → P x
all_at P xs k x all is = subst P (get_or_from_slice_get xs k x x is) (all k x (slice_get_within xs k x is))
