use Rattle.hls_writer.proofs.items.push_items.Given as goal
use Rattle.std.proofs.Common.{◌≡◌, ℕ, List, ◌++◌, drop, map, Ok}
use Rattle.bridge_io.specs.Adding.{Adds}
use Rattle.hls_writer.specs.{Items.item_of, Lines.lines_text, Playlists.{items_lines, last_section}, Spelled.spelled_items}

-- what is added so far goes on to the text of all items
abbrev pub invariant-loop-item : goal.invariant-loop-item
invariant-loop-item g l =
    let all = spelled_items l.spelling (map item_of l.items) in
    let left = spelled_items l.spelling (map item_of (drop l.item-index l.items)) in
    record {
      done : (done : List ℕ)
          × (done ++ lines_text (items_lines l.digits l.former left) ≡ lines_text (items_lines l.digits l.initial.former all))
          × Adds {T = Unit {0}} g.F.Store done l.initial.sheet l.sheet (Ok tt);
      last : last_section l.former left ≡ last_section l.initial.former all;
    }
