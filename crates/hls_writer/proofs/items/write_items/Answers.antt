use Rattle.hls_writer.proofs.items.write_items.Goals as goal
use Rattle.std.proofs.{Common.{◌≡◌, List, [], ◌++◌, ap, map, Option, None, ◌∙◌}, lemmas.List.append-nil}
use Rattle.url_parts.specs.Spelling.{PlaylistPlace}
use Rattle.hls_writer.specs.{Items.{head_of, item_of, items_text, spelled_text}, Playlists.followed_text}
use Rattle.hls_writer.specs.declared.items.{MediaHead.MediaHead, MediaItem.MediaItem}
use Rattle.hls_writer.proofs.Spelled.{plain_items}

plain : (place : Option PlaylistPlace) (head : MediaHead) (all items : List MediaItem) → place ≡ None → all ≡ items
    → spelled_text place head (all ++ []) ≡ items_text head items
plain place head all items none same =
    ap (λ place. spelled_text place head (all ++ [])) none ∙ ap (spelled_text None head) (append-nil all)
    ∙ ap (followed_text (head_of head)) (plain_items (map item_of all)) ∙ ap (items_text head) same

pub returns-clause-ok : goal.returns-clause-ok
returns-clause-ok g c =
    let text = plain c.absolute.result c.args.head.now c.as_slice.result.now c.args.items.now c.absolute.ensures c.as_slice.ensures in
    rw text at c.write_item_slices.ensures.ok

pub returns-clause-err : goal.returns-clause-err
returns-clause-err g c =
    let text = plain c.absolute.result c.args.head.now c.as_slice.result.now c.args.items.now c.absolute.ensures c.as_slice.ensures in
    rw text at c.write_item_slices.ensures.err
