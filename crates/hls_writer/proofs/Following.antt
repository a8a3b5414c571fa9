-- Items one after another.
use Rattle.std.proofs.Common.{◌≡◌, ℕ, ◌+◌, ◌<◌, Bool, true, false, List, [], ◌∷◌, ◌++◌, length, drop, get_or, map, Option, refl, sym, ap}
use Rattle.std.proofs.{Common.◌∙◌, lemmas.List.{drop_more, map-append}, lemmas.List.Concat.flat_map-append}
use Rattle.std.specs.Bool.{then_some}
use Rattle.hls_writer.specs.{Items.item_of, Lines.{WrittenLine, line_text, lines_text}, Playlists.{items_lines, end_lines, last_section}}
use Rattle.hls_writer.specs.{Rows.all_written, declared.line.Tag.Tag, declared.line.Tag.TheVariants.EndList}
use Rattle.hls_writer.specs.{declared.items.MediaItem.MediaItem, Spelled.spelled_items}
use Rattle.url_parts.specs.Spelling.{PlaylistPlace}
use Rattle.hls_writer.proofs.Sections.{more_spelled}

-- the items that are left begin with the one that was read from the list
pub left_is : (items : List MediaItem) (i : ℕ) (item : MediaItem) → i < length items → item ≡ get_or items i item
    → drop i items ≡ item ∷ drop (i + 1) items
left_is items i item below at = drop_more items i item below ∙ ap (λ x. x ∷ drop (i + 1) items) (sym at)

-- the text of two lists of items is that of one
pub joined : (place : Option PlaylistPlace) (digits : ℕ) (former last : Option ℕ) (front back : List MediaItem)
    → last ≡ last_section former (spelled_items place (map item_of front))
    → lines_text (items_lines digits former (spelled_items place (map item_of front)))
    ++ lines_text (items_lines digits last (spelled_items place (map item_of back)))
    ≡ lines_text (items_lines digits former (spelled_items place (map item_of (front ++ back))))
joined place digits former last front back is = rw (is, map-append item_of front back)
    (more_spelled place digits former (map item_of front) (map item_of back) [] _ refl)

-- the three parts of a playlist's text
pub media_text : (head items end : List WrittenLine) → (lines_text head ++ lines_text items) ++ lines_text end
    ≡ lines_text (head ++ items ++ end)
media_text head items end = sym (flat_map-append line_text (head ++ items) end
    ∙ ap (λ t. t ++ lines_text end) (flat_map-append line_text head items))

-- the last line, if it is there
pub end_text : (ended : Bool) (end : Option Tag) → end ≡ then_some ended EndList
    → lines_text (all_written (end ∷ [])) ≡ lines_text (end_lines ended)
end_text true end is = rw is refl
end_text false end is = rw is refl
