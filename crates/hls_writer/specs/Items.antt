-- Playlists as they are passed in.
use Rattle.std.specs.Prelude.{ℕ, List, map, Option, Some}
use Rattle.url_parts.specs.Spelling.{PlaylistPlace}
use Rattle.hls_writer.specs.{Playlists.{Item, Head, followed_text}, Spelled.spelled_items, declared.items.MediaHead.MediaHead}
use Rattle.hls_writer.specs.declared.items.MediaItem.{MediaItem}

abbrev pub head_of : MediaHead → Head
head_of head = record {
  target = head.target;
  sequence = head.sequence;
  first_section = head.first_section;
  ended = head.ended;
  digits = head.digits;
}

abbrev pub item_of : MediaItem → Item
item_of item = record {
  part = record { address = item.address; range = item.range };
  map = item.map;
  duration = item.duration;
  section = item.section;
  date = Some item.date;
}

-- the text of a head and items
abbrev pub items_text : MediaHead → List MediaItem → List ℕ
items_text head items = followed_text (head_of head) (map item_of items)

-- the same in a playlist at a place
abbrev pub spelled_text : Option PlaylistPlace → MediaHead → List MediaItem → List ℕ
spelled_text place head items = followed_text (head_of head) (spelled_items place (map item_of items))
