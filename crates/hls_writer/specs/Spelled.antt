-- Segments with their URLs as they are written in a playlist.
use Rattle.std.specs.Prelude.{List, map, Option}
use Rattle.url_parts.specs.{Spelling.{PlaylistPlace, spelled}, declared.address.Part.Part}
use Rattle.hls_writer.specs.Playlists.{Item}

abbrev pub spelled_part : Option PlaylistPlace → Part → Part
spelled_part place part = record { address = spelled place part.address; range = part.range }

-- the URL of the segment and that of its init segment
abbrev pub spelled_item : Option PlaylistPlace → Item → Item
spelled_item place item = record item { part = spelled_part place item.part; map = spelled_part place item.map }

abbrev pub spelled_items : Option PlaylistPlace → List Item → List Item
spelled_items place items = map (spelled_item place) items
