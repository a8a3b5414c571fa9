-- Tracks are the same however their segments are told.
use Rattle.std.proofs.Common.{◌≡◌, List, map, sym, ◌∙◌, ap}
use Rattle.mpd_rules.specs.{declared.file_index.FileIndex.FileIndex, declared.rows.TrackRow.TrackRow, Held.Keyed, Typed.track_with}
use Rattle.mpd_presentation.specs.Rows.{in_order, track_of}
use Rattle.presentation.proofs.Grids.{by_kind_made}
use Rattle.mpd_presentation.proofs.Joining.{seen_twice}
use Rattle.index_parts.specs.Rows.{shown}

pub same_tracks : (rows : List (TrackRow (Keyed FileIndex)))
    → map track_of (in_order (map (track_with shown) rows)) ≡ map track_of (in_order rows)
same_tracks rows =
    ap (map track_of) (by_kind_made (track_with shown) (λ row. row.description.kind) rows)
    ∙ sym (seen_twice track_of (track_with shown) (in_order rows))
