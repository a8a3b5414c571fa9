-- Items with absolute URLs are as they are.
use Rattle.std.proofs.Common.{◌≡◌, List, [], ◌∷◌, None, refl, ap}
use Rattle.hls_writer.specs.{Playlists.Item, Spelled.spelled_items}

pub plain_items : (items : List Item) → spelled_items None items ≡ items
plain_items [] = refl
plain_items (item ∷ items) = ap (λ others. item ∷ others) (plain_items items)
