-- No changes, no segments.
use Rattle.std.proofs.Common.{◌≡◌, List, [], ◌∷◌, refl}
use Rattle.publish_law.specs.declared.track.Track.{Track}
use Rattle.publish_core.specs.Decisions.{segments_after}

pub none_after : (tracks : List Track) → segments_after tracks [] ≡ 0
none_after [] = refl
none_after (track ∷ tracks) = refl
