-- The tracks of both sides can be written where each side's can.
use Rattle.std.proofs.Common.{List, [], ◌∷◌, All}
use Rattle.std.proofs.lemmas.List.Elements.{All-cons, All-head, All-nil, All-tail}
use Rattle.laws_of_publishing.specs.Laws.{IsWritableTrack}
use Rattle.publish_core.specs.{Decisions.paired, Sides.{AreWritable, IsWritableList}, declared.side.SideTrack.SideTrack}

abbrev IsWritableSide : SideTrack → Type 0
IsWritableSide track = IsWritableList track.list

pub writable_pairs : (new served : List SideTrack) → AreWritable new → AreWritable served → All IsWritableTrack (paired new served)
writable_pairs [] served news olds = All-nil IsWritableTrack
writable_pairs (new ∷ more) [] news olds = All-nil IsWritableTrack
writable_pairs (new ∷ more) (old ∷ olds) news all = All-cons IsWritableTrack _ _
    (record { served = All-head IsWritableSide old olds all; new = All-head IsWritableSide new more news })
    (writable_pairs more olds (All-tail IsWritableSide new more news) (All-tail IsWritableSide old olds all))
