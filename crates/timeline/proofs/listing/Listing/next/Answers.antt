use Rattle.std.proofs.lemmas.List.Elements.{All-drop}
use Rattle.timeline.specs.Listed.{CanBeNamed}
use Rattle.timeline.proofs.listing.Listing.next.Goals as goal

pub invariant_of-self-2 : goal.invariant_of-self-2
invariant_of-self-2 g c =
    (rw c.advance.ensures (All-drop (CanBeNamed c.self.inside.runs.now) 1 _ c.self.invariant.0), c.part_of.ensures.kept)
