use Rattle.mpd_tree.proofs.node.Node.row.Goals as goal
use Rattle.mpd_tree.specs.Rows.{HasAttributesWithin, IsElementKept}
use Rattle.mpd_tree.proofs.NodeLemmas.{all_at, row_shows}

pub returns : goal.returns
returns c =
    let tree = c.args.self.now.tree.now in
    let shows = row_shows tree _ _ c.get.ensures in
    let kept = all_at (IsElementKept _ _) tree.elements _ _ tree.elements_kept c.get.ensures in
    let attributes = all_at (HasAttributesWithin _) tree.elements _ _ tree.attributes_within c.get.ensures in
    record { row = c.get.ensures; shows = shows.0; after = shows.1; within = shows.2; kept = kept; attributes = attributes }
