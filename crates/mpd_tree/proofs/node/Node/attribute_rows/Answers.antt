use Rattle.mpd_tree.proofs.node.Node.attribute_rows.Goals as goal
use Rattle.std.proofs.lemmas.List.Elements.{All-drop, All-take}
use Rattle.mpd_tree.specs.Rows.{IsAttributeKept}

pub returns-clause-kept : goal.returns-clause-kept
returns-clause-kept c =
    let kept = All-drop (IsAttributeKept _ _) c.row-row.result.attributes _ c.args.self.now.tree.now.attributes_kept in
    rw c.deref.ensures.value (All-take (IsAttributeKept _ _) _ _ kept)
