use Rattle.mpd_tree.proofs.node.Node.attribute.Given as goal
use Rattle.std.proofs.Common.{◌≡◌, drop, map}
use Rattle.mpd_tree.specs.{Nodes.attribute_in, Views.attribute_named}

abbrev pub invariant-loop-row : goal.invariant-loop-row
invariant-loop-row l = attribute_named l.name (map (attribute_in l.self.tree.now) (drop l.row-index l.row-items))
    ≡ attribute_named l.name (map (attribute_in l.self.tree.now) l.row-items)
