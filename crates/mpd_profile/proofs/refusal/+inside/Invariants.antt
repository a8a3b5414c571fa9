use Rattle.mpd_profile.proofs.refusal.+inside.Given as goal
use Rattle.std.proofs.Common.{◌+◌, ◌*◌}
use Rattle.mpd_tree.specs.{Nodes.{element_of, elements_left}, Trees.depth}
use Rattle.mpd_profile.specs.Passes.{parent_shown}
use Rattle.mpd_profile.proofs.Passing.{IsAt}

abbrev pub decreases-check_child : goal.decreases-check_child
decreases-check_child l = 2 * depth (element_of l.node).children + 1

abbrev pub decreases-check_inside : goal.decreases-check_inside
decreases-check_inside l = 2 * depth (element_of l.parent.now.node).children

abbrev pub invariant-check_inside-loop-node : goal.invariant-check_inside-loop-node
invariant-check_inside-loop-node l =
    (goal.iterator-check_inside-loop-node).can_next l.node-iterator ×
    (goal.iterator-check_inside-loop-node).is_finite l.node-iterator ×
    IsAt l.pass (parent_shown l.parent) (element_of l.parent.node).children l.siblings (elements_left l.node-iterator)
