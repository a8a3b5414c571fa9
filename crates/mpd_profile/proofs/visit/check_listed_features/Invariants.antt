use Rattle.mpd_profile.proofs.visit.check_listed_features.Given as goal
use Rattle.std.proofs.Common.{◌≡◌, Some}
use Rattle.bridge_io.specs.Firsts.{first_fault}
use Rattle.mpd_tree.specs.Nodes.{attributes_left, element_of}
use Rattle.mpd_profile.specs.Features.{attributes_told}

abbrev pub invariant-loop-attr : goal.invariant-loop-attr
invariant-loop-attr l =
    (goal.iterator-loop-attr).can_next l.attr-iterator ×
    (goal.iterator-loop-attr).is_finite l.attr-iterator ×
    (first_fault (attributes_told (Some l.listed) l.dynamic (attributes_left l.attr-iterator))
    ≡ first_fault (attributes_told (Some l.listed) l.dynamic (element_of l.fn.node).head.attributes))
