use Rattle.mpd_levels.proofs.tables.run_texts.Given as goal
use Rattle.std.proofs.Common.{◌≡◌}
use Rattle.std.specs.Prelude.{codes}
use Rattle.mpd_tree.specs.Nodes.{attributes_left, element_of}
use Rattle.mpd_profile.specs.Heads.{value_named}
use Rattle.mpd_levels.proofs.Walking.{found_in, shown}

abbrev pub invariant-loop-attr : goal.invariant-loop-attr
invariant-loop-attr l =
    (goal.iterator-loop-attr).can_next l.attr-iterator ×
    (goal.iterator-loop-attr).is_finite l.attr-iterator ×
    (found_in (codes "t") (shown l.t) (attributes_left l.attr-iterator) ≡ value_named (codes "t") (element_of l.fn.s).head) ×
    (found_in (codes "d") (shown l.d) (attributes_left l.attr-iterator) ≡ value_named (codes "d") (element_of l.fn.s).head) ×
    (found_in (codes "r") (shown l.r) (attributes_left l.attr-iterator) ≡ value_named (codes "r") (element_of l.fn.s).head)
