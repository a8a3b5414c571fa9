use Rattle.mpd_profile.proofs.visit.Visit.check_attribute_values.Given as goal
use Rattle.std.proofs.Common.{◌≡◌, List, Some}
use Rattle.mpd_tree.specs.{Nodes.attributes_left, Trees.Head}
use Rattle.std.specs.Prelude.{flat_map}
use Rattle.bridge_io.specs.Firsts.{first_fault}
use Rattle.mpd_profile.specs.{Behind.IsBehind, Passes.visit_shown, Refusals.{attribute_told, attributes_told}}

abbrev pub invariant-loop-attr : goal.invariant-loop-attr
invariant-loop-attr l =
    (goal.iterator-loop-attr).can_next l.attr-iterator ×
    (goal.iterator-loop-attr).is_finite l.attr-iterator ×
    ((before : List Head) → IsBehind l.self.siblings.now l.self.dynamic before →
    first_fault (flat_map (attribute_told l.addressing (visit_shown l.self before) l.listed) (attributes_left l.attr-iterator))
    ≡ first_fault (attributes_told l.addressing (visit_shown l.self before) (Some l.listed)))
