-- The errors that a pass finds, element by element.
use Rattle.mpd_profile.specs.declared.parent.Parent as parents
use Rattle.mpd_profile.specs.declared.visit.Visit as visits
use Rattle.std.specs.{Prelude.{List, [], ◌∷◌, ◌++◌, flat_map, if◌then◌else◌, option_map}, Borrow.Bor}
use Rattle.mpd_tree.specs.{Nodes.element_of, Trees.{Head, Forest, Element}}
use Rattle.mpd_profile.specs.{declared.fault.RuleFault.RuleFault, declared.listed.Addressing.Addressing}
use Rattle.mpd_profile.specs.{declared.listed.Addressing.TheVariants.Segments, declared.visit.Pass.Pass}
use Rattle.mpd_profile.specs.{declared.visit.Pass.TheVariants.{Both, Features, Values}, Elements.child_of, Features.features_at}
use Rattle.mpd_profile.specs.{LeftOut.is_left_out, Refusals.values_at}
use Rattle.mpd_profile.specs.Visits.{Parent, Visit, inside, parent_in, visit_in, visits_in, visits_of}

-- ---- the values of the code's types

abbrev pub parent_shown : parents.Parent → Parent
parent_shown parent = record { listed = parent.listed; head = (element_of parent.node).head; dynamic = parent.dynamic }

abbrev pub visit_shown : visits.Visit → List Head → Visit
visit_shown visit before = record {
  parent = option_map (λ (parent : Bor parents.Parent). parent_shown parent.now) visit.parent;
  before = before;
  listed = visit.listed;
  head = (element_of visit.node).head;
  dynamic = visit.dynamic;
}

-- ---- the passes

-- a pass over features checks every element that a pass over values does without SegmentBase
abbrev pub addressing_of : Pass → Addressing
addressing_of Features = Segments
addressing_of (Values addressing) = addressing
addressing_of Both = Segments

unfoldable pub told_by : Pass → Visit → List RuleFault
told_by Features visit = features_at visit
told_by (Values addressing) visit = values_at addressing visit
told_by Both visit = features_at visit ++ values_at Segments visit

-- in the elements of a parent, after others
unfoldable pub refused_inside : Pass → Parent → List Head → Forest → List RuleFault
refused_inside pass parent before children = flat_map (told_by pass) (visits_in (addressing_of pass) parent before children)

-- in one of them, with its content
unfoldable pub refused_child : Pass → Parent → List Head → Element → List RuleFault
refused_child pass parent before e =
    flat_map (told_by pass)
    (if is_left_out parent.head (child_of (addressing_of pass) parent.listed e.head.name) e then []
    else visit_in (addressing_of pass) parent before e.head
    ∷ inside (child_of (addressing_of pass) parent.listed e.head.name)
    (λ listed. visits_in (addressing_of pass) (parent_in parent listed e.head) [] e.children))

-- in each of them, in order
unfoldable pub refused_along : Pass → Parent → List Head → List Element → List RuleFault
refused_along pass parent before [] = []
refused_along pass parent before (e ∷ others) = refused_child pass parent before e ++ refused_along pass parent
    (before ++ e.head ∷ []) others

-- in an MPD
unfoldable pub refused_in : Pass → Element → List RuleFault
refused_in pass root = flat_map (told_by pass) (visits_of (addressing_of pass) root)
