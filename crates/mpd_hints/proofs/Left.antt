-- The kept elements that an iterator has left.
use Rattle.mpd_profile.specs.declared.listed.Listed.TheVariants as listed
use Rattle.std.specs.Prelude.{List, codes, filter}
use Rattle.mpd_tree.specs.{declared.node.NodeWalk.NodeWalk, Nodes.elements_left, Trees.Element}
use Rattle.mpd_rules.specs.Kept.{is_kept}

abbrev pub periods_left : (mpd : Element) → NodeWalk → List Element
periods_left mpd walk = filter (is_kept listed.Period (codes "Period") mpd.head) (elements_left walk)

abbrev pub sets_left : (period : Element) → NodeWalk → List Element
sets_left period walk = filter (is_kept listed.AdaptationSet (codes "AdaptationSet") period.head) (elements_left walk)

abbrev pub representations_left : (set : Element) → NodeWalk → List Element
representations_left set walk = filter (is_kept listed.Representation (codes "Representation") set.head) (elements_left walk)
