use Rattle.mpd_hints.proofs.labels.first_label.Goals as goal
use Rattle.std.proofs.{Common.{rules, tests}, lemmas.Iterator.Consumers.YieldsList-from_first, lemmas.Iterator.Search.find_from_yields_List}
use Rattle.std.specs.Prelude.{codes}
use Rattle.mpd_tree.specs.Nodes.{element_of, elements_left}
use Rattle.mpd_profile.specs.Heads.{is_named}

pub returns : goal.returns
returns c =
    find_from_yields_List (is_named (codes "Label")) c.find.new.self _ c.find.result c.find.ensures.ran
    (YieldsList-from_first element_of elements_left _ c.children.ensures) (λ x b q k. search (rules, tests))
