use Rattle.mpd_profile.proofs.heads.has_child.Goals as goal
use Rattle.std.proofs.{Common.{rules, tests}, lemmas.Iterator.Consumers.YieldsList-from_first, lemmas.Iterator.Search.any_from_yields_List}
use Rattle.mpd_tree.specs.Nodes.{element_of, elements_left}
use Rattle.mpd_profile.specs.Heads.{is_named}

pub returns : goal.returns
returns c =
    any_from_yields_List (is_named c.args.name.now) c.any.new.self _ c.any.result c.any.ensures.ran
    (YieldsList-from_first element_of elements_left _ c.children.ensures)
    (λ x b q k. search (rules, tests))
