use Rattle.mpd_hints.proofs.descriptors.configuration_in.Goals as goal
use Rattle.std.proofs.{Common.{rules, tests}, lemmas.Iterator.Consumers.YieldsList-from_first, lemmas.Iterator.Search.find_from_yields_List}
use Rattle.mpd_tree.specs.Nodes.{element_of, elements_left}
use Rattle.mpd_hints.specs.Tracks.{is_configuration}

pub returns : goal.returns
returns c =
    find_from_yields_List is_configuration c.find.new.self _ c.find.result c.find.ensures.ran
    (YieldsList-from_first element_of elements_left _ c.children.ensures) (λ x b q k. search (rules, tests))
