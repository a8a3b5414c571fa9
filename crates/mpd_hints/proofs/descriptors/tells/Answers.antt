use Rattle.mpd_hints.proofs.descriptors.tells.Goals as goal
use Rattle.std.proofs.{Common.{rules, tests}, lemmas.Iterator.Consumers.YieldsList-from_first, lemmas.Iterator.Search.any_from_yields_List}
use Rattle.mpd_tree.specs.Nodes.{element_of, elements_left}
use Rattle.mpd_hints.specs.Tracks.{is_told}

pub returns : goal.returns
returns c =
    any_from_yields_List (is_told c.args.name.now c.args.scheme.now c.args.value.now) c.any.new.self _ c.any.result c.any.ensures.ran
    (YieldsList-from_first element_of elements_left _ c.children.ensures) (λ x b q k. search (rules, tests))
