use Rattle.mpd_profile.proofs.left_out.has_none_kept.Goals as goal
use Rattle.std.proofs.{Common.{rules, tests}, lemmas.Iterator.Consumers.YieldsList-from_first, lemmas.Iterator.Search.all_from_yields_List}
use Rattle.mpd_tree.specs.Nodes.{element_of, elements_left}
use Rattle.mpd_profile.specs.LeftOut.{is_none_kept, type_of}

pub returns : goal.returns
returns c =
    all_from_yields_List (is_none_kept (type_of (element_of c.args.set).head)) c.all.new.self _ c.all.result c.all.ensures.ran
    (YieldsList-from_first element_of elements_left _ c.children.ensures)
    (λ x b q k. search (rules, tests))
