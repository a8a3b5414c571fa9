use Rattle.mpd_profile.proofs.visit.are_plain_values.Goals as goal
use Rattle.std.proofs.{Common.{rules, tests}, lemmas.Iterator.Consumers.YieldsList-from_first, lemmas.Iterator.Search.all_from_yields_List}
use Rattle.mpd_tree.specs.{Nodes.attributes_left, Views.attribute_shown}
use Rattle.mpd_profile.specs.Plain.{is_plain_value}

pub returns : goal.returns
returns c =
    all_from_yields_List is_plain_value c.all.new.self _ c.all.result c.all.ensures.ran
    (YieldsList-from_first attribute_shown attributes_left _ c.attributes.ensures)
    (λ x b q k. search (rules, tests))
