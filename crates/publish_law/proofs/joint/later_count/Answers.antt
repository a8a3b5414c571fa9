use Rattle.publish_law.proofs.joint.later_count.Goals as goal
use Rattle.std.proofs.{Common.{◌∙◌, rules, tests, reverse}, lemmas.Iterator.Adapters.YieldsList-from_rev_slice}
use Rattle.std.proofs.{lemmas.Iterator.Consumers.count_from_yields_List, lemmas.Iterator.Search.YieldsList-from_take_while}
use Rattle.std.proofs.lemmas.List.Folds.{length-prefix_len}
use Rattle.publish_law.specs.Joints.{is_later}

pub returns : goal.returns
returns c =
    count_from_yields_List c.take_while.result _ c.count.ensures.ran
    (YieldsList-from_take_while _ (is_later c.args.date)
    (YieldsList-from_rev_slice c.args.new.now cc) c.take_while.ensures.closure c.take_while.ensures.done
    (λ x b q k. search (rules, tests)))
    ∙ length-prefix_len (is_later c.args.date) (reverse c.args.new.now)
