use Rattle.publish_core.proofs.limits.are_small.Goals as goal
use Rattle.std.proofs.{Common.{rules, tests}, lemmas.Iterator.YieldsList-from_slice, lemmas.Iterator.Search.all_from_yields_List}
use Rattle.publish_core.specs.Decisions.{is_small}

pub returns : goal.returns
returns c = all_from_yields_List is_small _ _ _ c.all.ensures.ran (YieldsList-from_slice c.args.items.now cc)
    (λ x b q k. search (rules, tests))
