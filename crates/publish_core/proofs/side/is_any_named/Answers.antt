use Rattle.publish_core.proofs.side.is_any_named.Goals as goal
use Rattle.std.proofs.{Common.{rules, tests}, lemmas.Iterator.YieldsList-from_slice, lemmas.Iterator.Search.any_from_yields_List}
use Rattle.publish_core.specs.Sides.{is_named}

pub returns : goal.returns
returns c = any_from_yields_List (is_named c.args.name.now) _ _ _ c.any.ensures.ran (YieldsList-from_slice c.args.names.now cc)
    (λ x b q k. search (rules, tests))
