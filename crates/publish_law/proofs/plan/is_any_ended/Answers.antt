use Rattle.publish_law.proofs.plan.is_any_ended.Goals as goal
use Rattle.std.proofs.{Common.{rules, tests}, lemmas.Iterator.YieldsList-from_slice, lemmas.Iterator.Search.any_from_yields_List}
use Rattle.publish_law.specs.Plans.{is_served_ended}

pub returns : goal.returns
returns c = any_from_yields_List is_served_ended _ _ _ c.any.ensures.ran (YieldsList-from_slice c.args.tracks.now cc)
    (λ x b q k. search (rules, tests))
