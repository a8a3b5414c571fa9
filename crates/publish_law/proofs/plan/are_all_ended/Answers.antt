use Rattle.publish_law.proofs.plan.are_all_ended.Goals as goal
use Rattle.std.proofs.{Common.{rules, tests}, lemmas.Iterator.YieldsList-from_slice, lemmas.Iterator.Search.all_from_yields_List}
use Rattle.publish_law.specs.Plans.{is_served_ended}

pub returns : goal.returns
returns c = all_from_yields_List is_served_ended _ _ _ c.all.ensures.ran (YieldsList-from_slice c.args.tracks.now cc)
    (λ x b q k. search (rules, tests))
