use Rattle.publish_law.proofs.track.first_long.Goals as goal
use Rattle.std.proofs.Common.{◌^◌, rules, tests}
use Rattle.std.proofs.lemmas.{Iterator.YieldsList-from_slice, Iterator.Search.position_from_yields_List}
use Rattle.publish_law.specs.Lists.{is_long}

pub returns-clause-place : goal.returns-clause-place
returns-clause-place c = position_from_yields_List (is_long c.args.target (10 ^ c.args.digits)) _ _ _ c.position.ensures.ran
    (YieldsList-from_slice c.args.items.now cc) (λ x b q k. search (rules, tests))
