use Rattle.publish_core.proofs.names.lies_in_no_folder.Goals as goal
use Rattle.std.proofs.{Common.{rules, tests}, lemmas.Iterator.YieldsList-from_slice, lemmas.Iterator.Search.all_from_yields_List}
use Rattle.publish_core.specs.Names.{is_no_slash}

pub returns : goal.returns
returns c = all_from_yields_List is_no_slash _ _ _ c.all.ensures.ran (YieldsList-from_slice c.args.file.now cc)
    (λ x b q k. search (rules, tests))
