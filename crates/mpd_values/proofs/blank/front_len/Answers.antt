use Rattle.mpd_values.proofs.blank.front_len.Goals as goal
use Rattle.std.proofs.{Common.{◌∙◌, rules, tests}, lemmas.Iterator.YieldsList-from_slice, lemmas.Iterator.Consumers.count_from_yields_List}
use Rattle.std.proofs.{lemmas.Iterator.Search.YieldsList-from_take_while, lemmas.List.Folds.length-prefix_len}
use Rattle.mpd_values.specs.Blanks.{is_blank}

pub returns : goal.returns
returns c =
    count_from_yields_List c.take_while.result _ c.count.ensures.ran
    (YieldsList-from_take_while _ (is_blank c.args.blank)
    (YieldsList-from_slice c.args.text.now cc) c.take_while.ensures.closure c.take_while.ensures.done
    (λ x b q k. search (rules, tests)))
    ∙ length-prefix_len (is_blank c.args.blank) c.args.text.now
