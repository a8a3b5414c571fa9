use Rattle.iso_time.proofs.digits.run_len.Goals as goal
use Rattle.std.proofs.{Common.{◌∙◌, rules, tests}, lemmas.Iterator.YieldsList-from_slice, lemmas.Iterator.Consumers.count_from_yields_List}
use Rattle.std.proofs.{lemmas.Iterator.Search.YieldsList-from_take_while, lemmas.List.Folds.length-prefix_len}
use Rattle.std.specs.Char.{is_ascii_digit}
use Rattle.iso_time.proofs.DigitLemmas.{ascii_front}

pub returns-clause-len : goal.returns-clause-len
returns-clause-len c =
    count_from_yields_List c.take_while.result _ c.count.ensures.ran
    (YieldsList-from_take_while _ is_ascii_digit (YieldsList-from_slice c.args.text.now cc) c.take_while.ensures.closure
    c.take_while.ensures.done (λ x b q k. search (rules, tests)))
    ∙ length-prefix_len is_ascii_digit c.args.text.now

pub returns-clause-ascii : goal.returns-clause-ascii
returns-clause-ascii c = rw (returns-clause-len c) (ascii_front c.args.text.now)
