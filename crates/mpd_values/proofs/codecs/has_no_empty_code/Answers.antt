use Rattle.mpd_values.proofs.codecs.has_no_empty_code.Goals as goal
use Rattle.std.proofs.{Common.{◌∙◌, ◌==◌, rules, tests, lit<, sym}, lemmas.Iterator.Splits.YieldsList-from_str_split}
use Rattle.std.proofs.{lemmas.Iterator.Search.all_from_yields_List, lemmas.List.Folds.list_all-map}
use Rattle.std.specs.List.{slice_split}
use Rattle.mpd_values.specs.{declared.blank.Blank.TheVariants.Space, Blanks.trimmed, Codecs.{codes_of, is_code}}

pub returns : goal.returns
unfolding codes_of
returns c =
    all_from_yields_List (λ code. is_code (trimmed Space code)) _ _ _ c.all.ensures.ran
    (YieldsList-from_str_split 44 c.args.text.now (lit< tt) c.split.ensures.text c.split.ensures.has_more c.split.ensures.pattern)
    (λ x b q k. search (rules, tests))
    ∙ sym (list_all-map is_code (trimmed Space) (slice_split (λ b. b == 44) c.args.text.now))
