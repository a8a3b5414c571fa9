use Rattle.hls_master.proofs.codes.chosen_codes.Goals as goal
use Rattle.std.proofs.{Common.{◌∙◌, map, filter, lit<, ap}, lemmas.Iterator.Splits.YieldsList-from_str_split}
use Rattle.std.proofs.lemmas.Iterator.Consumers.{YieldsList-end}
use Rattle.mpd_values.specs.{Blanks.trimmed, Codecs.codes_of, declared.blank.Blank.TheVariants.Space}
use Rattle.hls_master.specs.Codes.{is_of}

pub returns : goal.returns
unfolding codes_of
returns c =
    let split = c.split-code-items.ensures in
    let end = YieldsList-end (YieldsList-from_str_split 44 c.args.codes.now (lit< tt) split.text split.has_more split.pattern)
    c.loop-code.yielded _ (rw c.into_iter-code-iterator.ensures.into_iter_gives at c.loop-code.yielded_by) _ _ c.in-None.is
    c.next.ensures.steps in
    c.loop-code.invariant ∙ ap (λ parts. filter (is_of c.args.kind) (map (trimmed Space) parts)) end.0
