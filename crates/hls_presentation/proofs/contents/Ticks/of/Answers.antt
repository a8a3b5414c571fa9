use Rattle.hls_presentation.proofs.contents.Ticks.of.Goals as goal
use Rattle.std.proofs.{Common.{cond, ap, sym, ◌∙◌}, lemmas.List.Folds.list_all-map}
use Rattle.hls_presentation.specs.{Presenting.are_micros, Views.source_of}

pub returns-then-are_all_micros : goal.returns-then-are_all_micros
returns-then-are_all_micros c = ap (λ b. cond b 1000 1) (sym (list_all-map are_micros source_of c.args.tracks.now
    ∙ sym c.are_all_micros.ensures ∙ c.if-are_all_micros.true))

pub returns : goal.returns
returns c = ap (λ b. cond b 1000 1) (sym (list_all-map are_micros source_of c.args.tracks.now ∙ sym c.are_all_micros.ensures
    ∙ c.if-are_all_micros.false))
