use Rattle.std.proofs.Common.{◌∙◌, ◌^◌, ap}
use Rattle.exact_time.specs.Rounding.{rounding_from}
use Rattle.timeline.specs.Listed.{expansion, listed_from}
use Rattle.presentation.specs.Printing as spec
use Rattle.presentation.proofs.Printing.{all_listed}
use Rattle.presentation.proofs.segments.Begun.new.Goals as goal

pub returns-clause-from : goal.returns-clause-from
returns-clause-from c = let window = c.args.window.now in all_listed window
    (expansion c.args.runs.now window) c.seek-cursor.result c.seek-cursor.ensures.first.none_before

pub returns-clause-rounder : goal.returns-clause-rounder
returns-clause-rounder c = let runs = c.args.runs.now in let window = c.args.window.now in
    c.new.ensures ∙ ap (λ begin. rounding_from begin c.unit.result) c.first_start-begin.ensures
    ∙ ap (rounding_from (spec.begin_of (listed_from c.seek-cursor.result runs window))) c.unit.ensures.value
    ∙ ap (λ xs. rounding_from (spec.begin_of xs) (10 ^ c.args.digits))
    (all_listed window (expansion runs window) c.seek-cursor.result c.seek-cursor.ensures.first.none_before)
