use Rattle.std.proofs.Common.{ap, ◌∙◌}
use Rattle.std.specs.Result.{result_unwrap_or}
use Rattle.comparison.proofs.Walks.{counted_at}
use Rattle.differences.proofs.side.listed.Goals as goal

pub returns : goal.returns
returns c = let p = c.args.presentation.now in let s = c.args.section in let t = c.args.track in
    let counted = rw c.window-window.ensures at c.count.ensures in
    c.unwrap_or.ensures ∙ ap (λ r. result_unwrap_or r 0) counted
    ∙ counted_at p s t c.runs.result.now c.runs.ensures.content
    c.requires.counted
