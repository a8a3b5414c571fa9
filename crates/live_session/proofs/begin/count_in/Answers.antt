use Rattle.std.proofs.Common.{◌∙◌, ap, length}
use Rattle.live_session.proofs.Making.{counted_there, listed_there}
use Rattle.live_session.proofs.begin.count_in.Goals as goal

pub returns : goal.returns
returns c = let p = c.args.opened.now in let s = c.args.section in let t = c.args.track in
    c.unwrap_or.ensures
    ∙ counted_there p s t _ _ c.runs.ensures.content c.window-window.ensures _ c.requires.counted c.count.ensures
    ∙ ap (λ xs. length xs) (listed_there p s t _ _ c.runs.ensures.content c.window-window.ensures)
