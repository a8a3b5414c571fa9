use Rattle.presentation.proofs.presentation.Presentation.check_end.Goals as goal
use Rattle.std.proofs.Common.{◌∙◌, ap, sym}
use Rattle.presentation.specs.{Counting.{range_by, unless_any}, Presented.looked_at}
use Rattle.presentation.proofs.Extents.{answered_at}

pub returns-in-Ok : goal.returns-in-Ok
returns-in-Ok c = let p = looked_at c.args.now c.args.self.now in let s = c.args.section in let t = c.args.track in
    let counted = answered_at p s t c.content.result.now c.content.ensures.content c.window_from-window.result
    (rw c.start_of.ensures at c.window_from-window.ensures) ∙ sym c.count.ensures ∙ c.in-Ok.is in
    sym (ap (λ r. unless_any (range_by p t s r) tt) counted)

pub returns-in-Err : goal.returns-in-Err
returns-in-Err c = let p = looked_at c.args.now c.args.self.now in let s = c.args.section in let t = c.args.track in
    let counted = answered_at p s t c.content.result.now c.content.ensures.content c.window_from-window.result
    (rw c.start_of.ensures at c.window_from-window.ensures) ∙ sym c.count.ensures ∙ c.in-Err.is in
    rw c.time_fault.ensures (sym (ap (λ r. unless_any (range_by p t s r) tt) counted))
