use Rattle.presentation.proofs.presentation.Presentation.times_behind.Goals as goal
use Rattle.std.proofs.Common.{IfSome, subst}
use Rattle.presentation.specs.{Presented.looked_at, Printing.GoesOn}
use Rattle.presentation.proofs.Extents.{listed_there}

pub of-requires-clause-goes_on : goal.of-requires-clause-goes_on
of-requires-clause-goes_on c = let p = looked_at c.args.now c.args.self.now in
    subst (λ xs. IfSome c.args.behind (GoesOn xs))
    (listed_there p c.args.section c.args.track c.content.result.now c.content.ensures.content c.window_from-window.result
    (rw c.start_of.ensures at c.window_from-window.ensures)) c.requires.goes_on
