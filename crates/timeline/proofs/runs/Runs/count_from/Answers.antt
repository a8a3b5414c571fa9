use Rattle.timeline.proofs.RunsLemmas.{count_from_is}
use Rattle.timeline.proofs.runs.Runs.count_from.Goals as goal

pub returns : goal.returns
returns c =
    count_from_is c.self.invariant c.self.view_is c.args.window.now c.requires.window c.requires.reached c.low.result c.low.ensures
    c.args.from.now c.max-begin.result c.saturating_sub.result (cc (c.max-begin.ensures, c.place.ensures, c.place-2.ensures))
    (cc (c.saturating_sub.ensures, c.finish.ensures))
