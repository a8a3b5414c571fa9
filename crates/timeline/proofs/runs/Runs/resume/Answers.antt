use Rattle.timeline.proofs.RunsLemmas.{within_is}
use Rattle.timeline.proofs.runs.Runs.resume.Goals as goal

pub over-requires : goal.over-requires
over-requires c = rw c.walk.ensures.listed
    (within_is c.self.invariant c.self.view_is c.args.window.now c.requires.window c.requires.reached c.args.from.now)
