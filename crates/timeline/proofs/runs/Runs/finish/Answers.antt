use Rattle.std.proofs.Common.{◌∙◌}
use Rattle.timeline.proofs.RunsLemmas.{finish_none, finish_some}
use Rattle.timeline.proofs.runs.Runs.finish.Goals as goal

pub returns-in-Some : goal.returns-in-Some
returns-in-Some c = c.place.ensures ∙ finish_some c.self.invariant c.self.view_is c.args.window.now c.requires.window
    c.requires.reached c.in-Some.high c.in-Some.ensures

pub returns-in-None : goal.returns-in-None
returns-in-None c =
    finish_none c.self.invariant c.self.view_is c.args.window.now c.requires.window c.requires.reached c.in-None.ensures
