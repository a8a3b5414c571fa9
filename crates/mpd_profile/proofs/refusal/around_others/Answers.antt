use Rattle.mpd_profile.proofs.refusal.around_others.Goals as goal
use Rattle.std.proofs.Common.{◌∙◌, sym}
use Rattle.mpd_tree.specs.Nodes.{element_of}
use Rattle.mpd_profile.proofs.Passing.{none_around, some_around}

pub returns-in-Some : goal.returns-in-Some
returns-in-Some c = some_around c.args.listed (element_of c.args.node).children _ _ (sym c.children.ensures ∙ c.in-Some.ensures.steps)

pub returns-in-None : goal.returns-in-None
returns-in-None c = none_around c.args.listed (element_of c.args.node).children (sym c.children.ensures ∙ c.in-None.ensures.steps.0)
