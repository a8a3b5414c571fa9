use Rattle.std.proofs.Common.{◌∙◌, ◌^◌}
use Rattle.presentation.specs.Presented.{listed_in}
use Rattle.presentation.proofs.GoingOn.{paced_there, printed_there}
use Rattle.presentation.proofs.segments.PrintedTimes.of.Goals as goal

pub invariant_of-result : goal.invariant_of-result
invariant_of-result c =
    paced_there c.args.behind (10 ^ c.args.digits) (listed_in c.args.window.now c.args.runs.now) c.walk.result c.at-begun.result.rounder
    (c.walk.ensures.listed ∙ c.at-begun.ensures.from) c.at-begun.ensures.rounder
    c.walk.ensures.paced c.walk.ensures.limits c.requires.goes_on

pub returns : goal.returns
returns c =
    printed_there c.args.behind (10 ^ c.args.digits) (listed_in c.args.window.now c.args.runs.now) c.walk.result c.at-begun.result.rounder
    (c.walk.ensures.listed ∙ c.at-begun.ensures.from) c.at-begun.ensures.rounder
