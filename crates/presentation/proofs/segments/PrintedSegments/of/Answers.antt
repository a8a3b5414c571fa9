use Rattle.std.proofs.Common.{◌∙◌, ◌^◌, ap}
use Rattle.presentation.specs.Presented.{listed_in}
use Rattle.presentation.proofs.GoingOn.{paced_there, printed_there}
use Rattle.presentation.proofs.segments.PrintedSegments.of.Goals as goal

pub invariant_of-result : goal.invariant_of-result
invariant_of-result c =
    paced_there c.args.behind (10 ^ c.args.digits)
    (listed_in c.args.window.now c.args.runs.now) c.resume.result.left c.at-begun.result.rounder (c.resume.ensures.segments
    ∙ c.at-begun.ensures.from) c.at-begun.ensures.rounder
    c.resume.ensures.paced c.resume.ensures.limits c.requires.goes_on

pub returns : goal.returns
returns c = let runs = c.args.runs.now in
    rw c.resume.ensures.timeline (ap (λ left. record { timeline = runs; left = left })
    (printed_there c.args.behind (10 ^ c.args.digits) (listed_in c.args.window.now runs) c.resume.result.left c.at-begun.result.rounder
    (c.resume.ensures.segments ∙ c.at-begun.ensures.from) c.at-begun.ensures.rounder))
