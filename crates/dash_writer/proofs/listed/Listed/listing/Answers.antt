use Rattle.dash_writer.proofs.listed.Listed.listing.Goals as goal
use Rattle.std.proofs.Common.{◌∙◌}
use Rattle.timeline.specs.Listed.{expansion}
use Rattle.presentation.proofs.{OwnListed.reached, Printing.all_listed}

pub seek-requires-clause-reached : goal.seek-requires-clause-reached
seek-requires-clause-reached c = reached c.args.self.now.runs.now c.args.self.now.window c.requires.ended

pub resume-requires-clause-reached : goal.resume-requires-clause-reached
resume-requires-clause-reached c = reached c.args.self.now.runs.now c.args.self.now.window c.requires.ended

pub returns-clause-left : goal.returns-clause-left
returns-clause-left c = let runs = c.args.self.now.runs.now in let window = c.args.self.now.window in
    c.resume.ensures.segments ∙ all_listed window (expansion runs window) c.seek.result c.seek.ensures.first.none_before
