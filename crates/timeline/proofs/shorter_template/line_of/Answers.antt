use Rattle.timeline.proofs.MediaTemplates.{line_from}
use Rattle.timeline.proofs.shorter_template.line_of.Goals as goal

pub returns : goal.returns
returns c = line_from c.args.template.now c.in_ok-line.line c.in_ok-line.ensures
