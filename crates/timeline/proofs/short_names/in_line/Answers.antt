use Rattle.timeline.proofs.short_names.in_line.Goals as goal

pub returns : goal.returns
returns c = c.in_ok-line.ensures.whole
