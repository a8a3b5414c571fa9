use Rattle.dash_writer.proofs.segments.push_initialization.Goals as goal

pub returns : goal.returns
returns g c = rw (c.as_str.ensures.text, c.range.ensures) at c.push_leaf.ensures
