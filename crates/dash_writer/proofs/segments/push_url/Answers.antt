use Rattle.dash_writer.proofs.segments.push_url.Goals as goal

pub returns : goal.returns
returns g c = rw c.range.ensures at c.push_leaf.ensures
