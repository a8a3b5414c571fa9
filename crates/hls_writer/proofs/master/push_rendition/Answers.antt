use Rattle.hls_writer.specs.Lines.{line_bytes}
use Rattle.hls_writer.proofs.master.push_rendition.Goals as goal

pub returns : goal.returns
unfolding line_bytes
returns g c = rw c.attributes.ensures at c.push_tag.ensures
