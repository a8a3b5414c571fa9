use Rattle.url_parts.proofs.InLine.{in_line_step}
use Rattle.url_parts.proofs.alike.in_line.Goals as goal

pub loop-byte-preserved : goal.loop-byte-preserved
loop-byte-preserved c = in_line_step _ _ _ c.loop-byte.byte-index c.loop-byte-test.true c.loop-byte.invariant c.in_ok-keep.ensures
