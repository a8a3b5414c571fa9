use Rattle.bridge_io.proofs.Adding.{adds_then, adds_stop_at}
use Rattle.hls_writer.proofs.attribute.push_one_further.Goals as goal

pub returns-in_err-push_pieces : goal.returns-in_err-push_pieces
returns-in_err-push_pieces g c = adds_stop_at _ c.from_residual.result c.from_residual.ensures.1 c.in_err-push_pieces.ensures

pub returns : goal.returns
returns g c = adds_then _ c.in_ok-push_pieces.ensures c.push_to.ensures
