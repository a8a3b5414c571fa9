use Rattle.bridge_io.proofs.Adding.{adds_same, adds_stop, adds_stop_at, adds_then}
use Rattle.dash_writer.specs.Written.{value_text}
use Rattle.dash_writer.proofs.Nodes.{attribute_parts}
use Rattle.dash_writer.proofs.attribute.push_attribute.Goals as goal

pub returns-in_err-push_pieces : goal.returns-in_err-push_pieces
returns-in_err-push_pieces g c = rw c.in-Some.is (adds_same (attribute_parts c.args.attribute.now.0.now (value_text c.in-Some.value))
    (adds_stop_at _ c.from_residual.result c.from_residual.ensures.1
    (adds_stop {T = Unit {0}} _ (rw c.as_bytes.ensures.value at c.in_err-push_pieces.ensures))))

pub returns-in_err-push_to : goal.returns-in_err-push_to
returns-in_err-push_to g c = rw c.in-Some.is (adds_same (attribute_parts c.args.attribute.now.0.now (value_text c.in-Some.value))
    (adds_stop_at _ c.from_residual-in_err-push_to.result c.from_residual-in_err-push_to.ensures.1
    (adds_then _ (rw c.as_bytes.ensures.value at c.in_ok-push_pieces.ensures) c.in_err-push_to.ensures)))

pub returns : goal.returns
returns g c = rw c.in-Some.is (adds_same (attribute_parts c.args.attribute.now.0.now (value_text c.in-Some.value))
    (adds_then _ (adds_then _ (rw c.as_bytes.ensures.value at c.in_ok-push_pieces.ensures) c.in_ok-push_to.ensures)
    c.push_pieces-2.ensures))
