use Rattle.dash_writer.proofs.element.push_opening.Goals as goal
use Rattle.bridge_io.proofs.Adding.{adds_same, adds_stop_at, adds_then}
use Rattle.dash_writer.specs.{Elements.attributes_of, Written.{all_told, attributes_text}}
use Rattle.dash_writer.proofs.Nodes.{opening_parts}

pub returns-in_err-push_pieces : goal.returns-in_err-push_pieces
returns-in_err-push_pieces g c = adds_same
    (opening_parts c.args.name.now (attributes_text (attributes_of (all_told c.args.attributes.now))))
    (adds_stop_at _ c.from_residual.result c.from_residual.ensures.1 (rw c.as_bytes.ensures.value at c.in_err-push_pieces.ensures))

pub returns : goal.returns
returns g c = adds_same (opening_parts c.args.name.now (attributes_text (attributes_of (all_told c.args.attributes.now))))
    (adds_then _ (rw c.as_bytes.ensures.value at c.in_ok-push_pieces.ensures) c.push_attributes.ensures)
