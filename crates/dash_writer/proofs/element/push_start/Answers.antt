use Rattle.dash_writer.proofs.element.push_start.Goals as goal
use Rattle.std.proofs.{Common.◌∙◌, lemmas.List.append-nil}
use Rattle.bridge_io.proofs.Adding.{adds_same, adds_stop_at, adds_then}

pub returns-in_err-push_opening : goal.returns-in_err-push_opening
returns-in_err-push_opening g c = adds_stop_at _ c.from_residual.result c.from_residual.ensures.1 c.in_err-push_opening.ensures

pub returns : goal.returns
returns g c = adds_then _ c.in_ok-push_opening.ensures (adds_same (append-nil c.tag_end.result.now
    ∙ c.tag_end.ensures) c.push_pieces.ensures)
