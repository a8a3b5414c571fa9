use Rattle.dash_writer.proofs.outline.Outline.push_to.Goals as goal
use Rattle.std.proofs.Common.{codes, sym, ◌∙◌}
use Rattle.bridge_io.proofs.Adding.{adds_stop_at, adds_then}
use Rattle.dash_writer.specs.{Given.{outline_of, text_with}, Outline.period_elements}
use Rattle.dash_writer.proofs.{Nodes.{adds_node, stops_at_children, stops_at_start}, Sections.childless_periods}

pub returns-in_err-push_pieces : goal.returns-in_err-push_pieces
unfolding text_with
returns-in_err-push_pieces g c = adds_stop_at _ c.from_residual.result c.from_residual.ensures.1 c.in_err-push_pieces.ensures

pub returns-in_err-push_start : goal.returns-in_err-push_start
unfolding text_with
returns-in_err-push_start g c = let head = g.P.Period.head in let o = outline_of head g.T.TrackLists.lists c.args.self.now in
    adds_then _ c.in_ok-push_pieces.ensures (stops_at_start (codes "MPD") o.root (period_elements o 0 o.periods)
    (childless_periods o head 0 c.args.self.now.periods.now ∙ sym c.is_empty-childless.ensures)
    c.from_residual-in_err-push_start.result c.from_residual-in_err-push_start.ensures.1 c.in_err-push_start.ensures)

pub returns-in_err-push_periods : goal.returns-in_err-push_periods
unfolding text_with
returns-in_err-push_periods g c = let head = g.P.Period.head in let o = outline_of head g.T.TrackLists.lists c.args.self.now in
    adds_then _ c.in_ok-push_pieces.ensures (stops_at_children (codes "MPD") o.root (period_elements o 0 o.periods)
    (childless_periods o head 0 c.args.self.now.periods.now ∙ sym c.is_empty-childless.ensures) c.in_ok-push_start.ensures
    c.from_residual-in_err-push_periods.result c.from_residual-in_err-push_periods.ensures.1 c.in_err-push_periods.ensures)

pub returns : goal.returns
unfolding text_with
returns g c = let head = g.P.Period.head in let o = outline_of head g.T.TrackLists.lists c.args.self.now in
    adds_then _ c.in_ok-push_pieces.ensures (adds_node (codes "MPD") o.root (period_elements o 0 o.periods)
    (childless_periods o head 0 c.args.self.now.periods.now ∙ sym c.is_empty-childless.ensures) c.in_ok-push_start.ensures
    c.in_ok-push_periods.ensures c.push_end.ensures)
