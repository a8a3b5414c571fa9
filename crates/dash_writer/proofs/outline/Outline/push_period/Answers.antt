use Rattle.dash_writer.proofs.outline.Outline.push_period.Goals as goal
use Rattle.std.proofs.Common.{codes, sym, ◌∙◌}
use Rattle.dash_writer.specs.Outline.{sets_of}
use Rattle.dash_writer.proofs.{Nodes.{adds_node, stops_at_children, stops_at_start}, Sections.childless_sets}

pub returns-in_err-push_start : goal.returns-in_err-push_start
returns-in_err-push_start g c = let o = c.args.self.now in let k = c.args.place in let lists = g.T.TrackLists.lists o.lists.now k in
    stops_at_start (codes "Period") (g.P.Period.head k c.args.period.now) (sets_of lists o.tracks.now)
    (childless_sets lists o.tracks.now ∙ sym c.is_empty-childless.ensures)
    c.from_residual.result c.from_residual.ensures.1 (rw c.attributes-attributes.ensures at c.in_err-push_start.ensures)

pub returns-in_err-push_sets : goal.returns-in_err-push_sets
returns-in_err-push_sets g c = let o = c.args.self.now in let k = c.args.place in let lists = g.T.TrackLists.lists o.lists.now k in
    stops_at_children (codes "Period") (g.P.Period.head k c.args.period.now) (sets_of lists o.tracks.now)
    (childless_sets lists o.tracks.now ∙ sym c.is_empty-childless.ensures)
    (rw c.attributes-attributes.ensures at c.in_ok-push_start.ensures)
    c.from_residual-in_err-push_sets.result c.from_residual-in_err-push_sets.ensures.1 c.in_err-push_sets.ensures

pub returns : goal.returns
returns g c = let o = c.args.self.now in let k = c.args.place in let lists = g.T.TrackLists.lists o.lists.now k in
    adds_node (codes "Period") (g.P.Period.head k c.args.period.now) (sets_of lists o.tracks.now)
    (childless_sets lists o.tracks.now ∙ sym c.is_empty-childless.ensures)
    (rw c.attributes-attributes.ensures at c.in_ok-push_start.ensures)
    c.in_ok-push_sets.ensures c.push_end.ensures
