use Rattle.std.proofs.Common.{codes}
use Rattle.dash_writer.specs.Outline.{representation_attributes}
use Rattle.dash_writer.proofs.Nodes.{adds_node, stops_at_children, stops_at_start}
use Rattle.dash_writer.proofs.sets.push_track.Goals as goal

pub returns-in_err-push_start : goal.returns-in_err-push_start
returns-in_err-push_start g c = let lists = g.T.TrackLists.lists c.args.lists.now c.args.section c.args.place in
    stops_at_start (codes "Representation") (representation_attributes c.args.place c.args.track.now) lists
    c.requires.some c.from_residual.result c.from_residual.ensures.1
    (rw c.track_attributes-attributes.ensures at c.in_err-push_start.ensures)

pub returns-in_err-push_list : goal.returns-in_err-push_list
returns-in_err-push_list g c = let lists = g.T.TrackLists.lists c.args.lists.now c.args.section c.args.place in
    stops_at_children (codes "Representation") (representation_attributes c.args.place c.args.track.now) lists
    c.requires.some (rw c.track_attributes-attributes.ensures at c.in_ok-push_start.ensures)
    c.from_residual-in_err-push_list.result c.from_residual-in_err-push_list.ensures.1 c.in_err-push_list.ensures

pub returns : goal.returns
returns g c = let lists = g.T.TrackLists.lists c.args.lists.now c.args.section c.args.place in
    adds_node (codes "Representation") (representation_attributes c.args.place c.args.track.now) lists
    c.requires.some (rw c.track_attributes-attributes.ensures at c.in_ok-push_start.ensures) c.in_ok-push_list.ensures c.push_end.ensures
