use Rattle.std.proofs.Common.{codes, refl}
use Rattle.dash_writer.specs.Lists.{contents_with, head_attributes}
use Rattle.dash_writer.proofs.Nodes.{adds_node, stops_at_children, stops_at_start}
use Rattle.dash_writer.proofs.segments.push_segment_list.Goals as goal

pub returns-in_err-push_start : goal.returns-in_err-push_start
returns-in_err-push_start g c = let head = c.args.head.now in
    let children = contents_with c.args.joined head.first head.initialization.now (g.D.Durations.durations c.args.durations.now)
    (g.P.Files.parts c.args.files.now) in
    stops_at_start (codes "SegmentList") (head_attributes head.ticks head.offset) children refl
    c.from_residual.result c.from_residual.ensures.1 (rw c.list_attributes.ensures at c.in_err-push_start.ensures)

pub returns-in_err-push_contents : goal.returns-in_err-push_contents
returns-in_err-push_contents g c = let head = c.args.head.now in
    let children = contents_with c.args.joined head.first head.initialization.now (g.D.Durations.durations c.args.durations.now)
    (g.P.Files.parts c.args.files.now) in
    stops_at_children (codes "SegmentList") (head_attributes head.ticks head.offset) children refl
    (rw c.list_attributes.ensures at c.in_ok-push_start.ensures)
    c.from_residual-in_err-push_contents.result c.from_residual-in_err-push_contents.ensures.1 c.in_err-push_contents.ensures

pub returns : goal.returns
returns g c = let head = c.args.head.now in
    let children = contents_with c.args.joined head.first head.initialization.now (g.D.Durations.durations c.args.durations.now)
    (g.P.Files.parts c.args.files.now) in
    adds_node (codes "SegmentList") (head_attributes head.ticks head.offset) children refl
    (rw c.list_attributes.ensures at c.in_ok-push_start.ensures)
    c.in_ok-push_contents.ensures c.push_end.ensures
