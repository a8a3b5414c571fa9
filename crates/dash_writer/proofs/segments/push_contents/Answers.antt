use Rattle.dash_writer.proofs.segments.push_contents.Goals as goal
use Rattle.std.proofs.Common.{map}
use Rattle.bridge_io.proofs.Adding.{adds_same, adds_stop, adds_stop_at, adds_then}
use Rattle.dash_writer.specs.{Lists.timeline_with, Segments.{initialization, segment_url}}
use Rattle.dash_writer.proofs.Nodes.{three_parts}

pub returns-in_err-push_initialization : goal.returns-in_err-push_initialization
returns-in_err-push_initialization g c = let head = c.args.head.now in
    adds_same (three_parts (initialization head.initialization.now) (timeline_with c.args.joined head.first
    (g.D.Durations.durations c.args.durations.now)) (map segment_url (g.P.Files.parts c.args.files.now)))
    (adds_stop_at _ c.from_residual.result c.from_residual.ensures.1 (adds_stop {T = Unit {0}} _ c.in_err-push_initialization.ensures))

pub returns-in_err-push_timeline : goal.returns-in_err-push_timeline
returns-in_err-push_timeline g c = let head = c.args.head.now in
    adds_same (three_parts (initialization head.initialization.now) (timeline_with c.args.joined head.first
    (g.D.Durations.durations c.args.durations.now)) (map segment_url (g.P.Files.parts c.args.files.now)))
    (adds_stop_at _ c.from_residual-in_err-push_timeline.result c.from_residual-in_err-push_timeline.ensures.1
    (adds_then _ c.in_ok-push_initialization.ensures c.in_err-push_timeline.ensures))

pub returns : goal.returns
returns g c = let head = c.args.head.now in
    adds_same (three_parts (initialization head.initialization.now) (timeline_with c.args.joined head.first
    (g.D.Durations.durations c.args.durations.now)) (map segment_url (g.P.Files.parts c.args.files.now)))
    (adds_then _ (adds_then _ c.in_ok-push_initialization.ensures c.in_ok-push_timeline.ensures) c.push_urls.ensures)
