use Rattle.dash_writer.proofs.times.push_timeline.Goals as goal
use Rattle.std.proofs.Common.{ap, sym}
use Rattle.bridge_io.proofs.Adding.{adds_same}
use Rattle.dash_writer.specs.{Lists.timeline_with, Written.element_text}

pub returns-in-None : goal.returns-in-None
returns-in-None g c = adds_same (ap (λ durations. element_text (timeline_with c.args.joined c.args.time durations))
    (sym c.in-None.ensures)) c.push_leaf.ensures

pub returns-in-Some : goal.returns-in-Some
returns-in-Some g c = adds_same (ap (λ durations. element_text (timeline_with c.args.joined c.args.time durations)) (sym c.in-Some.ensures))
    (rw c.of.ensures at c.push_runs.ensures)
