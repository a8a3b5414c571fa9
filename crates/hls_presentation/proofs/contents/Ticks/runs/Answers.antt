use Rattle.std.proofs.Common.{sym, ap, ◌∙◌}
use Rattle.hls_presentation.specs.Presenting.{extents_from, parts_of, ticks_by_second, timed}
use Rattle.hls_presentation.proofs.Told.{spans_told, times_told}
use Rattle.hls_presentation.proofs.contents.Ticks.runs.Goals as goal

pub returns-in-Ok : goal.returns-in-Ok
returns-in-Ok c =
    ap timed (sym (spans_told c.in_ok-spans.spans c.scale.result (parts_of c.args.group.now) (ticks_by_second c.args.self.nanos)
    (extents_from c.args.self.nanos 0 c.args.group.now)
    c.in_ok-spans.ensures c.scale.ensures.ticks c.scale.ensures.offset c.scale.ensures.first)
    ∙ rw (c.of_addresses-names.ensures, c.in_ok-parts_of.ensures) at c.in-Ok.ensures)

pub returns : goal.returns
returns c =
    let same = spans_told c.in_ok-spans.spans c.scale.result (parts_of c.args.group.now) (ticks_by_second c.args.self.nanos)
    (extents_from c.args.self.nanos 0 c.args.group.now)
    c.in_ok-spans.ensures c.scale.ensures.ticks c.scale.ensures.offset c.scale.ensures.first in
    rw c.fault_of_times.ensures (times_told c.in-Err.fault _ _ same
    (rw (c.of_addresses-names.ensures, c.in_ok-parts_of.ensures) at c.in-Err.ensures))
