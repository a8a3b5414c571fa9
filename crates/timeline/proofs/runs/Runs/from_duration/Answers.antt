use Rattle.std.proofs.Common.{arith}
use Rattle.timeline.proofs.Counted.{duration_kept}
use Rattle.timeline.proofs.runs.Runs.from_duration.Goals as goal

pub of-requires-clause-kept : goal.of-requires-clause-kept
of-requires-clause-kept c =
    duration_kept c.args.scale.ticks c.args.duration c.args.end c.len-2.result c.in_ok-builder.builder c.args.scale.positive
    (omega (arith, c.if-duration-eq0.false)) c.in_ok-builder.ensures
