use Rattle.std.proofs.Common.{sym}
use Rattle.timeline.proofs.Counted.{list_kept}
use Rattle.timeline.proofs.runs.Runs.from_list.Goals as goal

pub paired-requires-clause-kept : goal.paired-requires-clause-kept
paired-requires-clause-kept c =
    list_kept c.args.scale.ticks c.as_slice-spans.result.now c.in_ok-builder.builder (sym c.if-have_no_time.ensures) c.in_ok-builder.ensures
