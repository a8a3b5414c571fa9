use Rattle.std.proofs.Common.{sym}
use Rattle.timeline.specs.{Faults.ends_open, MediaTimelines.expansion_of_laid}
use Rattle.timeline.proofs.Reached.{laid_kept, timeline_built}
use Rattle.timeline.proofs.runs.Runs.from_shared.Goals as goal

pub paired-requires-clause-kept : goal.paired-requires-clause-kept
paired-requires-clause-kept c =
    let built = c.in_ok-builder.ensures in
    laid_kept c.args.timeline.now c.rest.ensures.laid c.args.scale c.in_ok-builder.builder.limits built.limits c.args.end
    c.in_ok-builder.builder built (sym c.if-has_no_time.ensures)

pub returns : goal.returns
returns c =
    let t = c.args.timeline.now in
    rw (timeline_built t.no_time (ends_open t.rest) (expansion_of_laid c.args.scale c.args.end t) c.args.end c.args.live c.args.scale
    c.args.names c.in_ok-builder.builder (sym c.if-has_no_time.ensures) (rw c.rest.ensures.rest at (sym c.if-lack_end.ensures))
    c.in_ok-builder.ensures)
    c.paired.ensures
