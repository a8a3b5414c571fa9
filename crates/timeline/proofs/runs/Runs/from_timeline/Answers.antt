use Rattle.timeline.proofs.Reached.{laid_means}
use Rattle.timeline.proofs.runs.Runs.from_timeline.Goals as goal

pub returns : goal.returns
returns c =
    rw (
      laid_means c.as_slice.result.now c.in_ok-timeline.timeline c.in_ok-timeline.ensures c.args.end c.args.live c.args.scale c.args.names,
      c.as_slice.ensures,
    ) at c.from_shared.ensures
