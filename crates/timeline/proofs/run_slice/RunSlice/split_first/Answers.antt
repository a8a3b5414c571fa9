use Rattle.timeline.proofs.run_slice.RunSlice.split_first.Goals as goal
use Rattle.std.proofs.Common.{arith}
use Rattle.timeline.specs.{RunSegments.timed, RunTables.slice_runs}
use Rattle.timeline.proofs.WalkLemmas.{first_rest}

pub returns : goal.returns
returns c = first_rest (slice_runs c.args.self.now) (timed c.get.result) (slice_runs c.skip.result)
    (omega arith) c.get.ensures c.skip.ensures
