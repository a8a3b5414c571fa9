use Rattle.hls_follow.proofs.snapshot.Snapshot.track_run.Goals as goal
use Rattle.hls_follow.specs.{OwnTimes.snapshot_of, Stretches.stretch_of, Ticks.clock_with}
use Rattle.hls_follow.proofs.Spotted.{bounded_stretch, run_refused, run_told, told_spot}

pub last_ticks-last-requires : goal.last_ticks-last-requires
last_ticks-last-requires c =
    bounded_stretch (snapshot_of c.args.self.now) c.args.at c.index-self-at.result (stretch_of c.at.result) c.requires.at.track
    c.index-self-at.is c.at.ensures c.requires.bounded

pub told_of-requires-clause-spot : goal.told_of-requires-clause-spot
told_of-requires-clause-spot c =
    told_spot (snapshot_of c.args.self.now) c.args.at (clock_with c.args.times.now.scale c.args.offset) c.last_ticks-last.result
    c.as_slice.result.now c.in-Err.fault c.in-Err.ensures.ticks c.requires.at

pub returns-in-Ok-clause-run : goal.returns-in-Ok-clause-run
returns-in-Ok-clause-run c =
    rw c.first.ensures (run_told (snapshot_of c.args.self.now) c.args.at c.index-self-at.result (stretch_of c.at.result)
    c.requires.at.track c.index-self-at.is c.at.ensures c.args.offset c.args.times.now c.last_ticks-last.result c.as_slice.result.now
    (rw c.is_out_of_order.ensures at c.if-is_out_of_order.false) c.last_ticks-last.ensures c.as_slice.ensures c.in-Ok.durations
    c.in-Ok.ensures.ticks)

pub returns-in-Err-clause-run : goal.returns-in-Err-clause-run
returns-in-Err-clause-run c =
    run_refused (snapshot_of c.args.self.now) c.args.at c.index-self-at.result (stretch_of c.at.result) c.requires.at.track
    c.index-self-at.is c.at.ensures c.args.offset c.args.times.now c.last_ticks-last.result c.as_slice.result.now
    (rw c.is_out_of_order.ensures at c.if-is_out_of_order.false) c.last_ticks-last.ensures c.as_slice.ensures c.told_of.result
    c.in-Err.fault c.told_of.ensures.told c.in-Err.ensures.ticks
