use Rattle.timeline.proofs.run.Run.behind_first.Goals as goal
use Rattle.std.proofs.{Common.arith, lemmas.Int.ints}
use Rattle.exact_time.specs.Tick.{time_of}
use Rattle.timeline.specs.RunSegments.{timed}
use Rattle.timeline.proofs.Repeats.{moved_to}

pub returns : goal.returns
returns c =
    let s = timed c.args.self in
    moved_to s _ 1 s.end (time_of c.later.result) c.requires (omega arith) (omega arith) (omega arith)
    (omega (arith, ints, c.requires.in_ticks (omega arith))) (omega (arith, c.requires.one_scale (omega arith)))
    (omega (arith, ints)) c.later.ensures.scale c.args.self.end.bounded c.later.result.bounded
