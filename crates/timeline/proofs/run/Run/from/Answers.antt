use Rattle.timeline.proofs.run.Run.from.Goals as goal
use Rattle.std.proofs.{Common.{◌≡◌, ◌-◌, ◌*◌, arith}, lemmas.Int.ints}
use Rattle.exact_time.specs.Tick.{time_of}
use Rattle.timeline.specs.RunSegments.{timed}
use Rattle.timeline.proofs.Repeats.{moved_to}

pub returns : goal.returns
returns c =
    let s = timed c.args.self in
    let k = c.args.place - s.before in
    let times : c.from.result * c.from-2.result ≡ k * s.step = cc (c.from.ensures, c.from-2.ensures) in
    moved_to s c.args.place k (time_of c.later.result) (time_of c.later-2.result) c.requires.is (omega arith) (omega arith) (omega arith)
    (omega (arith, ints)) c.later.ensures.scale (omega (arith, ints)) c.later-2.ensures.scale c.later.result.bounded
    c.later-2.result.bounded
