use Rattle.live_session.proofs.maker.date_of.Goals as goal
use Rattle.std.proofs.{Common.arith, lemmas.Int.ints}
use Rattle.exact_time.specs.Tick.{time_of}
use Rattle.live_session.proofs.Paced.{least_nanos, most_nanos}

pub invariant_of-result : goal.invariant_of-result
invariant_of-result c =
    let low = least_nanos (time_of c.args.start) c.requires.near in let high = most_nanos (time_of c.args.start) c.requires.near in
    (omega (arith, ints), omega (arith, ints))

pub returns-clause-date : goal.returns-clause-date
returns-clause-date c =
    let low = least_nanos (time_of c.args.start) c.requires.near in let high = most_nanos (time_of c.args.start) c.requires.near in
    omega (arith, ints)

pub returns-clause-writable : goal.returns-clause-writable
returns-clause-writable c =
    let low = least_nanos (time_of c.args.start) c.requires.near in let high = most_nanos (time_of c.args.start) c.requires.near in
    (omega (arith, ints), omega (arith, ints))
