use Rattle.hls_follow.proofs.timed_round.times_of.Goals as goal
use Rattle.hls_follow.proofs.Placing.{times_end, times_next}

pub loop-row-preserved : goal.loop-row-preserved
loop-row-preserved c =
    let l = c.loop-row in
    let parts = c.in-Some.ensures.cases in
    rw (c.in_ok-extend.ensures.ok, c.as_slice.ensures)
    (times_next c.args.count c.args.place l.rest.now c.in-Some.row.now c.in-Some.later.now l.own c.index-row-place.result c.requires parts.1
    parts.2 parts.0 c.index-row-place.is _ l.invariant)

pub returns : goal.returns
returns c = times_end c.args.count c.args.place c.loop-row.rest.now c.loop-row.own _ c.in_default.ensures.cases c.loop-row.invariant
