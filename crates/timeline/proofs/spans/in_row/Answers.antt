use Rattle.timeline.proofs.spans.in_row.Goals as goal
use Rattle.timeline.proofs.{Laid.from_fault, Counted.{span_fault, span_more}}

pub returns-in_err-judge : goal.returns-in_err-judge
returns-in_err-judge c = from_fault c.from_residual.result c.in_err-judge.field-0.0 _ _ c.from_residual.ensures
    (span_fault c.args.ticks c.args.spans.now c.loop-span.builder c.loop-span.former c.loop-span.rest.now c.in-Some.span.now
    c.in-Some.later.now c.in_err-judge.field-0.0 c.loop-span.invariant c.in-Some.ensures.cases.0 c.in_err-judge.ensures)

pub loop-span-preserved : goal.loop-span-preserved
loop-span-preserved c =
    span_more c.args.ticks c.args.spans.now c.loop-span.builder c.loop-span.former c.loop-span.rest.now c.in-Some.span.now
    c.in-Some.later.now c.add_one.new.self c.loop-span.invariant c.in-Some.ensures.cases.0 c.in_ok-judge.ensures
    c.in_ok-add_one.ensures.ok c.in_ok-add_one.ensures.total c.in_ok-add_one.ensures.limits c.in_ok-add_one.ensures.closed
    c.in_ok-add_one.ensures.laid
