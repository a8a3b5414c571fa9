use Rattle.segment_forms.proofs.steps.started.Goals as goal
use Rattle.segment_forms.proofs.StepLemmas.{starts}

pub returns-clause-progress : goal.returns-clause-progress
returns-clause-progress c = rw (c.followed.ensures.value, c.from.ensures) (starts c.args.first.now c.in-Some.place
    (rw c.as_bytes.ensures.value at c.in-Some.ensures.digit) c.args.second.now
    (rw (c.as_bytes.ensures.value, c.as_bytes-2.ensures.value) at c.in-Some.ensures.value)
    c.in-Some-pattern_at.pattern c.in-Some-pattern_at.ensures.value)
