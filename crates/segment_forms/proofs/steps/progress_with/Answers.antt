use Rattle.segment_forms.proofs.steps.progress_with.Goals as goal
use Rattle.segment_forms.proofs.StepLemmas.{follows_on, stays_lost}
use Rattle.std.proofs.Common.{string_bytes}

pub followed-requires : goal.followed-requires
followed-requires c = rw c.as_str-in-Followed.ensures.value (c.requires c.in-Followed.pattern c.in-Followed.next c.in-Followed.is)

pub returns-in-One-clause-placed : goal.returns-in-One-clause-placed
returns-in-One-clause-placed c = rw (← c.as_str.ensures.value) c.started.ensures.placed

pub returns-in-Followed-clause-progress : goal.returns-in-Followed-clause-progress
returns-in-Followed-clause-progress c = λ xs seen.
    rw (c.followed.ensures.value, c.as_str-in-Followed.ensures.value) (follows_on (string_bytes c.args.first.now) c.args.address.now xs
    c.in-Followed.pattern c.in-Followed.next (rw c.in-Followed.is at seen))

pub returns-in-Followed-clause-placed : goal.returns-in-Followed-clause-placed
returns-in-Followed-clause-placed c = rw (← c.as_str-in-Followed.ensures.value) c.followed.ensures.placed

pub returns-in-Lost-clause-progress : goal.returns-in-Lost-clause-progress
returns-in-Lost-clause-progress c = λ xs seen.
    stays_lost (string_bytes c.args.first.now) c.args.address.now xs (rw c.in-Lost.is at seen)
