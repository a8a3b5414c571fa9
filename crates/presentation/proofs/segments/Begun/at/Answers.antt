use Rattle.exact_time.specs.Tick.{time_of}
use Rattle.timeline.specs.Listed.{expansion}
use Rattle.presentation.proofs.GoingOn.{listed_later}
use Rattle.presentation.proofs.segments.Begun.at.Goals as goal

pub returns-in-Some-clause-from : goal.returns-in-Some-clause-from
returns-in-Some-clause-from c = let window = c.args.window.now in
    rw c.in-Some.is (listed_later (time_of c.in-Some.behind.former) window (expansion c.args.runs.now window) c.seek_end.result
    (c.seek_end.ensures window c.requires.window c.requires.reached))
