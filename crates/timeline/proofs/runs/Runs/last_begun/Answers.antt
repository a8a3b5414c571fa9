use Rattle.timeline.proofs.runs.Runs.last_begun.Goals as goal
use Rattle.std.proofs.Common.{◌≡◌, suc, ◌-◌, arith}
use Rattle.timeline.specs.{Bounds.time_of_bound, RunSegments.timed}
use Rattle.timeline.proofs.RunsLemmas.{last_kept, none_kept, sorted_by}

pub count_front-begun-requires : goal.count_front-begun-requires
count_front-begun-requires c = rw c.as_slice-runs.ensures (sorted_by c.args.bound c.self.inside c.self.invariant)

pub returns-then-begun-eq0 : goal.returns-then-begun-eq0
returns-then-begun-eq0 c =
    let none : c.count_front-begun.result ≡ 0 = omega arith in
    let point = rw (c.as_slice-runs.ensures, none) at c.count_front-begun.ensures.point in
    rw (← c.self.view_is) (none_kept (time_of_bound c.args.bound) c.self.inside c.self.invariant point)

pub returns : goal.returns
returns c =
    let last = c.count_front-begun.result - 1 in
    let more : c.count_front-begun.result ≡ suc last = omega arith in
    let point = rw (c.as_slice-runs.ensures, more) at c.count_front-begun.ensures.point in
    let within = rw c.as_slice-runs.ensures at c.count_front-begun.ensures.within in
    let found = timed c.get.result in
    rw (← c.self.view_is)
    (last_kept (time_of_bound c.args.bound) c.self.inside last found c.self.invariant (omega arith) point
    (rw c.as_slice-runs.ensures at (c.get.ensures found)))
