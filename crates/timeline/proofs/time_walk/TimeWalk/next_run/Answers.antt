use Rattle.timeline.proofs.WalkLemmas as runs
use Rattle.timeline.proofs.time_walk.TimeWalk.next_run.Goals as goal
use Rattle.std.proofs.Common.{refl, arith}
use Rattle.std.specs.Prelude.{option_map}
use Rattle.timeline.specs.{RunSegments.timed, RunTables.slice_runs}

pub returns-then-self-eq0-2 : goal.returns-then-self-eq0-2
returns-then-self-eq0-2 c =
    runs.last_run c.self.inside c.args.self.now c.self.view_is c.self.invariant c.in_ok-current.current c.in_ok-current.was
    (omega (arith, c.if-self-eq0.false)) c.min.result c.min.ensures _ _ c.if-self-eq0-2.true

pub returns : goal.returns
returns c =
    runs.next_run c.self.inside c.args.self.now c.self.view_is c.self.invariant c.in_ok-current.current c.in_ok-current.was
    (omega (arith, c.if-self-eq0.false)) c.min.result c.min.ensures
    (option_map timed c.go_on.new.now) (slice_runs c.go_on.new.later) (option_map timed c.go_on.new.tail)
    (omega (arith, c.if-self-eq0-2.false)) c.go_on.ensures

pub invariant_of-self-2 : goal.invariant_of-self-2
invariant_of-self-2 c =
    runs.kept_behind c.self.inside c.args.self.now c.self.view_is c.self.invariant c.in_ok-current.current c.in_ok-current.was
    _ refl (λ some. omega (arith, c.min.ensures)) c.go_on.ensures
