use Rattle.timeline.proofs.time_walk.TimeWalk.advance.Goals as goal
use Rattle.std.proofs.Common.{refl, arith}
use Rattle.std.specs.Prelude.{option_map}
use Rattle.timeline.specs.{RunSegments.timed, RunTables.slice_runs}
use Rattle.timeline.proofs.WalkLemmas.{goes_on_in, goes_on_behind, kept_behind}

pub returns-in-Some-behind_first : goal.returns-in-Some-behind_first
returns-in-Some-behind_first c =
    goes_on_in c.self.inside c.args.self.now c.self.view_is c.self.invariant c.in-Some.current c.in-Some.is
    c.saturating_sub-self-inside.result c.saturating_sub-self-inside.ensures (timed c.in-Some-behind_first.rest)
    c.in-Some-behind_first.ensures

pub returns-in-None : goal.returns-in-None
returns-in-None c =
    goes_on_behind c.self.inside c.args.self.now c.self.view_is c.self.invariant c.in-Some.current c.in-Some.is
    (option_map timed c.go_on.new.now) (slice_runs c.go_on.new.later) (option_map timed c.go_on.new.tail) c.go_on.ensures
    c.saturating_sub-self-inside.result c.saturating_sub-self-inside.ensures c.in-None.ensures

pub invariant_of-self-in-None : goal.invariant_of-self-in-None
invariant_of-self-in-None c =
    kept_behind c.self.inside c.args.self.now c.self.view_is c.self.invariant c.in-Some.current c.in-Some.is _ refl
    (λ some. omega (arith, some, c.saturating_sub-self-inside.ensures, c.in-None.ensures)) c.go_on.ensures
