use Rattle.timeline.proofs.runs.Runs.is_broken.Goals as goal
use Rattle.std.proofs.{Common.{◌∙◌, arith}, lemmas.Int.ints}
use Rattle.timeline.proofs.RunsLemmas.{none_open_broken, none_broken, last_broken}

pub returns-in_default-2 : goal.returns-in_default-2
returns-in_default-2 c = none_open_broken c.self.invariant c.self.view_is c.args.window.now c.requires c.in_default.is-0

pub returns-then-count-gt0 : goal.returns-then-count-gt0
returns-then-count-gt0 c =
    c.are_broken.ensures
    ∙ last_broken c.self.invariant c.self.view_is c.args.window.now c.requires c.in-Some-Some.is-0 c.in-Some-Some.high
    c.in-Some-Some.ensures c.ended_by-count.result c.ended_by-count.ensures.count c.limits-limits.result c.media_end.result
    c.limits-limits.ensures.ticks c.limits-limits.ensures.origin c.if-count-gt0.true (omega (arith, ints, c.media_end.ensures))

pub returns-else-count-gt0 : goal.returns-else-count-gt0
returns-else-count-gt0 c = none_broken c.self.invariant c.self.view_is c.args.window.now c.requires c.in-Some-Some.is-0
    c.in-Some-Some.high c.in-Some-Some.ensures c.ended_by-count.result c.ended_by-count.ensures.count c.if-count-gt0.false
