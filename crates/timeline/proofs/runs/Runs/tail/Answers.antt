use Rattle.std.proofs.Common.{◌∙◌, subst, ℕ}
use Rattle.std.specs.Prelude.{option_map}
use Rattle.timeline.specs.RunSegments.{IsTail, timed}
use Rattle.timeline.proofs.RunsLemmas.{none_open_tail, tail_room, tail_extents, tail_before}
use Rattle.timeline.proofs.runs.Runs.tail.Goals as goal

pub returns-in_default-2-clause-extents : goal.returns-in_default-2-clause-extents
returns-in_default-2-clause-extents c =
    none_open_tail c.self.invariant c.self.view_is c.args.window.now c.requires.window c.in_default.is-0

pub until-requires-clause-room : goal.until-requires-clause-room
until-requires-clause-room c = tail_room c.self.invariant c.self.view_is c.args.window.now c.requires.window c.in-Some-Some.is-0
    c.in-Some-Some.high c.in-Some-Some.ensures c.requires.reached

pub returns-clause-extents : goal.returns-clause-extents
returns-clause-extents c = c.until.ensures.extents ∙ tail_extents c.self.invariant c.self.view_is c.args.window.now c.requires.window
    c.in-Some-Some.is-0 c.in-Some-Some.high c.in-Some-Some.ensures c.requires.reached

pub returns-clause-tail : goal.returns-clause-tail
returns-clause-tail c =
    subst (λ (n : ℕ). IsTail n (option_map timed c.until.result)) (tail_before c.self.invariant c.self.view_is c.args.window.now
    c.requires.window c.in-Some-Some.is-0 c.in-Some-Some.high c.in-Some-Some.ensures c.requires.reached) c.until.ensures.tail
