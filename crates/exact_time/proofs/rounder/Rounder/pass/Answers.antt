use Rattle.exact_time.proofs.Roundings as calls
use Rattle.exact_time.proofs.rounder.Rounder.pass.Goals as goal

pub floor_unit-floor-requires-clause-not_before : goal.floor_unit-floor-requires-clause-not_before
floor_unit-floor-requires-clause-not_before c =
    calls.first_not_after c.self.inside c.self.invariant c.args.self.now c.self.view_is c.args.end c.requires

pub overflow_sub-printed : goal.overflow_sub-printed
overflow_sub-printed c =
    calls.not_less c.self.inside c.self.invariant c.args.self.now c.self.view_is c.args.end c.requires c.floor_unit-floor.result
    c.floor_unit-floor.ensures.value

pub invariant_of-self : goal.invariant_of-self
invariant_of-self c =
    calls.kept_after c.self.inside c.self.invariant c.args.self.now c.self.view_is c.args.end c.requires c.floor_unit-floor.result
    c.floor_unit-floor.ensures.value

pub returns-clause-printed : goal.returns-clause-printed
returns-clause-printed c =
    calls.printed_is c.self.inside c.self.invariant c.args.self.now c.self.view_is c.args.end c.requires c.floor_unit-floor.result
    c.floor_unit-floor.ensures.value

pub returns-clause-bounded : goal.returns-clause-bounded
returns-clause-bounded c =
    calls.printed_bounded c.self.inside c.self.invariant c.args.self.now c.self.view_is c.args.end c.requires c.floor_unit-floor.result
    c.floor_unit-floor.ensures.value
