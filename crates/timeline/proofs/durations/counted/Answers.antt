use Rattle.timeline.proofs.durations.counted.Goals as goal
use Rattle.std.proofs.Common.{refl, subst, Option}
use Rattle.timeline.specs.{declared.fault.TimeFault.TimeFault, Rows.IsCountedFault}
use Rattle.timeline.proofs.{Laid.from_fault, Counted.{counted_at, counted_up_to, open_fault, names_done, names_fault}}

pub returns-in_err-go_on-in-None : goal.returns-in_err-go_on-in-None
returns-in_err-go_on-in-None c =
    from_fault c.from_residual.result c.in_err-go_on-in-None.field-0.0 _ _ c.from_residual.ensures
    (open_fault c.new-builder.result c.args.duration c.in_err-go_on-in-None.field-0.0 _ c.new-builder.ensures.former
    c.in_err-go_on-in-None.ensures.members)

pub returns-in_err-add_some-in-Some : goal.returns-in_err-add_some-in-Some
returns-in_err-add_some-in-Some c =
    let fault = c.in_err-add_some-in-Some.field-0.0 in
    rw (c.in-Unbounded.is, c.in-Some.is)
    (from_fault c.from_residual-in_err-add_some-in-Some.result fault _ _ c.from_residual-in_err-add_some-in-Some.ensures
    (names_fault c.new-builder.ensures.limits refl c.args.duration c.from.result c.in-Some.count c.from.ensures fault
    c.in_err-add_some-in-Some.ensures))

pub returns-in_ok-add_some-in-Some : goal.returns-in_ok-add_some-in-Some
returns-in_ok-add_some-in-Some c =
    rw (c.in-Unbounded.is, c.in-Some.is)
    (names_done c.new-builder.ensures.limits refl c.args.duration c.from.result c.in-Some.count c.from.ensures c.add_some.new.builder
    c.in_ok-add_some-in-Some.ensures)

pub returns-in_err-add_until-in-At : goal.returns-in_err-add_until-in-At
returns-in_err-add_until-in-At c =
    let fault = c.in_err-add_until-in-At.field-0.0 in
    rw c.in-At.is
    (from_fault c.from_residual-in_err-add_until-in-At.result fault _ _ c.from_residual-in_err-add_until-in-At.ensures
    (subst (λ (meant : Option TimeFault). IsCountedFault meant fault)
    (counted_at c.args.ticks c.in-At.length c.args.duration c.count_until-count.result c.args.names c.count_until-count.ensures
    c.requires.positive c.requires.lasting) c.in_err-add_until-in-At.ensures))

pub returns-in_ok-add_until-in-At : goal.returns-in_ok-add_until-in-At
returns-in_ok-add_until-in-At c =
    rw c.in-At.is
    (counted_up_to c.args.ticks c.in-At.length c.args.duration c.count_until-count.result c.args.names c.add_until.new.builder
    c.count_until-count.ensures c.requires.positive c.requires.lasting c.in_ok-add_until-in-At.ensures)
