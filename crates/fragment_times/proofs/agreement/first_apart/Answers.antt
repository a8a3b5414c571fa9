use Rattle.std.proofs.Common.{◌<◌, length, ap, ◌∙◌, arith}
use Rattle.presentation.proofs.FirstSome.{none_here, some_here, none_left, all_left}
use Rattle.fragment_times.specs.Agreeing.{apart_in, first_apart}
use Rattle.fragment_times.proofs.agreement.first_apart.Goals as goal

pub loop-section-init : goal.loop-section-init
loop-section-init c = (let p = c.args.presentation.now in all_left (apart_in p c.args.times.now) (length p.sections))

pub returns-in-Some : goal.returns-in-Some
returns-in-Some c =
    let p = c.args.presentation.now in let l = c.loop-section in
    let within : l.section < length p.sections = omega (arith, ap length c.sections.ensures) in
    some_here (apart_in p c.args.times.now) l.section (length p.sections) within (first_apart p c.args.times.now)
    c.first_in_section.result l.invariant
    (c.first_in_section.ensures ∙ ap (λ times. apart_in p times l.section) c.as_slice.ensures) c.in-Some.spot c.in-Some.is

pub loop-section-preserved : goal.loop-section-preserved
loop-section-preserved c =
    let p = c.args.presentation.now in let l = c.loop-section in
    let within : l.section < length p.sections = omega (arith, ap length c.sections.ensures) in
    none_here (apart_in p c.args.times.now) l.section (length p.sections) within (first_apart p c.args.times.now)
    c.first_in_section.result l.invariant
    (c.first_in_section.ensures ∙ ap (λ times. apart_in p times l.section) c.as_slice.ensures) c.in_default.is

pub returns : goal.returns
returns c =
    let p = c.args.presentation.now in let l = c.loop-section in
    none_left (apart_in p c.args.times.now) l.section (length p.sections) (first_apart p c.args.times.now)
    (omega (arith, ap length c.sections.ensures)) l.invariant
