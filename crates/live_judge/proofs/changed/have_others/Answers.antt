use Rattle.std.proofs.Common.{arith, ap, length}
use Rattle.live_judge.specs.Shown.{common_shown}
use Rattle.live_judge.proofs.{Changing.differs_is, Walks.in_order}
use Rattle.live_judge.proofs.changed.have_others.Goals as goal

pub returns-then-has_other : goal.returns-then-has_other
returns-then-has_other c =
    let same = differs_is (common_shown c.args.standing.now) c.args.force.now c.args.place c.requires.once c.requires.among
    c.loop-section.section (omega (arith, ap length c.sections.ensures)) in
    grind (arith, in_order, same, c.has_other.ensures, c.if-has_other.true, c.loop-section.invariant, ap length c.sections.ensures)

pub loop-section-preserved : goal.loop-section-preserved
loop-section-preserved c =
    let same = differs_is (common_shown c.args.standing.now) c.args.force.now c.args.place c.requires.once c.requires.among
    c.loop-section.section (omega (arith, ap length c.sections.ensures)) in
    grind (arith, in_order, same, c.has_other.ensures, c.if-has_other.false, c.loop-section.invariant, ap length c.sections.ensures)
