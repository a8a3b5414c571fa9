use Rattle.std.proofs.Common.{◌∙◌, ap, arith, length}
use Rattle.std.specs.Prelude.{flat_map}
use Rattle.live_judge.specs.{Changed.moved_at, Shown.common_shown}
use Rattle.live_judge.proofs.{Changing.{none_moved, unmoved}, Walks.from_on-past}
use Rattle.live_judge.proofs.changed.check_moved.Goals as goal

pub loop-section-init : goal.loop-section-init
loop-section-init c = none_moved (common_shown c.args.standing.now) c.args.force.now c.args.place c.requires.once c.requires.among

pub returns-clause-unmoved : goal.returns-clause-unmoved
returns-clause-unmoved c =
    unmoved (common_shown c.args.standing.now) c.args.force.now c.args.place c.requires.once c.requires.among
    (c.loop-section.invariant ∙ ap (flat_map (moved_at c.args.standing.now.known c.args.force.now c.args.place))
    (from_on-past c.loop-section.section (length c.args.force.now.sections) (omega (arith, ap length c.sections.ensures))))
