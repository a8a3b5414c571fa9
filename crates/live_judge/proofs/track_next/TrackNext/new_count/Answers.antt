use Rattle.live_judge.proofs.track_next.TrackNext.new_count.Goals as goal
use Rattle.std.proofs.Common.{ap, arith, length}
use Rattle.live_judge.proofs.Counts.{count_there}

pub loop-section-init : goal.loop-section-init
loop-section-init c = record { summed = omega (arith, count_there c.args.self.now c.requires); bound = omega arith }

pub overflow_add-count : goal.overflow_add-count
overflow_add-count c =
    omega (arith, ap length c.sections.ensures, c.requires.next.few, c.loop-section.invariant.bound, c.from-count.ensures)

pub returns-clause-bounded : goal.returns-clause-bounded
returns-clause-bounded c = omega (arith, ap length c.sections.ensures, c.requires.next.few, c.loop-section.invariant.bound)
