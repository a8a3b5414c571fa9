use Rattle.laws_of_publishing.proofs.Rising.{sections_after_a_cut, sections_are_even, steps_are_above}
use Rattle.laws_of_publishing.proofs.lists.sections_rise_evenly.Goals as goal

pub returns-clause-even : goal.returns-clause-even
returns-clause-even c = sections_are_even

pub returns-clause-above : goal.returns-clause-above
returns-clause-above c = steps_are_above

pub returns-clause-cut : goal.returns-clause-cut
returns-clause-cut c = sections_after_a_cut
