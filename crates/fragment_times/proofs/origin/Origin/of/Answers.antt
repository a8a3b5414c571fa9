use Rattle.fragment_times.proofs.Origins.{beginnings}
use Rattle.fragment_times.proofs.origin.Origin.of.Goals as goal

pub returns-clause-begins : goal.returns-clause-begins
returns-clause-begins c k d within =
    rw (c.count_of.ensures, c.unit_of-unit.ensures.unit) (beginnings c.args.tracks.now c.requires k d within)
