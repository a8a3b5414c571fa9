use Rattle.mpd_rules.proofs.periods.end_of.Goals as goal
use Rattle.mpd_tree.specs.Nodes.{element_of}
use Rattle.mpd_rules.specs.Fits.{FitsPeriod}
use Rattle.mpd_rules.proofs.Walking.{all_here}

pub start_of-requires : goal.start_of-requires
start_of-requires c =
    let item = c.in-Some.ensures.item in
    all_here element_of FitsPeriod c.args.later.now 0 c.in-Some.next.now c.requires item.3.0 item.1
