use Rattle.mpd_presentation.proofs.laws.static_mpds_are_finished.Goals as goal
use Rattle.mpd_presentation.proofs.Static.{static_are_finished}

pub returns : goal.returns
returns c = static_are_finished
