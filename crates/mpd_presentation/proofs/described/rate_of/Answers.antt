use Rattle.mpd_presentation.proofs.described.rate_of.Goals as goal
use Rattle.presentation.proofs.Kept.{rate_kept}

pub returns : goal.returns
returns g c = rate_kept c.frame_rate.result _ c.frame_rate.ensures
