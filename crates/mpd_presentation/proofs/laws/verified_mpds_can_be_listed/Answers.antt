use Rattle.mpd_presentation.proofs.laws.verified_mpds_can_be_listed.Goals as goal
use Rattle.mpd_presentation.proofs.Listable.{verified_are_listable}

pub returns : goal.returns
returns c = verified_are_listable c.closed_ends.ensures.timelines c.closed_ends.ensures.durations
