use Rattle.mpd_hints.proofs.laws.hints_stand_by_their_tracks.Goals as goal
use Rattle.mpd_hints.proofs.Standing.{hints_stand_by_their_tracks}

pub returns : goal.returns
returns c = hints_stand_by_their_tracks
