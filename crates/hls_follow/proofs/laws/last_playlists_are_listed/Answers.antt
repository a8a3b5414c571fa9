use Rattle.hls_follow.proofs.Histories as histories
use Rattle.hls_follow.proofs.laws.last_playlists_are_listed.Goals as goal

pub returns : goal.returns
returns c = histories.last_are_listed
