use Rattle.hls_follow.proofs.OwnHistories as histories
use Rattle.hls_follow.proofs.timed_laws.timed_playlists_are_listed.Goals as goal

pub returns : goal.returns
returns c = histories.last_are_listed
