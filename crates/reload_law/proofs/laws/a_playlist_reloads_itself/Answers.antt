use Rattle.reload_law.proofs.Sentences.{reloads_itself}
use Rattle.reload_law.proofs.laws.a_playlist_reloads_itself.Goals as goal

pub returns : goal.returns
returns c = reloads_itself
