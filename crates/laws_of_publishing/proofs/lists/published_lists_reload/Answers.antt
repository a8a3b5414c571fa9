use Rattle.laws_of_publishing.proofs.Reloads.{lists_reload}
use Rattle.laws_of_publishing.proofs.lists.published_lists_reload.Goals as goal

pub returns : goal.returns
returns c = lists_reload c.rules_are_sentences.ensures c.a_playlist_reloads_itself.ensures
