use Rattle.hls_follow.proofs.Runs as runs
use Rattle.hls_follow.proofs.laws.runs_go_on.Goals as goal

pub returns : goal.returns
returns c = runs.runs_go_on c.rules_are_sentences.ensures
