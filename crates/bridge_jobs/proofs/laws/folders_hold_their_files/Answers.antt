use Rattle.bridge_jobs.proofs.Named.{folders_hold}
use Rattle.bridge_jobs.proofs.laws.folders_hold_their_files.Goals as goal

pub returns : goal.returns
returns c = folders_hold
