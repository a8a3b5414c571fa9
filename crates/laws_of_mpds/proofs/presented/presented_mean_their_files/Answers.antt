use Rattle.laws_of_mpds.proofs.PresentedFiles.{presented_mean_their_files}
use Rattle.laws_of_mpds.proofs.presented.presented_mean_their_files.Goals as goal

pub returns : goal.returns
returns c = presented_mean_their_files
