use Rattle.laws_of_mpds.proofs.PresentedFiles.{listed_mean_their_files}
use Rattle.laws_of_mpds.proofs.presented.listed_mean_their_files.Goals as goal

pub returns : goal.returns
returns c = listed_mean_their_files
