use Rattle.laws_of_mpds.proofs.PresentedMeant.{presented_mean_what_is_told}
use Rattle.laws_of_mpds.proofs.presented.presented_mean_what_is_told.Goals as goal

pub returns : goal.returns
returns c = presented_mean_what_is_told
