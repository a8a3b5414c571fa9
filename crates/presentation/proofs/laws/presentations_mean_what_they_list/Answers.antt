use Rattle.presentation.proofs.laws.presentations_mean_what_they_list.Goals as goal
use Rattle.presentation.proofs.{Meant.made_are_meant, MeantParts.verified_are_meant, Whole.finished_are_whole}

pub returns : goal.returns
returns c = record {
  made = made_are_meant;
  verified = verified_are_meant;
  finished = finished_are_whole;
}
