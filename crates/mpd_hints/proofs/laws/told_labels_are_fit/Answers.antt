use Rattle.mpd_hints.proofs.laws.told_labels_are_fit.Goals as goal
use Rattle.mpd_hints.proofs.Fitting.{told_labels_are_fit}

pub returns : goal.returns
returns c = told_labels_are_fit
