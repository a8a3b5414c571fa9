use Rattle.segment_forms.proofs.laws.addresses_are_given.Goals as goal
use Rattle.segment_forms.proofs.GivenLemmas.{each_given}

pub returns : goal.returns
returns c = each_given
