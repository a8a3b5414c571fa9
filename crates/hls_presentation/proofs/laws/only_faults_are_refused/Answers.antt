use Rattle.hls_presentation.proofs.Only.{only_faults_are_refused}
use Rattle.hls_presentation.proofs.laws.only_faults_are_refused.Goals as goal

pub returns : goal.returns
returns c = only_faults_are_refused
