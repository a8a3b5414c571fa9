use Rattle.bridge_core.proofs.Alike.{forms_end_alike}
use Rattle.bridge_core.proofs.laws.forms_end_alike.Goals as goal

pub returns : goal.returns
returns c = forms_end_alike
