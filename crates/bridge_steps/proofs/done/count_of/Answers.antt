use Rattle.std.proofs.Common.{◌≡◌, ◌∙◌, Ok}
use Rattle.presentation.specs.Counting.{count_of_all}
use Rattle.bridge_steps.proofs.done.count_of.Goals as goal

pub returns : goal.returns
returns c =
    let counted : c.count.result ≡ Ok (count_of_all c.args.presentation.now) = c.count.ensures ∙ c.requires.counted in
    rw counted at c.unwrap_or.ensures
