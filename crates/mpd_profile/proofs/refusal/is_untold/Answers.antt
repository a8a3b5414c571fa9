use Rattle.mpd_profile.proofs.refusal.is_untold.Goals as goal
use Rattle.std.proofs.Common.{◌∙◌, sym}
use Rattle.mpd_tree.specs.Nodes.{element_of}
use Rattle.mpd_profile.proofs.Walks.{untold}

pub returns-in-Segments : goal.returns-in-Segments
returns-in-Segments c = λ is.
    rw c.in-Segments.is (untold c.check_all.result (element_of c.args.root) c.check_all.ensures (sym c.is_ok.ensures.value ∙ is))
