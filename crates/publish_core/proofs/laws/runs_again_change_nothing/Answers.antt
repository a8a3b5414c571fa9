use Rattle.publish_core.proofs.Twice.{twice}
use Rattle.publish_core.proofs.laws.runs_again_change_nothing.Goals as goal

pub returns : goal.returns
returns g c = twice g.F.Store c.jobs_are_proper.ensures c.served_folders_are_read.ensures c.publications_again_are_unchanged.ensures
    c.first_folders_are_read.ensures c.a_first_publication_again_is_unchanged.ensures
