use Rattle.bridge_playlists.specs.Places.{store_place_of}
use Rattle.bridge_steps.proofs.Endings.{at_place, tells, told_never_writes, unplaced, unplaced_never_writes}
use Rattle.bridge_core.specs.Show.{show_at, show_outcome, shown_at}
use Rattle.bridge_core.proofs.show.run.Goals as goal

pub returns-in-Ok-clause-ends : goal.returns-in-Ok-clause-ends
unfolding show_outcome
returns-in-Ok-clause-ends g c =
    let job = c.args.job.now in let place = c.in-Ok.place in let told = c.shown_at.ensures in let read = told.reads in
    at_place (store_place_of job.base job.file) place (show_at job (g.F.Store.files c.args.store.now)) c.told.result _ _ c.in-Ok.ensures
    (tells (shown_at job place) c.shown_at.result c.told.result _ _ read.read told.verdict read.cause read.files read.writes c.told.ensures)

pub returns-in-Ok-clause-never_writes : goal.returns-in-Ok-clause-never_writes
returns-in-Ok-clause-never_writes g c = told_never_writes c.shown_at.result c.told.result _ _ c.told.ensures c.shown_at.ensures.reads.writes

pub returns-in-Err-clause-ends : goal.returns-in-Err-clause-ends
unfolding show_outcome
returns-in-Err-clause-ends g c =
    let job = c.args.job.now in
    unplaced (store_place_of job.base job.file) (show_at job (g.F.Store.files c.args.store.now)) c.in-Err.told _ c.in-Err.ensures

pub returns-in-Err-clause-never_writes : goal.returns-in-Err-clause-never_writes
returns-in-Err-clause-never_writes g c =
    unplaced_never_writes (store_place_of c.args.job.now.base c.args.job.now.file) c.in-Err.told _ c.in-Err.ensures
