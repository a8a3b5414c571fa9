use Rattle.bridge_steps.proofs.Endings.{at_place, tells, told_never_writes, unplaced, unplaced_never_writes}
use Rattle.bridge_compare.specs.{Check.places_of, Compare.{compare_at, compare_outcome, judged}}
use Rattle.bridge_compare.proofs.compare.run_compare.Goals as goal

pub returns-in-Ok-clause-ends : goal.returns-in-Ok-clause-ends
unfolding compare_outcome
returns-in-Ok-clause-ends g c =
    let job = c.args.job.now in let mpd = c.in-Ok.mpd in let master = c.in-Ok.master in let told = c.judged.ensures in
    let read = told.reads in
    at_place (places_of job.check) (mpd, master) (compare_at job (g.F.Store.files c.args.store.now)) c.told.result _ _ c.in-Ok.ensures
    (tells (judged job mpd master) c.judged.result c.told.result _ _ read.read told.verdict read.cause read.files read.writes
    c.told.ensures)

pub returns-in-Ok-clause-never_writes : goal.returns-in-Ok-clause-never_writes
returns-in-Ok-clause-never_writes g c = told_never_writes c.judged.result c.told.result _ _ c.told.ensures c.judged.ensures.reads.writes

pub returns-in-Err-clause-ends : goal.returns-in-Err-clause-ends
unfolding compare_outcome
returns-in-Err-clause-ends g c =
    let job = c.args.job.now in unplaced (places_of job.check) (compare_at job (g.F.Store.files c.args.store.now)) c.in-Err.told _ c.in-Err.ensures

pub returns-in-Err-clause-never_writes : goal.returns-in-Err-clause-never_writes
returns-in-Err-clause-never_writes g c = unplaced_never_writes (places_of c.args.job.now.check) c.in-Err.told _ c.in-Err.ensures
