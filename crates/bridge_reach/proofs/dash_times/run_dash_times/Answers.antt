use Rattle.std.proofs.Common.{ap, Err}
use Rattle.bridge_playlists.specs.Places.{store_place_of}
use Rattle.bridge_steps.proofs.Endings.{at_place, halts, then_ends, writing}
use Rattle.bridge_reach.specs.DashTimes.{dash_times_at, dash_times_outcome, files_of, line_of, outcome_of, timed_at}
use Rattle.bridge_reach.proofs.dash_times.run_dash_times.Goals as goal

pub returns-in-Ok-timed_at : goal.returns-in-Ok-timed_at
unfolding dash_times_outcome
returns-in-Ok-timed_at g c =
    let job = c.args.job.now in let place = c.in-Ok.place in let read = c.in-Ok-timed_at.ensures.reads in
    at_place (store_place_of job.base job.master) place
    (dash_times_at job (g.F.Store.files c.args.store.now)) c.write.result _ _ c.in-Ok.ensures
    (then_ends (outcome_of job) (writing (files_of job) line_of) (timed_at job.form place) c.write.result _ _
    (c.in-Ok-timed_at.timed.presentation, c.in-Ok-timed_at.timed.runs) _ read.read read.cause.never_falls read.files read.writes
    c.write.ensures)

pub returns-in-Ok : goal.returns-in-Ok
unfolding dash_times_outcome
returns-in-Ok g c =
    let job = c.args.job.now in let place = c.in-Ok.place in let read = c.in-Err-timed_at.ensures.reads in
    at_place (store_place_of job.base job.master) place
    (dash_times_at job (g.F.Store.files c.args.store.now)) c.halted.result _ _ c.in-Ok.ensures
    (halts (outcome_of job) (writing (files_of job) line_of) (timed_at job.form place) c.halted.result _ _ c.in-Err-timed_at.halt
    c.halted.ensures read.read (λ e. read.cause.rose (ap Err e)) read.cause.never_falls read.files read.writes)
