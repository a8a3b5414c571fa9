use Rattle.bridge_core.proofs.dash.run.Goals as goal
use Rattle.std.proofs.Common.{ap, Err}
use Rattle.bridge_playlists.specs.{Places.store_place_of, Playlists.presented_at}
use Rattle.bridge_steps.specs.Done.{done_line}
use Rattle.bridge_steps.proofs.Endings.{at_place, halts, then_ends, writing}
use Rattle.bridge_core.specs.Dash.{dash_at, dash_outcome, files_of, outcome_of}

pub returns-in-Ok-presented_at : goal.returns-in-Ok-presented_at
unfolding dash_outcome
returns-in-Ok-presented_at g c =
    let job = c.args.job.now in let place = c.in-Ok.place in let read = c.in-Ok-presented_at.ensures.reads in
    at_place (store_place_of job.base job.master) place (dash_at job (g.F.Store.files c.args.store.now)) c.write.result _ _ c.in-Ok.ensures
    (then_ends (outcome_of job) (writing (files_of job) done_line) (presented_at place) c.write.result _ _
    c.in-Ok-presented_at.presentation _ read.read read.cause.never_falls read.files read.writes c.write.ensures)

pub returns-in-Ok : goal.returns-in-Ok
unfolding dash_outcome
returns-in-Ok g c =
    let job = c.args.job.now in let place = c.in-Ok.place in let read = c.in-Err-presented_at.ensures.reads in
    at_place (store_place_of job.base job.master) place (dash_at job (g.F.Store.files c.args.store.now)) c.halted.result _ _ c.in-Ok.ensures
    (halts (outcome_of job) (writing (files_of job) done_line) (presented_at place) c.halted.result _ _ c.in-Err-presented_at.halt
    c.halted.ensures read.read (λ e. read.cause.rose (ap Err e)) read.cause.never_falls read.files read.writes)
