use Rattle.bridge_reach.proofs.index.run_hls_index.Goals as goal
use Rattle.std.proofs.Common.{ap, ◌∙◌, Err}
use Rattle.bridge_playlists.{proofs.Places.folder_is_base, specs.Places.store_place_of}
use Rattle.bridge_steps.specs.Playlists.{output_of}
use Rattle.bridge_steps.proofs.Endings.{at_place, halts, then_ends, writing}
use Rattle.bridge_reach.specs.Index.{files_of, index_at, index_outcome, line_of, outcome_of, output_of_job, presented}

-- the folder of the playlists is under the base
pub write-requires-clause-output : goal.write-requires-clause-output
write-requires-clause-output g c = let job = c.args.job.now in
    c.of-output.ensures ∙ ap (λ base. output_of job.addresses base job.out) (folder_is_base job.base job.mpd c.in-Ok.place c.in-Ok.ensures)

pub returns-in-Ok-indexed_at : goal.returns-in-Ok-indexed_at
unfolding index_outcome
returns-in-Ok-indexed_at g c =
    let job = c.args.job.now in let place = c.in-Ok.place in let read = c.in-Ok-indexed_at.ensures.reads in
    at_place (store_place_of job.base job.mpd) place (index_at job (g.F.Store.files c.args.store.now)) c.write.result _ _ c.in-Ok.ensures
    (then_ends (outcome_of job) (writing (files_of (output_of_job job) job.digits) line_of) (presented job place) c.write.result _ _
    (c.in-Ok-indexed_at.ready.presentation, c.in-Ok-indexed_at.ready.players) _ read.read read.cause.never_falls read.files read.writes
    c.write.ensures)

pub returns-in-Ok : goal.returns-in-Ok
unfolding index_outcome
returns-in-Ok g c =
    let job = c.args.job.now in let place = c.in-Ok.place in let read = c.in-Err-indexed_at.ensures.reads in
    at_place (store_place_of job.base job.mpd) place (index_at job (g.F.Store.files c.args.store.now)) c.halted.result _ _ c.in-Ok.ensures
    (halts (outcome_of job) (writing (files_of (output_of_job job) job.digits) line_of) (presented job place) c.halted.result _ _
    c.in-Err-indexed_at.halt c.halted.ensures read.read (λ e. read.cause.rose (ap Err e)) read.cause.never_falls read.files read.writes)
