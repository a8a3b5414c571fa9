use Rattle.bridge_core.proofs.make.write_files.Goals as goal
use Rattle.std.proofs.Common.{None, subst}
use Rattle.bridge_io.specs.{Outside.{put, Changes}, InOrder.{put_all, MayBegin, AreBegun}}
use Rattle.bridge_jobs.specs.Laws.{in_folder}
use Rattle.bridge_core.specs.Make.{source_file, source_name}
use Rattle.bridge_steps.specs.Playlists.{playlists}
use Rattle.bridge_steps.proofs.{Beginning.{first_begun, then_put, then_begun}, Files.{on_ok_by, on_err_by, on_err}}

pub returns-in_err-write_source-clause-err : goal.returns-in_err-write_source-clause-err
returns-in_err-write_source-clause-err g c =
    let job = c.args.job.now in let files = g.F.Store.files in let before = files c.args.store.now in
    let after = files c.write_source.new.store in
    on_err c.from_residual.result (first_begun (source_file job.out job.seed)
    (playlists (record { folder = job.out; base = None }) None job.digits c.args.ready.now.presentation)
    before after
    (subst (λ text. MayBegin (in_folder job.out source_name, text) before after) c.requires.text c.in_err-write_source.ensures.err))

pub returns-clause-ok : goal.returns-clause-ok
returns-clause-ok g c =
    let job = c.args.job.now in let files = g.F.Store.files in let before = files c.args.store.now in
    let mid = files c.write_source.new.store in let after = files c.write_playlists.new.store in
    let put_first = subst (λ text. Changes (put (in_folder job.out source_name) text) before mid) c.requires.text
    c.in_ok-write_source.ensures.ok in
    on_ok_by c.write_playlists.result (λ others. then_put (source_file job.out job.seed)
    (playlists (record { folder = job.out; base = None }) None job.digits c.args.ready.now.presentation) before mid after put_first
    (subst (λ digits. Changes (put_all (playlists (record { folder = job.out; base = None }) None digits c.args.ready.now.presentation))
    mid after) c.requires.digits
    (subst (λ players. Changes (put_all (playlists (record { folder = job.out; base = None }) players c.args.ready.now.digits
    c.args.ready.now.presentation)) mid after) c.requires.plain others)))
    (rw c.absolute.ensures at c.write_playlists.ensures.ok)

pub returns-clause-err : goal.returns-clause-err
returns-clause-err g c =
    let job = c.args.job.now in let files = g.F.Store.files in let before = files c.args.store.now in
    let mid = files c.write_source.new.store in let after = files c.write_playlists.new.store in
    let put_first = subst (λ text. Changes (put (in_folder job.out source_name) text) before mid) c.requires.text
    c.in_ok-write_source.ensures.ok in
    on_err_by c.write_playlists.result (λ others. then_begun (source_file job.out job.seed)
    (playlists (record { folder = job.out; base = None }) None job.digits c.args.ready.now.presentation) before mid after put_first
    (subst (λ digits. AreBegun (playlists (record { folder = job.out; base = None }) None digits c.args.ready.now.presentation) mid after)
    c.requires.digits
    (subst (λ players. AreBegun (playlists (record { folder = job.out; base = None }) players c.args.ready.now.digits
    c.args.ready.now.presentation) mid after) c.requires.plain others)))
    (rw c.absolute.ensures at c.write_playlists.ensures.err)
