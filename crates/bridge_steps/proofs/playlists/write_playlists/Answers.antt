use Rattle.std.proofs.Common.{[], ◌∷◌}
use Rattle.bridge_steps.specs.Playlists.{track_files, master_file}
use Rattle.bridge_steps.proofs.Files.{begun_more, put_last, begun_last, on_ok_by, on_err_by, on_err}
use Rattle.bridge_steps.proofs.playlists.write_playlists.Goals as goal

pub returns-in_err-write_tracks-clause-err : goal.returns-in_err-write_tracks-clause-err
returns-in_err-write_tracks-clause-err g c = let ready = c.args.ready.now in let out = c.args.output.now in
    on_err c.from_residual.result
    (begun_more (track_files out ready.players ready.digits ready.presentation)
    (master_file out.folder ready.players ready.presentation ∷ [])
    (g.F.Store.files c.args.store.now) (g.F.Store.files c.write_tracks.new.store) c.in_err-write_tracks.ensures.err)

pub returns-clause-ok : goal.returns-clause-ok
returns-clause-ok g c = let ready = c.args.ready.now in let out = c.args.output.now in
    on_ok_by c.write_the_master.result
    (put_last (track_files out ready.players ready.digits ready.presentation) (master_file out.folder ready.players ready.presentation)
    (g.F.Store.files c.args.store.now)
    (g.F.Store.files c.write_tracks.new.store) (g.F.Store.files c.write_the_master.new.store) c.in_ok-write_tracks.ensures.ok)
    (rw c.folder.ensures at c.write_the_master.ensures.ok)

pub returns-clause-err : goal.returns-clause-err
returns-clause-err g c = let ready = c.args.ready.now in let out = c.args.output.now in
    on_err_by c.write_the_master.result
    (begun_last (track_files out ready.players ready.digits ready.presentation) (master_file out.folder ready.players ready.presentation)
    (g.F.Store.files c.args.store.now)
    (g.F.Store.files c.write_tracks.new.store) (g.F.Store.files c.write_the_master.new.store) c.in_ok-write_tracks.ensures.ok)
    (rw c.folder.ensures at c.write_the_master.ensures.err)
