use Rattle.bridge_live.proofs.live_files.write_live_files.Goals as goal
use Rattle.std.proofs.Common.{◌≡◌, [], ◌∷◌, ◌==◌, sym, subst, if◌then◌else◌}
use Rattle.bridge_io.specs.{Outside.Changes, InOrder.{put_all, AreBegun}}
use Rattle.bridge_live.specs.LiveMpds.{track_files, master_file}
use Rattle.bridge_steps.proofs.Files.{begun_more, put_last, begun_last, on_ok_by, on_err_by, on_err}
use Rattle.bridge_live.proofs.LiveFiles.{files_first}

pub returns-in_err-write_tracks-clause-err : goal.returns-in_err-write_tracks-clause-err
returns-in_err-write_tracks-clause-err g c = let s = c.args.session.now in let out = c.args.output.now in
    on_err c.from_residual.result
    (begun_more (track_files out s) (if s.common.accepted == 1 then master_file out.folder c.args.players.now s ∷ [] else [])
    (g.F.Store.files c.args.store.now)
    (g.F.Store.files c.write_tracks.new.store) c.in_err-write_tracks.ensures.err)

pub returns-then-accepted-eq1-clause-ok : goal.returns-then-accepted-eq1-clause-ok
returns-then-accepted-eq1-clause-ok g c = let s = c.args.session.now in let out = c.args.output.now in let files = g.F.Store.files in
    let first : s.common.accepted ≡ 1 = rw c.accepted.ensures at c.if-accepted-eq1.true in
    on_ok_by c.write_the_master.result
    (λ puts. subst (λ fs. Changes (put_all fs) (files c.args.store.now) (files c.write_the_master.new.store))
    (sym (files_first out c.args.players.now s first))
    (put_last (track_files out s) (master_file out.folder c.args.players.now s) (files c.args.store.now) (files c.write_tracks.new.store)
    (files c.write_the_master.new.store) c.in_ok-write_tracks.ensures.ok (rw (c.folder.ensures, c.first.ensures.first) at puts)))
    c.write_the_master.ensures.ok

pub returns-then-accepted-eq1-clause-err : goal.returns-then-accepted-eq1-clause-err
returns-then-accepted-eq1-clause-err g c = let s = c.args.session.now in let out = c.args.output.now in let files = g.F.Store.files in
    let first : s.common.accepted ≡ 1 = rw c.accepted.ensures at c.if-accepted-eq1.true in
    on_err_by c.write_the_master.result
    (λ may. subst (λ fs. AreBegun fs (files c.args.store.now) (files c.write_the_master.new.store))
    (sym (files_first out c.args.players.now s first))
    (begun_last (track_files out s) (master_file out.folder c.args.players.now s) (files c.args.store.now) (files c.write_tracks.new.store)
    (files c.write_the_master.new.store) c.in_ok-write_tracks.ensures.ok (rw (c.folder.ensures, c.first.ensures.first) at may)))
    c.write_the_master.ensures.err
