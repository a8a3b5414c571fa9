use Rattle.bridge_core.proofs.dash.write.Goals as goal
use Rattle.std.proofs.Common.{[], ◌∷◌, true, subst}
use Rattle.bridge_io.specs.{InOrder.{put_all, AreBegun}, Outside.Changes}
use Rattle.dash_writer.specs.Manifest.{manifest_text}
use Rattle.bridge_steps.specs.{Done.done_line, Endings.IsWritten}
use Rattle.bridge_steps.proofs.{Begun.{begun, one_put}, Endings.writes, Files.{on_ok_by, on_err_by}}
use Rattle.bridge_core.specs.Dash.{files_of}

pub returns : goal.returns
returns g c =
    let p = c.args.presentation.now in let text = manifest_text c.args.job.now.form p in let put = c.write_mpd.ensures in
    let told = c.in-Ok.ensures in
    let name = c.in-Ok.name in
    let before = g.F.Store.files c.args.store.now in let after = g.F.Store.files c.write_mpd.new.store in
    writes (files_of c.args.job.now p) (done_line p) true c.write_mpd.result c.written.result _ _
    (on_ok_by c.write_mpd.result (λ ok. subst (λ name. Changes (put_all ((name, text) ∷ [])) before after) told.name
    (one_put (name, text) before after ok)) put.ok)
    (on_err_by c.write_mpd.result (λ may. subst (λ name. AreBegun ((name, text) ∷ []) before after) told.name
    (begun (name, text) before after may)) put.err)
    put.cause put.reads (subst (λ line. IsWritten line c.write_mpd.result c.written.result) told.line c.written.ensures)
