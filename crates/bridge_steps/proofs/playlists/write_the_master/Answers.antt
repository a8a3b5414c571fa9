use Rattle.std.proofs.Common.{OnErr, subst}
use Rattle.bridge_io.specs.InOrder.{MayBegin}
use Rattle.hls_writer.specs.Master.{master_text}
use Rattle.bridge_steps.proofs.playlists.write_the_master.Goals as goal

pub returns-in-Ok-clause-err : goal.returns-in-Ok-clause-err
returns-in-Ok-clause-err g c = let files = g.F.Store.files in let text = master_text c.args.players.now c.args.presentation.now in
    subst (λ name. OnErr c.write_master.result (MayBegin (name, text) (files c.args.store.now) (files c.write_master.new.store)))
    c.in-Ok.ensures (rw c.as_ref.ensures.value at c.write_master.ensures.err)
