use Rattle.bridge_io.proofs.file_writer.FileWriter.flush.Goals as goal
use Rattle.bridge_io.specs.{Outside.MayExtend, Written.{target, held}}
use Rattle.bridge_io.proofs.{Files.on_err, Written.front_of_append}

pub returns-in_err-hand_on-clause-err : goal.returns-in_err-hand_on-clause-err
returns-in_err-hand_on-clause-err g c = on_err c.from_residual.result (λ text first behind.
    let left : MayExtend (target c.args.self.now) (held c.args.self.now) (g.F.Store.files c.args.store.now)
    (g.F.Store.files c.hand_on.new.store) = rw c.deref.ensures.value at c.in_err-hand_on.ensures.err in
    front_of_append _ behind.front _ text first _ _ behind.whole behind.files left)
