use Rattle.bridge_io.proofs.file_writer.FileWriter.hold.Goals as goal
use Rattle.std.proofs.Common.{◌∙◌, ap}
use Rattle.bridge_io.specs.Written.{target, front_of_more, front_of_all, front_of_behind}
use Rattle.bridge_io.proofs.{Files.on_err, file_writer.FileWriter.hold.Goals.{then-piece-len+in_ok-flush, else-piece-len}}

pub returns-in_err-flush-clause-err : goal.returns-in_err-flush-clause-err
returns-in_err-flush-clause-err g c = on_err c.from_residual.result (λ text first behind.
    front_of_more _ text c.args.piece.now first _ (c.in_err-flush.ensures.err text first behind))

pub returns-in_err-extend_from_slice-clause-err : goal.returns-in_err-extend_from_slice-clause-err
returns-in_err-extend_from_slice-clause-err g c = on_err c.from_residual-in_err-extend_from_slice.result (λ text first behind.
    let name = target c.args.self.now in
    let piece = c.args.piece.now in
    elim c.if-piece-len.branch [
      | then-piece-len+in_ok-flush w ↦ front_of_more name text piece first _ (front_of_all name text first _ (ap g.F.Store.files w.store-is
          ∙ w.in_ok-flush.ensures.ok text first behind))
      | else-piece-len w ↦ front_of_more name text piece first _
          (rw (← w.store-is) at (front_of_behind c.args.self.now text first _ behind))
    ])
