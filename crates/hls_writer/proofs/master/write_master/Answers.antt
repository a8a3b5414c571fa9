use Rattle.std.proofs.Common.{[], inr, option_map, rules, subst}
use Rattle.bridge_io.specs.Written.{HasFront}
use Rattle.bridge_io.proofs.Files.{on_err}
use Rattle.hls_writer.specs.Master.{master_text}
use Rattle.hls_writer.proofs.master.write_master.Goals as goal

pub returns-in_err-flush-clause-err : goal.returns-in_err-flush-clause-err
returns-in_err-flush-clause-err g c =
    let before = g.F.Store.files c.args.store.now in let after = g.F.Store.files c.flush.new.store in
    let text = master_text (option_map (λ h. h.now) c.args.players) c.args.presentation.now in
    let behind = c.in_ok-push_master.ensures.behind [] before c.in_ok-writer.ensures.ok in
    on_err c.from_residual-in_err-flush.result (inr (subst (λ name. HasFront name text before after)
    (search rules) (c.in_err-flush.ensures.err text before (search rules))))
