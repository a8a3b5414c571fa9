use Rattle.publish_core.proofs.written.write_file.Goals as goal
use Rattle.std.proofs.Common.{[], ◌∙◌, subst}
use Rattle.bridge_io.specs.{Outside.{Changes, put}, Written.HasFront}
use Rattle.bridge_io.proofs.Files.{on_err}
use Rattle.publish_core.proofs.Placing.{begun, emptied, unplaced}

pub returns-in_err-writer-clause-err : goal.returns-in_err-writer-clause-err
returns-in_err-writer-clause-err g c = let files = g.F.Store.files in
    on_err c.from_residual.result
    (emptied c.args.pending.now (files c.args.store.now) (files c.create.new.store) c.in_err-writer.ensures.err)

pub returns-in_err-push-clause-err : goal.returns-in_err-push-clause-err
returns-in_err-push-clause-err g c =
    let before = g.F.Store.files c.args.store.now in let after = g.F.Store.files c.push.new.store in
    let text = c.as_slice.result.now in
    on_err c.from_residual-in_err-push.result (begun c.args.pending.now text before after
    (subst (λ name. HasFront name text before after) c.in_ok-writer.ensures.target
    (c.in_err-push.ensures.err [] before c.in_ok-writer.ensures.ok)))

pub returns-in_err-flush-clause-err : goal.returns-in_err-flush-clause-err
returns-in_err-flush-clause-err g c =
    let before = g.F.Store.files c.args.store.now in let after = g.F.Store.files c.flush.new.store in
    let text = c.as_slice.result.now in
    on_err c.from_residual-in_err-flush.result (begun c.args.pending.now text before after
    (subst (λ name. HasFront name text before after) (c.in_ok-push.ensures.target ∙ c.in_ok-writer.ensures.target)
    (c.in_err-flush.ensures.err text before (c.in_ok-push.ensures.ok [] before c.in_ok-writer.ensures.ok))))

pub returns-in_err-put_in_place-clause-err : goal.returns-in_err-put_in_place-clause-err
returns-in_err-put_in_place-clause-err g c =
    let before = g.F.Store.files c.args.store.now in let mid = g.F.Store.files c.flush.new.store in
    let text = c.as_slice.result.now in
    on_err c.from_residual-in_err-put_in_place.result
    (unplaced c.args.pending.now text before mid (g.F.Store.files c.put_in_place.new.self)
    (subst (λ name. Changes (put name text) before mid) (c.in_ok-push.ensures.target ∙ c.in_ok-writer.ensures.target)
    (c.in_ok-flush.ensures.ok text before (c.in_ok-push.ensures.ok [] before c.in_ok-writer.ensures.ok)))
    c.in_err-put_in_place.ensures.err)
