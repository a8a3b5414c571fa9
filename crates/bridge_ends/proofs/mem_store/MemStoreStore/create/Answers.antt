use Rattle.bridge_ends.proofs.mem_store.MemStoreStore.create.Goals as goal
use Rattle.std.proofs.Common.{inl, ap, refl, Some}
use Rattle.bridge_io.proofs.Files.{on_err}

pub returns-then-fails-clause-err : goal.returns-then-fails-clause-err
returns-then-fails-clause-err c = inl refl

pub returns-in_err-set-clause-err : goal.returns-in_err-set-clause-err
returns-in_err-set-clause-err c = on_err c.from_residual.result (inl (ap Some c.in_err-set.ensures.err))

pub returns-clause-ok : goal.returns-clause-ok
returns-clause-ok c = ap Some (rw (c.as_str.ensures.text, c.new-empty.ensures) at c.in_ok-set.ensures.ok)
