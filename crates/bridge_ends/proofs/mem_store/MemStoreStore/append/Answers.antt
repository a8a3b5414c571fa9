use Rattle.bridge_ends.proofs.mem_store.MemStoreStore.append.Goals as goal
use Rattle.std.proofs.Common.{inl, ap, refl, Some}
use Rattle.bridge_io.proofs.Files.{on_err}

pub returns-then-fails-clause-err : goal.returns-then-fails-clause-err
returns-then-fails-clause-err c = inl refl

pub returns-in_err-extend-clause-err : goal.returns-in_err-extend-clause-err
returns-in_err-extend-clause-err c = on_err c.from_residual.result (inl (ap Some c.in_err-extend.ensures.err))

pub returns-clause-ok : goal.returns-clause-ok
returns-clause-ok c = ap Some (rw c.as_str.ensures.text at c.in_ok-extend.ensures.ok)
