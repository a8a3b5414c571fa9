use Rattle.bridge_ends.proofs.shelf.MemStoreShelf.put_in_place.Goals as goal
use Rattle.std.proofs.Common.{ap, Some}
use Rattle.bridge_io.proofs.Files.{on_err}

pub returns-in_err-put_in_place-clause-err : goal.returns-in_err-put_in_place-clause-err
returns-in_err-put_in_place-clause-err c = on_err c.from_residual.result c.in_err-put_in_place.ensures.err

pub returns-clause-ok : goal.returns-clause-ok
returns-clause-ok c = ap Some (rw (c.as_str.ensures.text, c.as_str-2.ensures.text) at c.in_ok-put_in_place.ensures.ok)
