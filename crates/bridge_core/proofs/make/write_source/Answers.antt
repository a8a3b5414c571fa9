use Rattle.std.proofs.Common.{OnErr, subst}
use Rattle.bridge_io.specs.InOrder.{MayBegin}
use Rattle.bridge_core.proofs.make.write_source.Goals as goal

pub returns-in-Ok-clause-err : goal.returns-in-Ok-clause-err
returns-in-Ok-clause-err g c = let files = g.F.Store.files in
    subst (λ name. OnErr c.write_text.result (MayBegin (name, c.args.text.now) (files c.args.store.now) (files c.write_text.new.store)))
    c.in-Ok.ensures c.write_text.ensures.err
