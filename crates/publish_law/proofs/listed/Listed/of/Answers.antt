use Rattle.std.proofs.Common.{take}
use Rattle.std.proofs.lemmas.List.{take_more}
use Rattle.publish_law.proofs.Identities.{one_more}
use Rattle.publish_law.proofs.listed.Listed.of.Goals as goal

pub loop-item-preserved : goal.loop-item-preserved
loop-item-preserved c = rw (take_more c.args.items.now c.loop-item.item-index c.item-item.result c.loop-item-test.true, ← c.item-item.is)
    (one_more c.loop-item.identities c.insert.new.self (take c.loop-item.item-index c.args.items.now) c.item-item.result
    c.identity_of.result c.identity_of.ensures c.in_ok-insert.ensures.updates c.loop-item.invariant)
