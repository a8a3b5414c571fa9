use Rattle.std.proofs.Common.{take}
use Rattle.publish_law.specs.Identities.{AreListed}
use Rattle.publish_law.proofs.listed.Listed.of.Given as goal

abbrev pub invariant-loop-item : goal.invariant-loop-item
invariant-loop-item l = AreListed (record { identities = l.identities }) (take l.item-index l.items)
