use Rattle.std.proofs.Common.{◌≡◌, ◌++◌, map, take}
use Rattle.publish_law.specs.Lists.{shifted}
use Rattle.publish_law.proofs.track.items_of.Given as goal

abbrev pub invariant-loop-item : goal.invariant-loop-item
invariant-loop-item l = l.items.items ≡ take l.item-index l.kept

abbrev pub invariant-loop-item-2 : goal.invariant-loop-item-2
invariant-loop-item-2 l = l.items.items ≡ l.kept ++ map (shifted l.shift) (take l.item-index l.fresh)
