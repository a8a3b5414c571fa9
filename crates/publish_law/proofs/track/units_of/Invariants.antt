use Rattle.std.proofs.Common.{◌≡◌, ◌*◌, ◌^◌, ◌≤◌, take}
use Rattle.publish_law.specs.Lists.{units_of}
use Rattle.publish_law.proofs.track.units_of.Given as goal

abbrev pub invariant-loop-item : goal.invariant-loop-item
invariant-loop-item l = record {
  sum : l.units ≡ units_of (take l.item-index l.items);
  bound : l.units ≤ l.item-index * 2 ^ 64;
}
