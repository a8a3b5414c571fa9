use Rattle.std.proofs.Common.{◌≡◌, ◌+◌, drop}
use Rattle.publish_law.specs.Lists.{gone}
use Rattle.publish_law.proofs.track.gone.Given as goal

abbrev pub invariant-loop-item : goal.invariant-loop-item
invariant-loop-item l = record {
  count : l.count ≡ l.item-index;
  goes : l.count + gone l.left l.wanted (drop l.item-index l.items) ≡ gone l.initial.left l.wanted l.items;
}
