use Rattle.std.proofs.Common.{◌≡◌, sum_by, take}
use Rattle.publish_law.specs.{Lists.saturated, declared.track.Change.Change}
use Rattle.publish_core.proofs.next.counts_of.Given as goal

abbrev pub invariant-loop-change : goal.invariant-loop-change
invariant-loop-change l = record {
  appended : l.counts.appended ≡ saturated (sum_by (λ (change : Change). change.appended) (take l.change-index l.changes));
  removed : l.counts.removed ≡ saturated (sum_by (λ (change : Change). change.removed) (take l.change-index l.changes));
}
