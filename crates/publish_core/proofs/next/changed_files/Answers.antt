use Rattle.std.proofs.Common.{◌≡◌, ◌∷◌, suc, rules, arith}
use Rattle.publish_core.proofs.next.changed_files.Goals as goal

pub loop-pair-preserved : goal.loop-pair-preserved
loop-pair-preserved c =
    let names : c.loop-pair.names.now ≡ c.in-Some-Some.pair.now ∷ c.in-Some-Some.later_names.now = search rules in
    let changes : c.loop-pair.changes.now ≡ c.in-Some-Some.change.now ∷ c.in-Some-Some.later_changes.now = search rules in
    let all = rw (names, changes) at c.loop-pair.invariant.files in
    let writable = rw changes at c.loop-pair.invariant.writable in record {
      files = rw c.in_ok-files.ensures.files at all;
      writable = λ k d within. writable (suc k) d (omega (arith, within));
    }
