-- the files so far, and then those of the tracks that are left, are all
use Rattle.std.proofs.Common.{◌≡◌, [], All, length}
use Rattle.laws_of_publishing.specs.Laws.{IsWritableChange}
use Rattle.publish_core.specs.Decisions.{changed_files}
use Rattle.publish_core.proofs.next.changed_files.Given as goal

abbrev pub invariant-loop-pair : goal.invariant-loop-pair
invariant-loop-pair l = record {
  files : changed_files l.files l.names l.changes ≡ changed_files [] l.fn.names l.fn.changes;
  writable : All IsWritableChange l.changes;
}

abbrev pub decreases-loop-pair : goal.decreases-loop-pair
decreases-loop-pair l = length l.changes
