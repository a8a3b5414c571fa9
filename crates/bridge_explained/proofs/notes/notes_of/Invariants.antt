use Rattle.std.proofs.Common.{◌≡◌, ◌≤◌}
use Rattle.bridge_explained.proofs.notes.notes_of.Given as goal

abbrev pub invariant-loop-line : goal.invariant-loop-line
invariant-loop-line g l =
    let store = g.F.Store in
    record {
      files : store.files l.store ≡ store.files l.fn.store;
      writes : store.write_faults l.store ≡ store.write_faults l.fn.store;
      reads : store.read_faults l.fn.store ≤ store.read_faults l.store;
    }
