-- the files before this one took their places
use Rattle.std.proofs.Common.{◌≡◌, ◌≤◌, take}
use Rattle.bridge_io.specs.Outside.{Changes}
use Rattle.publish_core.specs.Placed.{all_placed}
use Rattle.publish_core.proofs.written.write_files.Given as goal

abbrev pub invariant-loop-file : goal.invariant-loop-file
invariant-loop-file g l =
    let store = g.F.Store in
    record {
      placed : Changes (all_placed l.pending (take l.file-index l.files)) (store.files l.fn.store) (store.files l.store);
      never_falls : store.write_faults l.fn.store ≤ store.write_faults l.store;
      reads : store.read_faults l.store ≡ store.read_faults l.fn.store;
    }
