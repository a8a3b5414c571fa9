use Rattle.std.proofs.Common.{◌≡◌, ◌≤◌}
use Rattle.bridge_explained.proofs.dropped.playlists_of.Given as goal

abbrev pub invariant-loop-track : goal.invariant-loop-track
invariant-loop-track g l =
    let store = g.F.Store in
    record {
      files : store.files l.store ≡ store.files l.fn.store;
      writes : store.write_faults l.store ≡ store.write_faults l.fn.store;
      reads : store.read_faults l.fn.store ≤ store.read_faults l.store;
    }
