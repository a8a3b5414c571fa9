use Rattle.std.proofs.Common.{◌≡◌, ◌≤◌, Some, drop}
use Rattle.bridge_io.specs.Outside.{Files}
use Rattle.hls_follow.specs.{Readings.{after, read_new, read_starts}, Stretches.stretch_of}
use Rattle.hls_follow.proofs.snapshot.Snapshot.starts_of.Given as goal

-- what is told so far, and then of the segments that are left, is told of all
abbrev pub invariant-loop-segment : goal.invariant-loop-segment
invariant-loop-segment g l =
    let store = g.F.Store in
    let folder = l.fn.self.folder.now in
    record {
      files : store.files l.store ≡ store.files l.fn.store;
      writes : store.write_faults l.store ≡ store.write_faults l.fn.store;
      never_falls : store.read_faults l.fn.store ≤ store.read_faults l.store;
      told : (files : Files) → store.files l.fn.store ≡ Some files
          → after (record { value = l.starts; left = l.left }) (read_new folder files (drop l.segment-index l.segment-items))
          ≡ read_starts folder files (stretch_of l.fn.stretch) l.fn.left;
    }
