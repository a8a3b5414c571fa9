-- the tracks so far, and then those that are left, are all
use Rattle.std.proofs.Common.{◌≡◌, ◌≤◌, [], Some, length}
use Rattle.bridge_io.specs.Outside.{Files}
use Rattle.publish_core.specs.Sides.{AreWritable, segment_limit, segments_of, tracks_from}
use Rattle.publish_core.proofs.side.tracks_in.Given as goal

abbrev pub invariant-loop-track : goal.invariant-loop-track
invariant-loop-track g l =
    let store = g.F.Store in
    record {
      files : store.files l.store ≡ store.files l.fn.store;
      writes : store.write_faults l.store ≡ store.write_faults l.fn.store;
      never_falls : store.read_faults l.fn.store ≤ store.read_faults l.store;
      writable : AreWritable l.lists;
      few : segments_of l.lists ≤ segment_limit;
      read : (files : Files) → store.files l.fn.store ≡ Some files
          → tracks_from l.folder l.file files l.lists l.tracks l.names ≡ tracks_from l.folder l.file files [] l.fn.tracks l.fn.names;
    }

abbrev pub decreases-loop-track : goal.decreases-loop-track
decreases-loop-track g l = length l.tracks
