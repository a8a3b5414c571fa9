use Rattle.std.proofs.Common.{◌≡◌, ◌≤◌, ◌*◌, All, Some, drop, length}
use Rattle.bridge_io.specs.Outside.{Files}
use Rattle.fragment_times.specs.Times.{IsScaled}
use Rattle.hls_follow.specs.{OwnTimes.snapshot_of, Readings.{after, most_bytes, read_from}}
use Rattle.hls_follow.proofs.snapshot.Snapshot.times.Given as goal

-- what is told so far, and then of the sections that are left, is told of all
abbrev pub invariant-loop-number : goal.invariant-loop-number
invariant-loop-number g l =
    let store = g.F.Store in
    let s = snapshot_of l.fn.self in
    record {
      files : store.files l.store ≡ store.files l.fn.store;
      writes : store.write_faults l.store ≡ store.write_faults l.fn.store;
      never_falls : store.read_faults l.fn.store ≤ store.read_faults l.store;
      scaled : All IsScaled l.read.value;
      place : l.place ≡ l.number-index;
      filled : length l.read.value ≡ l.number-index * length s.tracks;
      told : (files : Files) → store.files l.fn.store ≡ Some files
          → after l.read (read_from s files l.place (drop l.number-index s.sections)) ≡ read_from s files 0 s.sections most_bytes;
    }
