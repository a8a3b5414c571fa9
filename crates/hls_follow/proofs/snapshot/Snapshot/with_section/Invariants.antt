use Rattle.std.proofs.Common.{◌≡◌, ◌≤◌, ◌+◌, All, Some, drop, length}
use Rattle.std.specs.Option.{option_copied}
use Rattle.bridge_io.specs.Outside.{Files}
use Rattle.fragment_times.specs.Times.{IsScaled}
use Rattle.hls_follow.specs.{OwnTimes.snapshot_of, Readings.{after, read_row, read_section}}
use Rattle.hls_follow.proofs.snapshot.Snapshot.with_section.Given as goal

-- what is told so far, and then of the tracks that are left, is told of all
abbrev pub invariant-loop-track : goal.invariant-loop-track
invariant-loop-track g l =
    let store = g.F.Store in
    let s = snapshot_of l.fn.self in
    let known = option_copied l.fn.known in
    record {
      files : store.files l.store ≡ store.files l.fn.store;
      writes : store.write_faults l.store ≡ store.write_faults l.fn.store;
      never_falls : store.read_faults l.fn.store ≤ store.read_faults l.store;
      scaled : All IsScaled l.times;
      filled : length l.times ≡ length l.fn.former.value + l.track;
      told : (files : Files) → store.files l.fn.store ≡ Some files
          → after (record { value = l.times; left = l.left }) (read_row s.folder files known l.place l.track (drop l.track s.tracks))
          ≡ after l.fn.former (read_section s files known l.place);
    }
