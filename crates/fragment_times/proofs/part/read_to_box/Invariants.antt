use Rattle.std.proofs.Common.{◌≡◌, ◌≤◌, ◌<◌, ◌-◌, Some, Ok, length}
use Rattle.bridge_io.specs.Outside.{Files}
use Rattle.box_reader.specs.Parts.{part_of}
use Rattle.fragment_times.specs.Parts.{IsPassed}
use Rattle.fragment_times.proofs.part.read_to_box.Given as goal

-- what is read so far are the part's first bytes
abbrev pub invariant-loop-most : goal.invariant-loop-most
invariant-loop-most g l =
    let store = g.F.Store in
    record {
      files : store.files l.store ≡ store.files l.fn.store;
      writes : store.write_faults l.store ≡ store.write_faults l.fn.store;
      never_falls : store.read_faults l.fn.store ≤ store.read_faults l.store;
      some : l.most < l.limit → 0 < l.most;
      within : l.most ≤ l.limit;
      few : length l.bytes ≤ l.most;
      before : l.from ≤ length l.bytes;
      passed : IsPassed l.kind l.first l.from l.bytes;
      told : (files : Files) → store.files l.fn.store ≡ Some files → part_of l.first l.most (files l.fn.file) ≡ Ok l.bytes;
    }

abbrev pub decreases-loop-most : goal.decreases-loop-most
decreases-loop-most g l = l.limit - l.most
