use Rattle.std.proofs.Common.{◌≡◌, ◌≤◌, All, Some, length}
use Rattle.bridge_io.specs.Outside.{Files}
use Rattle.presentation.specs.Laws.{HasAddress}
use Rattle.fragment_times.specs.Times.{all_starts, behind, parts_of}
use Rattle.fragment_times.proofs.times.Reading.starts.Given as goal

-- what is told so far, and then of the segments that are left, is told of all
abbrev pub invariant-loop-starts : goal.invariant-loop-starts
invariant-loop-starts g l =
    let store = g.F.Store in
    let folder = l.fn.self.folder.now in
    record {
      files : store.files l.store ≡ store.files l.fn.store;
      writes : store.write_faults l.store ≡ store.write_faults l.fn.store;
      never_falls : store.read_faults l.fn.store ≤ store.read_faults l.store;
      addressed : All (HasAddress l.listing.timeline) l.listing.left;
      told : (files : Files) → store.files l.fn.store ≡ Some files
          → behind l.starts (all_starts folder files (parts_of l.listing.timeline l.listing.left))
          ≡ all_starts folder files (parts_of l.fn.listing.timeline l.fn.listing.left);
    }

abbrev pub decreases-loop-starts : goal.decreases-loop-starts
decreases-loop-starts g l = length l.listing.left
