use Rattle.bridge_io.proofs.whole_file.slurp.Given as goal
use Rattle.std.proofs.Common.{◌≡◌, ◌+◌, ◌-◌, ◌<◌, ◌≤◌, length, vec_len, Some, is_some, true}
use Rattle.bridge_io.specs.{Outside.{Files, content_of}, Slurped.IsFront}

-- what was read is a front of the file, which is there, and the store is as it was
abbrev pub invariant-loop-store : goal.invariant-loop-store
invariant-loop-store g l =
    let store = g.F.Store in
    record {
      piece : 0 < vec_len l.piece;
      front : (files : Files) → store.files l.fn.store ≡ Some files → (is_some (files l.name) ≡ true)
          × IsFront l.bytes (content_of files l.name);
      files : store.files l.store ≡ store.files l.fn.store;
      never_falls : store.read_faults l.fn.store ≤ store.read_faults l.store;
      writes : store.write_faults l.store ≡ store.write_faults l.fn.store;
    }

abbrev pub decreases-loop-store : goal.decreases-loop-store
decreases-loop-store g l = l.limit + 1 - length l.bytes
