use Rattle.index_parts.proofs.located.Setting.with_kind.Given as goal
use Rattle.std.proofs.Common.{◌≡◌, ◌≤◌, All, Some}
use Rattle.bridge_io.specs.Outside.{Files}
use Rattle.presentation.specs.Presented.{IsEnded}
use Rattle.index_parts.specs.{Kept.kind_kept, Rows.rows_left}

abbrev pub invariant-loop-view : goal.invariant-loop-view
invariant-loop-view g l =
    let store = g.F.Store in
    record {
      can_next : (goal.iterator-loop-view g).can_next l.view-iterator;
      finite : (goal.iterator-loop-view g).is_finite l.view-iterator;
      files : store.files l.store ≡ store.files l.fn.store;
      writes : store.write_faults l.store ≡ store.write_faults l.fn.store;
      never_falls : store.read_faults l.fn.store ≤ store.read_faults l.store;
      ended : All IsEnded l.gathering.contents;
      told : (files : Files) → store.files l.fn.store ≡ Some files
          → kind_kept l.fn.self.url.now l.fn.self.folder.now files l.kind l.gathering (rows_left l.view-iterator)
          ≡ kind_kept l.fn.self.url.now l.fn.self.folder.now files l.kind l.fn.former (rows_left l.fn.walk);
    }
