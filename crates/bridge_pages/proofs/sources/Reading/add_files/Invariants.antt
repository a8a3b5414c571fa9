-- what was read so far, with the files that are left, is what all are
use Rattle.std.proofs.Common.{◌≡◌, ◌≤◌, drop}
use Rattle.std.specs.Option.{ForSome}
use Rattle.bridge_pages.specs.Sources.{files_behind}
use Rattle.bridge_pages.proofs.sources.Reading.add_files.Given as goal

abbrev pub invariant-loop-name : goal.invariant-loop-name
invariant-loop-name g l =
    record {
      told : ForSome (g.F.Store.files l.fn.store) (λ files.
          files_behind l.most l.self files (drop l.name-index l.names) ≡ files_behind l.most l.fn.self files l.names);
      files : g.F.Store.files l.store ≡ g.F.Store.files l.fn.store;
      faults : g.F.Store.read_faults l.fn.store ≤ g.F.Store.read_faults l.store;
    }
