use Rattle.bridge_io.proofs.file_writer.FileWriter.push_parts.Given as goal
use Rattle.std.proofs.Common.{◌≡◌, ℕ, List, ◌++◌, ◌≤◌, length, Option}
use Rattle.bridge_io.specs.{Outside.Files, Written.{target, IsBehind}}

-- the writer stands behind the text with what was taken of the piece
abbrev pub invariant-loop-rest : goal.invariant-loop-rest
invariant-loop-rest g l =
    let store = g.F.Store in
    record {
      target : target l.self ≡ target l.fn.self;
      taken : (front : List ℕ) × (front ++ l.rest ≡ l.fn.piece)
          × ((text : List ℕ) (first : Option Files) → IsBehind l.fn.self text first (store.files l.fn.store)
          → IsBehind l.self (text ++ front) first (store.files l.store));
      never_falls : store.write_faults l.fn.store ≤ store.write_faults l.store;
      reads : store.read_faults l.store ≡ store.read_faults l.fn.store;
    }

abbrev pub decreases-loop-rest : goal.decreases-loop-rest
decreases-loop-rest g l = length l.rest
