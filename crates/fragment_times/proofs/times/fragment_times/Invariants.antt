use Rattle.fragment_times.proofs.times.fragment_times.Given as goal
use Rattle.std.proofs.Common.{◌≡◌, ◌≤◌, ◌*◌, All, Some, length}
use Rattle.bridge_io.specs.{Outside.Files, Answer.gathered}
use Rattle.presentation.specs.Counting.{sections_of}
use Rattle.presentation.proofs.Counts.{from_on}
use Rattle.fragment_times.specs.Times.{IsScaled, behind, section_times}

-- what is told so far, and then of the sections that are left, is told of all
abbrev pub invariant-loop-section : goal.invariant-loop-section
invariant-loop-section g l =
    let store = g.F.Store in
    let folder = l.fn.folder in
    let p = l.fn.presentation in
    record {
      files : store.files l.store ≡ store.files l.fn.store;
      writes : store.write_faults l.store ≡ store.write_faults l.fn.store;
      never_falls : store.read_faults l.fn.store ≤ store.read_faults l.store;
      scaled : All IsScaled l.times;
      filled : length l.times ≡ l.section * length p.tracks;
      told : (files : Files) → store.files l.fn.store ≡ Some files
          → behind l.times (gathered (section_times folder files p) (from_on l.section (length p.sections)))
          ≡ gathered (section_times folder files p) (sections_of p);
    }
