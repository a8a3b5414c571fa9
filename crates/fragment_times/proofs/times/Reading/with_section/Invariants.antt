use Rattle.std.proofs.Common.{◌≡◌, ◌≤◌, ◌+◌, All, Some, length}
use Rattle.bridge_io.specs.Outside.{Files}
use Rattle.presentation.proofs.Counts.{from_on}
use Rattle.fragment_times.specs.Times.{IsScaled, behind, each, section_times, times_at}
use Rattle.fragment_times.proofs.times.Reading.with_section.Given as goal

-- what is told so far, and then of the tracks that are left, is told of all
abbrev pub invariant-loop-track : goal.invariant-loop-track
invariant-loop-track g l =
    let store = g.F.Store in
    let folder = l.fn.self.folder.now in
    let p = l.fn.self.presentation.now in
    record {
      files : store.files l.store ≡ store.files l.fn.store;
      writes : store.write_faults l.store ≡ store.write_faults l.fn.store;
      never_falls : store.read_faults l.fn.store ≤ store.read_faults l.store;
      scaled : All IsScaled l.times;
      filled : length l.times ≡ length l.fn.former + l.track;
      told : (files : Files) → store.files l.fn.store ≡ Some files
          → behind l.times (each (times_at folder files p l.section) (from_on l.track (length p.tracks)))
          ≡ behind l.fn.former (section_times folder files p l.section);
    }
