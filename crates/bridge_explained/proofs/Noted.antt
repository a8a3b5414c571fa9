-- What the explanations leave of a run's environment.
use Rattle.std.proofs.Common.{ℕ, ap₂}
use Rattle.bridge_io.specs.declared.outside.Sink.{Ghosts as Sink}
use Rattle.bridge_io.specs.declared.outside.Store.{Ghosts as Store}
use Rattle.bridge_io.specs.declared.outside.Source.{Ghosts as Source}
use Rattle.bridge_steps.specs.Follow.{world_of}
use Rattle.bridge_explained.specs.Runs.{AddsNotes, AreNotes}

pub noted : {I F P : Type 0} (source : Source I) (store : Store F) (sink : Sink P) (input : I) (before after : F) (report report' : P)
    (made : ℕ) → AddsNotes store sink before after report report'
    → AreNotes (world_of source store sink input before report made) (world_of source store sink input after report' made)
noted source store sink input before after report report' made adds = record {
  notes = adds.notes;
  told = adds.told;
  reads = adds.reads;
  faults = adds.faults;
  rest = ap₂ (λ files writes. record {
    files = files;
    report = sink.written report';
    input = source.remaining input;
    input_faults = source.faults input;
    read_faults = store.read_faults after;
    write_faults = writes;
    report_faults = sink.faults report';
    made = made;
  }) adds.files adds.writes;
}
