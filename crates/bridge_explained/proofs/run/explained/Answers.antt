use Rattle.bridge_explained.proofs.Noted.{noted}
use Rattle.bridge_explained.proofs.run.explained.Goals as goal

pub returns-clause-run : goal.returns-clause-run
returns-clause-run g c =
    let plain = c.bridge-status.ensures in
    record {
      mid = _;
      plain = record {
        run = plain.run;
        complete = plain.complete;
        usage = plain.words;
        read_fault = plain.read_fault;
        write_fault = plain.write_fault;
        told = plain.told;
        reads = plain.reads;
        writes = plain.writes;
      };
      notes = noted g.I.Source g.F.Store _ _ _ _ _ _ _ c.write_notes.ensures;
    }
