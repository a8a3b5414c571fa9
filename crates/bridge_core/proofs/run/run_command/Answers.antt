use Rattle.std.proofs.Common.{refl, arith}
use Rattle.bridge_core.proofs.run.run_command.Goals as goal

pub returns-in-Reload-clause-ends : goal.returns-in-Reload-clause-ends
returns-in-Reload-clause-ends g c = let told = c.run_reload.ensures in
    rw c.in-Reload.is
    (record {
      ends = record {
        ending = told.ending;
        made = λ o e counts. refl;
        read_fault = told.read_fault;
        write_fault = λ e. absurd (told.write_fault e);
        reads = told.reads;
        writes = omega (arith, told.writes);
      };
      job = told.job;
    })
