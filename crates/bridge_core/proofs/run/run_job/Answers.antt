use Rattle.bridge_core.proofs.run.run_job.Goals as goal
use Rattle.std.proofs.Common.{Some, refl}
use Rattle.bridge_steps.proofs.Grown.{none_grown}
use Rattle.bridge_core.specs.Courses.{outcome_of_job}
use Rattle.bridge_core.proofs.{Blamed.{command_blamed, not_followed}, Worked.command_worked}

pub run_owned-requires-clause-other : goal.run_owned-requires-clause-other
run_owned-requires-clause-other g c = not_followed c.args.job c.in_default.not-Follow c.in_default.not-FollowHls
    c.in_default.not-FollowHlsTimes

pub returns-in_default : goal.returns-in_default
returns-in_default g c =
    let other = not_followed c.args.job c.in_default.not-Follow c.in_default.not-FollowHls c.in_default.not-FollowHlsTimes in
    let files = g.F.Store.files c.args.store.now in let input = g.I.Source.remaining c.args.input.now in
    let ends = c.run_owned.ensures.ends in
    record {
      work = command_worked c.args.job other files input c.run_owned.result _ _ ends refl refl refl refl;
      blamed = command_blamed (outcome_of_job (Some c.args.job) files) c.args.job c.run_owned.result _ _ other ends refl;
      told = none_grown _ _ refl;
      input = λ _. refl;
      reads = c.run_owned.ensures.reads;
      writes = c.run_owned.ensures.writes;
    }
