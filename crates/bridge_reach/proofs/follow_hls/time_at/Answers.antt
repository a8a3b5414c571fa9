use Rattle.std.proofs.Common.{Err, ap, refl, arith}
use Rattle.bridge_courses.specs.Executions.{NeverFalls}
use Rattle.bridge_courses.proofs.Stepping.{falls_then}
use Rattle.bridge_steps.proofs.{Caused.either_later, Grown.none_grown}
use Rattle.bridge_reach.specs.TimedRounds.{course_of}
use Rattle.bridge_reach.proofs.Working.{halt_caused, halt_worked, read_worked, timed_led, work_by_files}
use Rattle.bridge_reach.proofs.follow_hls.time_at.Goals as goal

pub returns-in-Ok-clause-runs : goal.returns-in-Ok-clause-runs
returns-in-Ok-clause-runs g c =
    let read = c.in-Ok.ensures in let ends = c.time_master.ensures.runs in let input = g.I.Source.remaining c.args.input.now in
    let falls : NeverFalls _ _ =
    record { input = omega arith; reads = read.cause.never_falls; writes = omega (arith, read.writes); report = omega arith } in
    record {
      work = read_worked (λ all. course_of c.args.job.now c.args.place all input) (timed_led c.args.job.now c.args.place input)
          (g.F.Store.files c.args.store.now) c.args.place c.time_master.result c.in-Ok.master _ _ _ read.read
          (record { files = read.files; report = refl; made = refl }) refl falls
          (work_by_files c.args.job.now c.args.place c.in-Ok.master input c.time_master.result _ _ _ _ read.files ends.work);
      never_falls = falls_then _ _ _ falls ends.never_falls;
      told = ends.told;
    }

pub returns-in-Ok-clause-caused : goal.returns-in-Ok-clause-caused
returns-in-Ok-clause-caused g c = let read = c.in-Ok.ensures in
    either_later c.time_master.result _ _ _
    (record { input = omega arith; reads = read.cause.never_falls; writes = omega (arith, read.writes); report = omega arith })
    c.time_master.ensures.caused

pub returns-in-Err-clause-runs : goal.returns-in-Err-clause-runs
returns-in-Err-clause-runs g c =
    let read = c.in-Err.ensures in let input = g.I.Source.remaining c.args.input.now in
    let falls : NeverFalls _ _ =
    record { input = omega arith; reads = read.cause.never_falls; writes = omega (arith, read.writes); report = omega arith } in
    record {
      work = halt_worked (λ all. course_of c.args.job.now c.args.place all input) (timed_led c.args.job.now c.args.place input)
          (g.F.Store.files c.args.store.now) c.args.place c.halted.result _ _
          (record { files = read.files; report = refl; made = refl }) refl falls
          c.in-Err.halt c.halted.ensures (λ e. read.cause.rose (ap Err e)) read.read;
      never_falls = falls;
      told = none_grown _ _ refl;
    }

pub returns-in-Err-clause-caused : goal.returns-in-Err-clause-caused
returns-in-Err-clause-caused g c =
    halt_caused c.in-Err.halt c.halted.result _ _ c.halted.ensures (λ e. c.in-Err.ensures.cause.rose (ap Err e))
