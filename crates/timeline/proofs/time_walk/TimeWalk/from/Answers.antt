use Rattle.timeline.proofs.time_walk.TimeWalk.from.Goals as goal
use Rattle.std.proofs.Common.{ap, arith}
use Rattle.std.specs.Prelude.{option_map}
use Rattle.timeline.specs.{RunSegments.timed, RunTables.slice_runs}
use Rattle.timeline.proofs.WalkLemmas.{begins_in, begins_nowhere, part_laid, part_timings, sorted_ends}

pub count_front-passed-requires : goal.count_front-passed-requires
count_front-passed-requires c = let laid = c.requires.laid (omega (arith, c.if-left-eq0.false)) in
    sorted_ends c.args.place 0 _ (slice_runs c.args.runs) laid.laid

pub from-requires : goal.from-requires
from-requires c =
    let begins = begins_in c.args.place c.args.left c.requires.laid (omega (arith, c.if-left-eq0.false))
    c.count_front-passed.ensures.within c.count_front-passed.ensures.point c.skip.ensures (option_map timed c.split.result.0)
    (slice_runs c.split.result.1) (option_map timed c.split.result.2) c.split.ensures
    (ap (option_map timed) c.in-Some-default-default.is-0) in
    record { is = begins.0; low = begins.1; high = begins.2 }

pub invariant_of-result : goal.invariant_of-result
invariant_of-result c =
    record {
      stands = (
        c.from.ensures.some,
        c.from.ensures.is,
        part_laid c.args.place c.args.left c.requires.laid (omega (arith, c.if-left-eq0.false))
            c.count_front-passed.ensures.within c.count_front-passed.ensures.point c.skip.ensures (option_map timed c.split.result.0)
            (slice_runs c.split.result.1) (option_map timed c.split.result.2) c.split.ensures
            (ap (option_map timed) c.in-Some-default-default.is-0) (timed c.from.result) c.from.ensures,
      );
      countable = λ some. omega (arith, c.requires.countable some, c.from.ensures.placed);
    }

pub returns-in-Some-default-default : goal.returns-in-Some-default-default
returns-in-Some-default-default c =
    part_timings c.args.place c.args.left c.requires.laid (omega (arith, c.if-left-eq0.false))
    c.count_front-passed.ensures.within c.count_front-passed.ensures.point c.skip.ensures (option_map timed c.split.result.0)
    (slice_runs c.split.result.1) (option_map timed c.split.result.2) c.split.ensures
    (ap (option_map timed) c.in-Some-default-default.is-0) (timed c.from.result) c.from.ensures c.args.first_number

pub returns-in-None-default-default : goal.returns-in-None-default-default
returns-in-None-default-default c =
    absurd (begins_nowhere c.args.place c.args.left c.requires.laid (omega (arith, c.if-left-eq0.false))
    c.count_front-passed.ensures.within c.count_front-passed.ensures.point c.skip.ensures (option_map timed c.split.result.0)
    (slice_runs c.split.result.1) (option_map timed c.split.result.2) c.split.ensures
    (ap (option_map timed) c.in-None-default-default.is-0))
