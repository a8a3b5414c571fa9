use Rattle.timeline.proofs.builder.RunsBuilder.add_one.Goals as goal
use Rattle.std.proofs.Common.{◌+◌, ◌<◌, ◌^◌, pos, ◌+ℤ◌, refl, arith}
use Rattle.timeline.specs.{declared.run_table.RunTable.RunTable, Ratios.natural, RunSegments.{one_extent, timed}}
use Rattle.timeline.proofs.Laid.{with_members, with_laid, with_timed, none_follows, pushed_own}

pub returns-clause-ok : goal.returns-clause-ok
returns-clause-ok c =
    let mid = c.last_with-run.new.self in
    let table : RunTable = record { laid = mid.table.laid; own = c.push.new.self } in
    let pushed = pushed_own mid.limits.ticks mid.limits.origin mid.table table c.last_with-run.result refl c.in_ok-push.ensures.items in
    with_members c.args.self.now mid (one_extent c.args.start c.args.end)
    (timed c.last_with-run.result) c.last_with-run.ensures _ pushed c.requires.closed

pub returns-clause-laid : goal.returns-clause-laid
returns-clause-laid c =
    let old = c.args.self.now in
    let mid = c.last_with-run.new.self in
    let is = c.last_with-run.ensures in
    let table : RunTable = record { laid = mid.table.laid; own = c.push.new.self } in
    let pushed = pushed_own mid.limits.ticks mid.limits.origin mid.table table c.last_with-run.result refl c.in_ok-push.ensures.items in
    record {
      laid = rw is.total_is (with_laid old mid (one_extent c.args.start c.args.end) (timed c.last_with-run.result) is _ pushed);
      follows = none_follows mid.limits.ticks mid.limits.origin (mid.total + 1) mid.endless (rw is.endless_is c.requires.closed);
      countable = omega (arith, is.total_is, c.requires.countable);
      timed = with_timed old mid (one_extent c.args.start c.args.end) (timed c.last_with-run.result) is _ pushed
          (λ y. natural (y.start.ticks +ℤ pos mid.limits.origin) < 2 ^ 64) (rw is.limits_are c.requires.laid.timed)
          (rw is.limits_are c.requires.timed);
    }
