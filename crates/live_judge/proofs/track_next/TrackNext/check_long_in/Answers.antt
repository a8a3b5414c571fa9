use Rattle.live_judge.proofs.track_next.TrackNext.check_long_in.Goals as goal
use Rattle.std.proofs.Common.{rules, refl, ◌∙◌, ap}
use Rattle.bridge_io.specs.Firsts.{first_of}
use Rattle.live_meaning.specs.Updates.{unit_of}
use Rattle.live_judge.specs.Coming.{c_of}
use Rattle.live_judge.proofs.Totals.{first_in_run, none_in_run}

pub returns-in-Some-first_long : goal.returns-in-Some-first_long
returns-in-Some-first_long c = let l = c.args.self.now in (
  ap first_of c.loop-run.invariant.none
      ∙ first_in_run (unit_of (c_of l).terms) (c_of l).target c.loop-run.times c.next_run.new.self c.in-Some-next_run.run'
      c.in-Some-next_run.ensures _ (rw c.unit-unit.ensures.value at c.in-Some-first_long.ensures) c.in-Some-first_long.printed refl,
  refl,
)

pub loop-run-preserved : goal.loop-run-preserved
loop-run-preserved c = let l = c.args.self.now in record {
  paced = c.in-Some-next_run.ensures.paced;
  none = c.loop-run.invariant.none
      ∙ none_in_run (unit_of (c_of l).terms) (c_of l).target c.loop-run.times c.next_run.new.self c.in-Some-next_run.run'
      c.in-Some-next_run.ensures c.first_long.result (rw c.unit-unit.ensures.value at c.first_long.ensures) (search rules);
}
