use Rattle.std.proofs.Common.{ap, arith}
use Rattle.live_judge.specs.Seconds.{capped}
use Rattle.live_judge.proofs.Totals.{durations_there}
use Rattle.live_judge.proofs.track_next.TrackNext.total.Goals as goal

pub loop-section-init : goal.loop-section-init
loop-section-init c = record {
  sums = rw (durations_there c.args.self.now c.requires.next) (ap capped (omega arith));
  bound = omega arith;
}
