use Rattle.live_judge.proofs.track.LiveTrack.begin_of.Goals as goal
use Rattle.std.proofs.{Common.{◌-◌, refl, arith}, lemmas.Bool.Decides.nat_tests}
use Rattle.live_judge.specs.Shown.{kept_of}
use Rattle.live_judge.proofs.Blocks.{of_more}

pub loop-begin-preserved : goal.loop-begin-preserved
loop-begin-preserved c =
    let k = kept_of c.get.result.0.now c.get.result.1.now in
    let begin = c.loop-begin.begin in
    record {
      rises = omega (arith, c.loop-begin.invariant.rises);
      all = of_more c.args.self.now (begin - 1) k c.get.ensures c.args.place c.args.section begin c.args.end refl
          (grind (arith, nat_tests, c.if-fact-place.false, c.if-item-section.false)) c.loop-begin.invariant.all;
    }
