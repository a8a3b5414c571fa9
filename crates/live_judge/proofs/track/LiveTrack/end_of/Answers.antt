use Rattle.std.proofs.Common.{◌+◌, arith}
use Rattle.live_judge.specs.Shown.{kept_of}
use Rattle.live_judge.proofs.Blocks.{before_more, end_here, end_past, segments_long}
use Rattle.live_judge.proofs.track.LiveTrack.end_of.Goals as goal

pub loop-end-preserved : goal.loop-end-preserved
loop-end-preserved c = record {
  within = omega (arith, c.len.ensures.len, c.loop-end-test.true);
  before = before_more c.args.self.now c.loop-end.end (kept_of c.get.result.0.now c.get.result.1.now) c.get.ensures (c.args.place + 1)
      (omega (arith, c.if-get-place.true)) c.loop-end.invariant.before;
}

pub returns-else-get-place-clause-is : goal.returns-else-get-place-clause-is
returns-else-get-place-clause-is c =
    end_here c.args.self.now c.loop-end.end (kept_of c.get.result.0.now c.get.result.1.now) c.get.ensures c.args.place
    (omega (arith, c.if-get-place.false)) c.loop-end.invariant.before

pub returns-after-loop-end-clause-is : goal.returns-after-loop-end-clause-is
returns-after-loop-end-clause-is c =
    end_past c.args.self.now c.loop-end.end c.args.place (omega (
      arith,
      c.len.ensures.len,
      c.loop-end-test.false,
      c.loop-end.invariant.within,
      segments_long c.args.self.now c.requires.paired,
    )) c.loop-end.invariant.before
