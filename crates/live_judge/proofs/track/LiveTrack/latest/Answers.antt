use Rattle.std.proofs.Common.{◌-◌, refl, ap, arith}
use Rattle.live_meaning.specs.Segments.{Segment}
use Rattle.live_judge.specs.Shown.{kept_of}
use Rattle.live_judge.proofs.Blocks.{block_is, is_it, none_before_it}
use Rattle.live_judge.proofs.track.LiveTrack.latest.Goals as goal

pub returns-then-end-eq0 : goal.returns-then-end-eq0
returns-then-end-eq0 c =
    let end = c.end_of-end.result in
    none_before_it c.args.self.now c.args.place (record { begin = end; end = end }) c.requires.paired c.requires.ordered
    c.end_of-end.ensures.is refl (omega (arith, c.if-end-eq0.true))

pub returns : goal.returns
returns c =
    let end = c.end_of-end.result in
    let k = kept_of c.get.result.0.now c.get.result.1.now in
    block_is c.args.self.now c.args.place (record {
      begin = c.begin_of-begin.result;
      end = end;
    }) c.requires.paired c.requires.ordered c.end_of-end.ensures.is
    c.get.result.0.now.section c.begin_of-begin.ensures
    (λ w some at. ap (λ (y : Segment). y.section) (is_it c.args.self.now (end - 1) k c.get.ensures (end - 1) w at refl))
