use Rattle.hls_follow.proofs.groups.Groups.of.Goals as goal
use Rattle.std.proofs.Common.{refl, ap, arith, length, length-drop}
use Rattle.hls_follow.proofs.Cutting.{cut_off, left_whole}

pub loop-start-preserved : goal.loop-start-preserved
loop-start-preserved c =
    let l = c.loop-start in
    let all = c.args.segments.now in
    let first = c.first_of-group in
    record {
      told = rw c.in_ok-push.ensures.items
          (cut_off l.groups.items first.result l.start _ all refl first.ensures.cut l.invariant.told);
      fits = omega (arith, first.ensures.fits, ap length (left_whole l.start all), length-drop l.start all, l.invariant.fits);
    }
