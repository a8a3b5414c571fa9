use Rattle.live_judge.proofs.removal.last_place.Goals as goal
use Rattle.std.proofs.{Common.{rules, ap, length, sum, Fits, w64, arith}, lemmas.List.drop_all}
use Rattle.followed.specs.Durations.{durations}
use Rattle.followed.proofs.KeptPlaces.{is_last_place}
use Rattle.live_judge.specs.{Removal.kept_in, Shown.kept_of}
use Rattle.live_judge.proofs.Removing.{bound_more, durations_long, is_last, not_last, sum_at}

pub loop-place-init : goal.loop-place-init
loop-place-init c =
    let long = durations_long c.args.track.now c.requires in
    let ns = durations (kept_in c.args.track.now) in
    record {
      inside = omega (arith, c.len-place.ensures.len);
      summed = omega (arith, ap sum (drop_all c.len-place.result ns (omega (arith, long, c.len-place.ensures.len))));
      bound = omega arith;
      last = omega (arith, long, c.len-place.ensures.len, (is_last_place c.args.least ns).within);
    }

pub overflow_add-sum : goal.overflow_add-sum
overflow_add-sum c =
    let fits : Fits w64 c.duration_of.result = search rules in
    omega (
      arith,
      bound_more (length c.args.track.now.facts.items) c.loop-place.place c.loop-place.sum c.from-sum.result (search rules)
          (search rules) (omega (arith, c.from-sum.ensures, fits.fits)) c.loop-place.invariant.bound,
    )

pub loop-place-preserved : goal.loop-place-preserved
loop-place-preserved c =
    let kept = c.loop-place.invariant in
    let at = sum_at c.args.track.now c.loop-place.place (kept_of c.get.result.0.now c.get.result.1.now) (omega arith) (search rules) in
    let fits : Fits w64 c.duration_of.result = search rules in
    record {
      inside = omega (arith, kept.inside);
      summed = omega (arith, kept.summed, at, c.from-sum.ensures, c.duration_of.ensures);
      bound = omega (arith, kept.bound, kept.inside, c.from-sum.ensures, fits.fits);
      last = not_last c.args.least (durations (kept_in c.args.track.now)) c.loop-place.place (omega arith) kept.last
          (omega (arith, kept.summed));
    }

pub returns-else-sum-least : goal.returns-else-sum-least
returns-else-sum-least c =
    let kept = c.loop-place.invariant in
    is_last c.args.least (durations (kept_in c.args.track.now)) c.loop-place.place kept.last (omega (arith, kept.summed))
    (omega (arith, kept.inside, durations_long c.args.track.now c.requires))

pub returns-after-loop-place : goal.returns-after-loop-place
returns-after-loop-place c = omega (arith, c.loop-place.invariant.last)
