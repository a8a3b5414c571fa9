use Rattle.hls_follow.proofs.times.time_all.Goals as goal
use Rattle.std.proofs.{Common.{ℕ, ◌+◌, ◌∷◌, [], ap, length, length-append, arith}, lemmas.Result.err_from_is_err_and}
use Rattle.std.specs.Option.{option_copied}
use Rattle.hls_follow.proofs.{Bounded.bounded_at, Keeping.lent_at, Timing.{track_stop, track_turn}}

pub time_segments-requires : goal.time_segments-requires
time_segments-requires c =
    bounded_at c.args.kept.now c.loop-source.source-index c.source-item.result c.loop-source-test.true c.source-item.is c.requires

pub returns-in_err-timed-clause-timed : goal.returns-in_err-timed-clause-timed
returns-in_err-timed-clause-timed c =
    let l = c.loop-source in
    let formers = c.args.formers.now in
    let fault = err_from_is_err_and c.from_residual.result c.from_residual.ensures.1 in
    rw (fault.1, fault.2)
    (track_stop formers l.place c.args.kept.now l.source-index c.source-item.result c.loop-source-test.true c.source-item.is
    (option_copied c.get.result)
    (lent_at formers l.place c.get.result c.get.ensures.lookup) l.all _ c.in_err-timed.field-0.0 c.in_err-timed.ensures
    l.invariant.told)

pub loop-source-preserved : goal.loop-source-preserved
loop-source-preserved c =
    let l = c.loop-source in
    let formers = c.args.formers.now in
    record {
      place = ap (λ (n : ℕ). n + 1) l.invariant.place;
      all = omega (arith, ap length c.in_ok-push.ensures.ok, length-append l.all (c.in_ok-timed.timed ∷ []), l.invariant.all);
      told = rw c.in_ok-push.ensures.ok
          (track_turn formers l.place c.args.kept.now l.source-index c.source-item.result c.loop-source-test.true c.source-item.is
          (option_copied c.get.result)
          (lent_at formers l.place c.get.result c.get.ensures.lookup) l.all c.in_ok-timed.timed _ c.in_ok-timed.ensures
          l.invariant.told);
    }
