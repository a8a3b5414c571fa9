use Rattle.hls_follow.proofs.rules.check_reloads.Goals as goal
use Rattle.std.proofs.{Common.{ℕ, ◌+◌, Option, IfSome, sym, ap, subst}, lemmas.Result.err_from_is_err_and}
use Rattle.std.specs.Option.{option_copied}
use Rattle.hls_follow.specs.{declared.state.FollowedTrack.FollowedTrack, Kept.IsEarly, Rules.judged_reload}
use Rattle.hls_follow.proofs.{Bounded.bounded_at, Judging.{judged_stop, judged_turn}, Keeping.{early_at, lent_at}}

pub returns-in_err-check_reload : goal.returns-in_err-check_reload
returns-in_err-check_reload c =
    let l = c.loop-source in
    let formers = c.args.formers.now in
    let source = c.source-item.result in
    let former = lent_at formers l.place c.get.result c.get.ensures.lookup in
    let fault = err_from_is_err_and c.from_residual.result c.from_residual.ensures.1 in
    rw (fault.1, fault.2)
    (judged_stop judged_reload formers l.place c.args.kept.now l.source-index source c.loop-source-test.true c.source-item.is
    (option_copied c.get.result) _ _ former c.in_err-check_reload.ensures l.invariant.told)

pub loop-source-preserved : goal.loop-source-preserved
loop-source-preserved c =
    let l = c.loop-source in
    let formers = c.args.formers.now in
    let source = c.source-item.result in
    let former = lent_at formers l.place c.get.result c.get.ensures.lookup in
    record {
      place = ap (λ (n : ℕ). n + 1) l.invariant.place;
      told = judged_turn judged_reload formers l.place c.args.kept.now l.source-index source c.loop-source-test.true c.source-item.is
          (option_copied c.get.result) _ former c.in_ok-check_reload.ensures l.invariant.told;
    }

pub check_reload-requires-clause-former : goal.check_reload-requires-clause-former
check_reload-requires-clause-former c =
    let l = c.loop-source in
    let formers = c.args.formers.now in
    subst (λ (f : Option FollowedTrack). IfSome f IsEarly) (sym (lent_at formers l.place c.get.result c.get.ensures.lookup))
    (early_at formers l.place c.requires.early)

pub check_reload-requires-clause-media : goal.check_reload-requires-clause-media
check_reload-requires-clause-media c =
    let kept = c.args.kept.now in
    let i = c.loop-source.source-index in
    (bounded_at kept i c.source-item.result c.loop-source-test.true c.source-item.is c.requires.bounded).sequence
