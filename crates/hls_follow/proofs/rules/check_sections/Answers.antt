use Rattle.hls_follow.proofs.rules.check_sections.Goals as goal
use Rattle.std.proofs.{Common.{ℕ, ◌+◌, ap}, lemmas.Result.err_from_is_err_and}
use Rattle.std.specs.Option.{option_copied}
use Rattle.hls_follow.specs.Rules.{judged_section}
use Rattle.hls_follow.proofs.{Judging.{judged_stop, judged_turn}, Keeping.lent_at}

pub returns-in_err-check_section : goal.returns-in_err-check_section
returns-in_err-check_section c =
    let l = c.loop-source in
    let formers = c.args.formers.now in
    let source = c.source-item.result in
    let former = lent_at formers l.place c.get.result c.get.ensures.lookup in
    let fault = err_from_is_err_and c.from_residual.result c.from_residual.ensures.1 in
    rw (fault.1, fault.2)
    (judged_stop judged_section formers l.place c.args.kept.now l.source-index source c.loop-source-test.true c.source-item.is
    (option_copied c.get.result) _ _ former c.in_err-check_section.ensures l.invariant.told)

pub loop-source-preserved : goal.loop-source-preserved
loop-source-preserved c =
    let l = c.loop-source in
    let formers = c.args.formers.now in
    let source = c.source-item.result in
    let former = lent_at formers l.place c.get.result c.get.ensures.lookup in
    record {
      place = ap (λ (n : ℕ). n + 1) l.invariant.place;
      told = judged_turn judged_section formers l.place c.args.kept.now l.source-index source c.loop-source-test.true c.source-item.is
          (option_copied c.get.result) _ former c.in_ok-check_section.ensures l.invariant.told;
    }
